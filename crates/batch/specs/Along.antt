-- What is done link by link, along a chain of the table.
--
--   along F step f m p   what is done for each of at most f links that are met from the place p on: the step makes of the memory and the link's label the
--                        memory for the next
use Rattle.std.specs.Prelude.{ℕ, zero, suc, List}
use Rattle.memory.specs.Options.{given}
use Rattle.chains.specs.declared.chain_table.ChainTable.{ChainTable}
use Rattle.chains.specs.Tables.{node}
use Rattle.chains.specs.Walks.{met}

unfoldable pub along : ChainTable → (List ℕ → ℕ → List ℕ) → ℕ → List ℕ → ℕ → List ℕ
along F step zero m p = m
along F step (suc f) m p = given (met F m p) m (λ x. along F step f (step m x.label) (node F x.held))

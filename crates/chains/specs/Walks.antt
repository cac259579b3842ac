-- Walks along a chain.
--
--   met_by g p         what the cell at p holds, if anything, by the numbers g of a table's column
--   met F m p          what the cell at p holds, if anything
--   walked_by f F g p  what is met from the place p on, at most f of it, by the numbers g
--   walked f F m p     what is met from the place p on, at most f of it
--   walk_left w        what a walk has left
use Rattle.std.specs.Prelude.{ℕ, zero, suc, cond, List, [], ◌∷◌, Option, Some, None, ◌==◌}
use Rattle.memory.specs.Columns.{cell}
use Rattle.memory.specs.Options.{given}
use Rattle.chains.specs.declared.cells.Pointer.{Pointer}
use Rattle.chains.specs.declared.chain_table.ChainTable.{ChainTable}
use Rattle.chains.specs.declared.walk.Walk.{Walk}
use Rattle.chains.specs.Packing.{decoded}
use Rattle.chains.specs.Tables.{node}

abbrev pub met_by : (ℕ → ℕ) → ℕ → Option Pointer
met_by g p = cond ((decoded (g p)).next.held == 0) None (Some (decoded (g p)).next)

abbrev pub met : ChainTable → List ℕ → ℕ → Option Pointer
met F m p = met_by (cell m F.cells) p

unfoldable pub walked_by : ℕ → ChainTable → (ℕ → ℕ) → ℕ → List Pointer
walked_by zero F g p = []
walked_by (suc f) F g p = given (met_by g p) [] (λ x. x ∷ walked_by f F g (node F x.held))

abbrev pub walked : ℕ → ChainTable → List ℕ → ℕ → List Pointer
walked f F m p = walked_by f F (cell m F.cells) p

abbrev pub walk_left : Walk → List Pointer
walk_left w = walked w.steps w.table w.memory.now w.place

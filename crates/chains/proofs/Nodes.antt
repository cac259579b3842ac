-- Where the cells of entries lie.
use Rattle.std.proofs.Common.{◌≡◌, ℕ, ◌+◌, ◌<◌, arith}
use Rattle.chains.specs.declared.cells.TheConstants.{HELD}
use Rattle.chains.specs.declared.chain_table.ChainTable.{ChainTable}
use Rattle.chains.specs.Tables.{node}

pub node_apart : (F : ChainTable) (a b : ℕ) → a < HELD → b < HELD → (a ≡ b → ⊥) → node F a ≡ node F b → ⊥
unfolding node
node_apart F a b i j n e = omega arith

pub node_above : (F : ChainTable) (a k : ℕ) → k < F.heads → k ≡ node F a → ⊥
unfolding node
node_above F a k i e = omega arith

pub node_inside : (F : ChainTable) (a : ℕ) → a < HELD → F.heads + a < F.cells.size → node F a < F.cells.size
unfolding node
node_inside F a i j = omega arith

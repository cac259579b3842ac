-- Zeros.
use Rattle.std.proofs.Common.{◌≡◌, ℕ, ◌+◌, get_or, replicate, inl, inr, arith}
use lib.ListN.{length-replicate}
use Rattle.std.proofs.lemmas.Bool.Decides.{nat_tests}
use Rattle.std.proofs.lemmas.Bool.{cases_lt}
use Rattle.std.proofs.lemmas.List.{get_or-replicate, get_or_past}
use Rattle.memory.specs.declared.column.Column.{Column}
use Rattle.memory.specs.Columns.{cell}

read_zeros : (n i : ℕ) → get_or {A = ℕ} (replicate n 0) i 0 ≡ 0
read_zeros n i = elim (cases_lt i n) [
  | inl h ↦ get_or-replicate {A = ℕ} n i 0 0 h
  | inr h ↦ get_or_past {X = ℕ} (replicate n 0) i 0 (omega (arith, length-replicate {A = ℕ} n 0))
]

pub cell_zeros : (n : ℕ) (c : Column) (i : ℕ) → cell (replicate n 0) c i ≡ 0
unfolding cell
cell_zeros n c i = let e = read_zeros n (c.base + i) in grind (arith, nat_tests)

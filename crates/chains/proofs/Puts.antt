-- What putting a cell does to the cells of a table.
use Rattle.std.proofs.Common.{◌≡◌, ℕ, ◌+◌, ◌<◌, ◌≤◌, false, cond, eqb, List, length, refl, ap, ◌∙◌, inl, inr, arith}
use Rattle.std.proofs.lemmas.Bool.{cases_eq, eq-eqb}
use Rattle.std.proofs.lemmas.Bool.Decides.{nat_tests}
use Rattle.chains.specs.declared.cells.Cell.{Cell}
use Rattle.chains.specs.declared.chain_table.ChainTable.{ChainTable}
use Rattle.chains.specs.Packing.{encoded, decoded, Fits}
use Rattle.chains.specs.Tables.{at, put}
use Rattle.chains.proofs.Packing.{decoded_encoded}
use Rattle.memory.proofs.Cells.{cell_same, cell_other}

pub put_at : (F : ChainTable) (m : List ℕ) → F.cells.base + F.cells.size ≤ length m → (p : ℕ) (x : Cell) → p < F.cells.size → Fits x → (q : ℕ)
    → at F (put F m p x) q ≡ cond (eqb q p) x (at F m q)
put_at F m room p x i f q = elim (cases_eq q p) [
  | inl e ↦ rw (e, eq-eqb p p refl) (ap decoded (cell_same m F.cells p (encoded x) i (omega arith)) ∙ decoded_encoded x f)
  | inr n ↦ let u : eqb q p ≡ false = grind (arith, nat_tests) in rw u (ap decoded (cell_other m F.cells p q (encoded x) n))
]

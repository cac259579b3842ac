-- What turning a bit changes, and what it leaves.
use Rattle.std.proofs.Common.{◌≡◌, ℕ, ◌+◌, ◌/◌, ◌%◌, ◌^◌, ◌<◌, ◌≤◌, cond, not, eqb, List, length, ⊎_elim, arith}
use lib.Bits.{bit_xor}
use Rattle.std.proofs.lemmas.Nat.{xor_lt, pow_below}
use Rattle.std.proofs.lemmas.Bool.{cases_eq}
use Rattle.std.proofs.lemmas.Bool.Decides.{nat_tests}
use Rattle.memory.specs.declared.column.Column.{Column}
use Rattle.memory.specs.Columns.{cell}
use Rattle.memory.proofs.Cells.{length_written, cell_same, cell_other}
use Rattle.memory.specs.PlaceSets.{bit, flipped}
use Rattle.memory.proofs.Words.{digit_turned, digit_kept}

pub length_flipped : (m : List ℕ) (c : Column) (s i : ℕ) → length (flipped m c s i) ≡ length m
unfolding flipped
length_flipped m c s i = length_written m c _ _

pub cell_flipped : (m : List ℕ) (c : Column) (s i j : ℕ) → (j ≡ s + i / 64 → ⊥) → cell (flipped m c s i) c j ≡ cell m c j
unfolding flipped
cell_flipped m c s i j ne = cell_other m c _ j _ ne

module _ (m : List ℕ) (c : Column) (s i : ℕ) (inside : s + i / 64 < c.size) (lies : c.base + c.size ≤ length m) where
  cell_turned : cell (flipped m c s i) c (s + i / 64) ≡ bit_xor (cell m c (s + i / 64)) (2 ^ (i % 64))
  unfolding flipped
  cell_turned = cell_same m c _ _ inside (omega arith)

  pub bit_flipped : (j : ℕ) → bit (flipped m c s i) c s j ≡ cond (eqb j i) (not (bit m c s j)) (bit m c s j)
  unfolding bit
  bit_flipped j =
      let t = cell_turned in
      let o = cell_flipped m c s i (s + j / 64) in
      let a = digit_turned (cell m c (s + i / 64)) (i % 64) in
      let b = digit_kept (cell m c (s + i / 64)) (i % 64) (j % 64) in
      grind (arith, nat_tests)

  pub fits_flipped : ((j : ℕ) → cell m c j < 2 ^ 64) → (j : ℕ) → cell (flipped m c s i) c j < 2 ^ 64
  fits_flipped fits j =
      ⊎_elim (λ (e : j ≡ s + i / 64). rw (e, cell_turned) (xor_lt 64 _ _ (fits (s + i / 64)) (pow_below (i % 64) 64 (omega arith))))
      (λ n. rw (cell_flipped m c s i j n) (fits j)) (cases_eq j (s + i / 64))

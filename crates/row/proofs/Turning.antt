-- What marking a seat changes, and what it leaves.
use Rattle.std.proofs.Common.{◌≡◌, ℕ, ◌+◌, ◌-◌, ◌/◌, ◌%◌, ◌^◌, ◌<◌, ◌≤◌, Bool, not, ◌&&◌, ◌||◌, eqb, List, length, refl, ap, ◌∙◌, ⊎_elim, w64, arith}
use lib.Bits.{bit_and, bit_or}
use Rattle.std.specs.Int.{bit_at}
use Rattle.std.proofs.lemmas.Nat.{pow_below}
use Rattle.std.proofs.lemmas.Nat.Bits.{bit_at_or, bit_at_and, bit_at_not, bit_at-pow_same, bit_at-pow_other, bit_at-lt}
use Rattle.std.proofs.lemmas.Bool.{cases_eq}
use Rattle.std.proofs.lemmas.Bool.Decides.{nat_tests}
use Rattle.memory.specs.Columns.{cell, written}
use Rattle.memory.proofs.Cells.{cell_same, cell_other, cell_apart}
use Rattle.row.specs.declared.layout.TheConstants.{SEATS_MOST, SLOTS, TAKEN}
use Rattle.row.specs.Meaning.{digit, bit_set, taken}
use Rattle.row.specs.Moves.{marked, unmarked}

digit_or : (w k t : ℕ) → digit (bit_or w (2 ^ k)) t ≡ (eqb t k || digit w t)
unfolding digit
digit_or w k t =
    let a = bit_at_or w (2 ^ k) t in
    let b = bit_at-lt w t in
    ⊎_elim (λ (e : t ≡ k). let s = bit_at-pow_same k in let r : bit_at (2 ^ k) t ≡ 1 = ap (bit_at (2 ^ k)) e ∙ s in grind (arith, nat_tests))
    (λ n. let s = bit_at-pow_other k t n in grind (arith, nat_tests)) (cases_eq t k)

digit_and_not : (w k t : ℕ) → k < 64 → t < 64 → digit (bit_and w (18446744073709551615 - 2 ^ k)) t ≡ (digit w t && not (eqb t k))
unfolding digit
digit_and_not w k t h l =
    let a = bit_at_and w (18446744073709551615 - 2 ^ k) t in
    let b = bit_at-lt w t in
    let n = bit_at_not w64 (2 ^ k) t (pow_below k 64 h) l in
    ⊎_elim (λ (e : t ≡ k). let s = bit_at-pow_same k in let r : bit_at (2 ^ k) t ≡ 1 = ap (bit_at (2 ^ k)) e ∙ s in grind (arith, nat_tests))
    (λ ne. let s = bit_at-pow_other k t ne in grind (arith, nat_tests)) (cases_eq t k)

pub slot_unmarked : (m : List ℕ) (p i : ℕ) → cell (unmarked m p) SLOTS i ≡ cell m SLOTS i
unfolding unmarked
slot_unmarked m p i = cell_apart m TAKEN SLOTS (p / 64) i _ refl

module _ (m : List ℕ) (p : ℕ) (h : p < SEATS_MOST) (long : TAKEN.base + TAKEN.size ≤ length m) where
  inside : p / 64 < TAKEN.size
  inside = omega arith

  -- a bit of the word that is written, and a word beside it
  taken_by : (n : List ℕ) (v : ℕ) (f : ℕ → Bool) → n ≡ written m TAKEN (p / 64) v →
      ((q : ℕ) → q / 64 ≡ p / 64 → digit v (q % 64) ≡ f q) → ((q : ℕ) → (q / 64 ≡ p / 64 → ⊥) → taken m q ≡ f q) → (q : ℕ) → taken n q ≡ f q
  unfolding bit_set
  taken_by n v f e near far q =
      ap (λ (x : List ℕ). digit (cell x TAKEN (q / 64)) (q % 64)) e
      ∙ ⊎_elim
      (λ (s : q / 64 ≡ p / 64).
      ap (λ (i : ℕ). digit (cell (written m TAKEN (p / 64) v) TAKEN i) (q % 64)) s
      ∙ ap (λ (w : ℕ). digit w (q % 64)) (cell_same m TAKEN (p / 64) v inside (omega arith)) ∙ near q s)
      (λ s. ap (λ (w : ℕ). digit w (q % 64)) (cell_other m TAKEN (p / 64) (q / 64) v s) ∙ far q s)
      (cases_eq (q / 64) (p / 64))

  pub taken_marked : (q : ℕ) → taken (marked m p) q ≡ (eqb q p || taken m q)
  unfolding marked bit_set
  taken_marked = taken_by (marked m p) (bit_or (cell m TAKEN (p / 64)) (2 ^ (p % 64))) (λ q. eqb q p || taken m q) refl
      (λ q s.
      let d = digit_or (cell m TAKEN (p / 64)) (p % 64) (q % 64) in
      let c : digit (cell m TAKEN (q / 64)) (q % 64) ≡ digit (cell m TAKEN (p / 64)) (q % 64) = ap (λ (i : ℕ). digit (cell m TAKEN i) (q % 64)) s in
      grind (arith, nat_tests))
      (λ q s. grind (arith, nat_tests))

  pub taken_unmarked : (q : ℕ) → taken (unmarked m p) q ≡ (taken m q && not (eqb q p))
  unfolding unmarked bit_set
  taken_unmarked = taken_by (unmarked m p) (bit_and (cell m TAKEN (p / 64)) (18446744073709551615 - 2 ^ (p % 64))) (λ q. taken m q && not (eqb q p)) refl
      (λ q s.
      let d = digit_and_not (cell m TAKEN (p / 64)) (p % 64) (q % 64) (omega arith) (omega arith) in
      let c : digit (cell m TAKEN (q / 64)) (q % 64) ≡ digit (cell m TAKEN (p / 64)) (q % 64) = ap (λ (i : ℕ). digit (cell m TAKEN i) (q % 64)) s in
      grind (arith, nat_tests))
      (λ q s. grind (arith, nat_tests))

-- What the summary says of the places of a word, and what a bit says of its place.
use Rattle.std.proofs.Common.{◌≡◌, ℕ, ◌+◌, ◌/◌, ◌%◌, ◌<◌, true, false, List, ap, ◌∙◌, ⊎_elim, zero-add, arith}
use Rattle.std.proofs.lemmas.Bool.{cases_lt}
use Rattle.std.proofs.lemmas.Bool.Decides.{nat_tests}
use Rattle.memory.specs.declared.place_set.TheConstants.{PLACES, WORDS}
use Rattle.memory.specs.declared.column.Column.{Column}
use Rattle.memory.specs.Columns.{cell}
use Rattle.memory.specs.PlaceSets.{bit, marked}
use Rattle.memory.specs.PlaceSetLaws.{Summed}
use Rattle.memory.proofs.Words.{digit_zero}
use Rattle.memory.proofs.Adding.{marked_past}

pub bit_empty : (m : List ℕ) (c : Column) (r : ℕ) → cell m c (r / 64) ≡ 0 → bit m c 0 r ≡ false
unfolding bit
bit_empty m c r e = digit_zero (cell m c (0 + r / 64)) (r % 64) (ap (cell m c) (zero-add (r / 64)) ∙ e)

module _ (m : List ℕ) (c : Column) (sm : Summed m c) where
  pub not_named : (v : ℕ) → v < WORDS → bit m c WORDS v ≡ false → cell m c v ≡ 0
  not_named v h e = let s = sm.sums v h in grind (arith, nat_tests)

  pub some_named : (v : ℕ) → v < WORDS → bit m c WORDS v ≡ true → cell m c v ≡ 0 → ⊥
  some_named v h e z = let s = sm.sums v h in grind (arith, nat_tests)

  pub none_named : (r : ℕ) → r < PLACES → bit m c WORDS (r / 64) ≡ false → bit m c 0 r ≡ false
  none_named r h e = bit_empty m c r (not_named (r / 64) (omega arith) e)

pub marked_bit : (m : List ℕ) (c : Column) (q : ℕ) → q < PLACES → bit m c 0 q ≡ true → marked m c q ≡ true
unfolding marked
marked_bit m c q h e = grind (arith, nat_tests)

pub unmarked : (m : List ℕ) (c : Column) (r : ℕ) → (r < PLACES → bit m c 0 r ≡ false) → marked m c r ≡ false
unfolding marked
unmarked m c r none = ⊎_elim (λ h. let e = none h in grind (arith, nat_tests)) (λ h. marked_past m c r h) (cases_lt r PLACES)

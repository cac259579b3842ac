-- Only the column itself is written, and what is marked depends on its cells alone.
use Rattle.std.proofs.Common.{◌≡◌, ℕ, zero, suc, ◌+◌, ◌/◌, ◌%◌, Bool, not, ◌&&◌, eqb, ltb, List, [], ◌∷◌, Some, None, Option, sym, ap, ◌∙◌, arith}
use Rattle.std.proofs.lemmas.Nat.{xor_lt, pow_below}
use Rattle.memory.specs.declared.place_set.TheConstants.{PLACES, WORDS, TOPS}
use Rattle.memory.specs.declared.column.Column.{Column}
use Rattle.memory.specs.Columns.{cell, written}
use Rattle.memory.specs.Options.{given}
use Rattle.memory.specs.Footprints.{Writes}
use Rattle.memory.specs.PlaceSets.{digit, bit, marked, flipped, toggled, fresh, added, removed, word_up, cleared, untopped, wiped}
use Rattle.memory.specs.PlaceSetLaws.{CellsAlone}
use Rattle.memory.proofs.Cells.{small_cell}
use Rattle.memory.proofs.Footprints.{same, on, either, put_one}

module _ (c : Column) where
  writes_flipped : (m : List ℕ) (s i : ℕ) → Writes (c ∷ []) m (flipped m c s i)
  unfolding flipped
  writes_flipped m s i = put_one m c _ _ (λ a. xor_lt 64 _ _ (small_cell m c (s + i / 64) a) (pow_below (i % 64) 64 (omega arith)))

  writes_toggled : (m : List ℕ) (p : ℕ) → Writes (c ∷ []) m (toggled m c p)
  unfolding toggled
  writes_toggled m p = let w = writes_flipped m 0 p in either _ m _ _ _ (on _ m _ _ w (writes_flipped _ WORDS (p / 64))) w

  pub writes_added : (m : List ℕ) (p : ℕ) → Writes (c ∷ []) m (added m c p)
  unfolding added
  writes_added m p = either _ m (fresh m c p) _ _ (writes_toggled m p) (same _ m)

  pub writes_removed : (m : List ℕ) (p : ℕ) → Writes (c ∷ []) m (removed m c p)
  unfolding removed
  writes_removed m p = either _ m (marked m c p) _ _ (writes_toggled m p) (same _ m)

  zeroed : (m : List ℕ) (i : ℕ) → Writes (c ∷ []) m (written m c i 0)
  zeroed m i = put_one m c i 0 (λ _. omega arith)

  given_one : (m : List ℕ) (o : Option ℕ) (g : ℕ → List ℕ) → ((v : ℕ) → Writes (c ∷ []) (written m c v 0) (g v)) → Writes (c ∷ []) m (given o m g)
  given_one m None g h = same _ m
  given_one m (Some v) g h = on _ m _ _ (zeroed m v) (h v)

  writes_cleared : (f : ℕ) (m : List ℕ) (w : ℕ) → Writes (c ∷ []) m (cleared f m c w)
  unfolding cleared
  writes_cleared zero m w = same _ m
  writes_cleared (suc f) m w = given_one m (word_up m c w) _ (λ v. writes_cleared f _ (v + 1))

  writes_untopped : (f : ℕ) (m : List ℕ) (t : ℕ) → Writes (c ∷ []) m (untopped f m c t)
  unfolding untopped
  writes_untopped zero m t = same _ m
  writes_untopped (suc f) m t = on _ m _ _ (zeroed m (WORDS + t)) (writes_untopped f _ (t + 1))

  pub writes_wiped : (m : List ℕ) → Writes (c ∷ []) m (wiped m c)
  unfolding wiped
  writes_wiped m = on _ m _ _ (writes_cleared WORDS m 0) (writes_untopped TOPS _ 0)

bit_alone : (m n : List ℕ) (c : Column) (s i : ℕ) → ((j : ℕ) → cell n c j ≡ cell m c j) → bit n c s i ≡ bit m c s i
unfolding bit
bit_alone m n c s i e = ap (λ (x : ℕ). digit x (i % 64)) (e (s + i / 64))

pub cells_alone : CellsAlone
unfolding marked CellsAlone
cells_alone m n c e = (
  λ q. ap (λ (b : Bool). ltb q PLACES && b) (bit_alone m n c 0 q e),
  λ lies sm. record {
    room = sm.room;
    lies = lies;
    fits = λ i. rw (e i) (sm.fits i);
    sums = λ w h. bit_alone m n c WORDS w e ∙ sm.sums w h ∙ ap (λ (x : ℕ). not (eqb x 0)) (sym (e w));
  },
)

-- What forgetting does and leaves as it was.
use Rattle.std.proofs.Common.{◌≡◌, ℕ, zero, suc, ◌+◌, ◌-◌, ◌*◌, ◌/◌, ◌%◌, ◌^◌, ◌<◌, ◌≤◌, List, [], ◌∷◌, Some, None, Option, refl, ◌∙◌, arith}
use Rattle.std.proofs.lemmas.Nat.{trailing_le}
use Rattle.std.proofs.lemmas.Bool.Decides.{nat_tests}
use Rattle.search.proofs.Common.{CARDS, Column, PLACES, cell, Within, Writes, next_bit, tops_up, word_up, up_from, next_up, first_mark, wiped, Summed}
use Rattle.search.proofs.Common.{CellsAlone, SLOTS, SEATS, CHOSEN, FORE, HIND, sets, gathered, gathers, both_first, both_next, seated, dealt, forgotten}
use Rattle.search.proofs.Common.{chose, reseated, settled}
use Rattle.memory.proofs.Options.{given_holds}
use Rattle.memory.proofs.Alone.{writes_wiped, cells_alone}
use Rattle.memory.proofs.Cells.{small_cell}
use Rattle.memory.proofs.Footprints.{same, on, less, after, put_one}
use Rattle.memory.proofs.Wiping.{wiping}
use Rattle.row.proofs.Framing.{put_at_writes}
use Rattle.search.specs.SettleLaws.{Unmarked, Forgets}

pub writes_forgotten : (m : List ℕ) → Writes sets m (forgotten m)
unfolding forgotten
writes_forgotten m =
    let n = wiped m HIND.column in
    after sets (FORE.column ∷ []) m n (wiped n FORE.column) refl (writes_wiped FORE.column n)
    (less sets (HIND.column ∷ []) m n refl (writes_wiped HIND.column m))

pub forgets_all : (m : List ℕ) → Summed m FORE.column → Summed m HIND.column → Unmarked (forgotten m)
unfolding forgotten CellsAlone
forgets_all m sf sh =
    let n = wiped m HIND.column in
    let a = writes_wiped HIND.column m in
    let b = writes_wiped FORE.column n in
    let wh = wiping m HIND.column sh in
    let lies = sf.lies in
    let wf = wiping n FORE.column ((cells_alone m n FORE.column (λ i. a.others FORE.column i refl)).1 (rw a.as_long lies) sf) in
    let back = cells_alone n (wiped n FORE.column) HIND.column (λ i. b.others HIND.column i refl) in
    record {
      fore_summed = wf.0;
      hind_summed = back.1 (rw b.as_long wh.0.lies) wh.0;
      fore_none = wf.1;
      hind_none = λ p. back.0 p ∙ wh.1 p;
    }

pub forgets : (m m' : List ℕ) → m' ≡ forgotten m → Forgets m m'
unfolding Forgets
forgets m m' e sf sh = rw e (forgets_all m sf sh)

-- Whatever stands in the memory, a seat that is found is a small number. So many words hold the bits, and so many words of the summary these have:
abbrev words : ℕ
words = PLACES / 64

abbrev tops : ℕ
tops = words / 64

module _ (m : List ℕ) (c : Column) where
  bit_within : (s i n : ℕ) → i + 64 < n → Within n (next_bit m c s i)
  unfolding next_bit
  bit_within s i n h = let t = trailing_le 64 (cell m c (s + i / 64) / 2 ^ (i % 64)) in grind arith

  tops_within : (f t : ℕ) → t + f ≤ tops → Within 1024 (tops_up f m c t)
  unfolding tops_up
  tops_within zero t h = tt
  tops_within (suc f) t h =
      let a = bit_within words (t * 64) 1024 (omega arith) in
      let b = tops_within f (t + 1) (omega arith) in
      grind arith

  up_within : (p : ℕ) → Within 131072 (up_from m c p)
  unfolding up_from word_up
  up_within p =
      let a = bit_within 0 p 131072 in
      let w = p / 64 + 1 in
      let b = bit_within words w 1024 in
      let t = tops_within (tops - (w / 64 + 1)) (w / 64 + 1) in
      let g = given_holds (Within 1024) (Within 131072) (word_up m c w) None (λ v. next_bit m c 0 (v * 64)) (grind (arith, nat_tests)) tt
      (λ v h. bit_within 0 (v * 64) 131072 (omega arith)) in
      grind (arith, nat_tests)

gathered_writes : (f : ℕ) (m : List ℕ) (c : Column) (o : Option ℕ) (i : ℕ) → Writes (CHOSEN ∷ []) m (gathered f m c o i).memory
unfolding gathered
gathered_writes zero m c o i = same _ m
gathered_writes (suc f) m c None i = same _ m
gathered_writes (suc f) m c (Some p) i = on _ m _ _ (put_one m CHOSEN i _ (small_cell m SLOTS p)) (gathered_writes f _ c _ (i + 1))

dealt_writes : (f : ℕ) (m : List ℕ) (o : Option ℕ) (i : ℕ) → Within 131072 o → Writes (SLOTS ∷ SEATS ∷ []) m (dealt f m o i)
unfolding dealt seated both_next next_up
dealt_writes zero m o i w = same _ m
dealt_writes (suc f) m None i w = same _ m
dealt_writes (suc f) m (Some p) i w =
    let n = seated m p i in
    let a = up_within n HIND.column (p + 1) in
    let b = up_within n FORE.column (p + 1) in
    on _ m n _ (put_at_writes m p (cell m CHOSEN i) (λ _. omega arith) (small_cell m CHOSEN i)) (dealt_writes f n (both_next n p) (i + 1) (grind (arith, nat_tests)))

pub settled_writes : (m : List ℕ) → Writes (SLOTS ∷ SEATS ∷ CHOSEN ∷ sets) m (settled m)
unfolding settled chose gathers both_first first_mark
settled_writes m =
    let n = chose m in
    let a = up_within n HIND.column 0 in
    let b = up_within n FORE.column 0 in
    after _ sets m _ _ refl (writes_forgotten (reseated m))
    (after _ (SLOTS ∷ SEATS ∷ []) m n _ refl (dealt_writes CARDS n (both_first n) 0 (grind arith))
    (less _ (CHOSEN ∷ []) m n refl (on _ m _ _ (gathered_writes CARDS m HIND.column _ 0) (gathered_writes CARDS _ FORE.column _ _))))

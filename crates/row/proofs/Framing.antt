-- The columns of this crate are all that its operations write. Over the models: m is the memory before.
use Rattle.std.proofs.Common.{◌≡◌, ℕ, zero, suc, ◌+◌, ◌-◌, ◌/◌, ◌%◌, ◌^◌, ◌<◌, ◌≤◌, true, ltb, List, [], ◌∷◌, refl, inl, inr, arith}
use Rattle.std.proofs.lemmas.Nat.{and_le_l, or_lt, pow_below}
use Rattle.std.proofs.lemmas.Bool.{cases_Bool, cond_both, ltb-true}
use Rattle.memory.proofs.Options.{given_holds}
use Rattle.order.specs.declared.board.TheConstants.{CARDS}
use Rattle.order.specs.Outcomes.{Outcome}
use Rattle.memory.specs.declared.column.Column.{Column}
use Rattle.memory.specs.Columns.{cell, written, apart}
use Rattle.memory.specs.Footprints.{Small, Writes, clear}
use Rattle.memory.proofs.Cells.{small_cell, cell_apart}
use Rattle.memory.proofs.Footprints.{same, on, less, after, either, put, put_one}
use Rattle.row.specs.declared.layout.TheConstants.{SEATS_MOST, HEADS, COUNT, ENDING, FRESH, FREE, IDS, CHAIN, SLOTS, SEATS, TAKEN}
use Rattle.row.specs.declared.lookup.Entry.{Entry}
use Rattle.row.specs.Columns.{columns}
use Rattle.row.specs.Lookup.{EntryBelow, bucket, found, sought, entered, withdrawn}
use Rattle.row.specs.Meaning.{count, ending, free, taken}
use Rattle.row.specs.Moves.{marked, unmarked, put_at, seated_at, moved, drawn, packed_from, compacted, roomy, tidied, packed, slot_for, slot_taken, slot_freed, joined, arrived, came, left, gone}
use Rattle.row.proofs.Seeking.{sought_low}

abbrev pub seating : List Column
seating = SLOTS ∷ SEATS ∷ TAKEN ∷ []

abbrev pub packing : List Column
packing = ENDING ∷ SLOTS ∷ SEATS ∷ TAKEN ∷ []

abbrev pub leaving : List Column
leaving = COUNT ∷ FREE ∷ SEATS ∷ TAKEN ∷ []

-- columns that aren't written stay, as a whole
pub column_same : {fs : List Column} {m n : List ℕ} → Writes fs m n → (c : Column) → clear fs c ≡ true → cell n c ≡ cell m c
column_same {fs} {m} {n} w c h = λ t i. w.others c i h t

pub written_same : (m : List ℕ) (c d : Column) (i v : ℕ) → apart c d ≡ true → cell (written m c i v) d ≡ cell m d
written_same m c d i v h = λ t j. cell_apart m c d i j v h t

-- seats
pub marked_writes : (m : List ℕ) (p : ℕ) → Writes (TAKEN ∷ []) m (marked m p)
unfolding marked
marked_writes m p = put_one m TAKEN (p / 64) _ (λ s. or_lt 64 _ _ (small_cell m TAKEN (p / 64) s) (pow_below (p % 64) 64 (omega arith)))

pub unmarked_writes : (m : List ℕ) (p : ℕ) → Writes (TAKEN ∷ []) m (unmarked m p)
unfolding unmarked
unmarked_writes m p =
    put_one m TAKEN (p / 64) _ (λ s. omega (arith, and_le_l (cell m TAKEN (p / 64)) (18446744073709551615 - 2 ^ (p % 64)), small_cell m TAKEN (p / 64) s))

module _ (m : List ℕ) (p s : ℕ) (fp : Small m → p < 2 ^ 64) (fs : Small m → s < 2 ^ 64) where
  pub put_at_writes : Writes (SLOTS ∷ SEATS ∷ []) m (put_at m p s)
  put_at_writes = put _ _ _ SEATS s p refl fp (put _ _ _ SLOTS p s refl fs (same _ m))

  pub seated_writes : Writes seating m (seated_at m p s)
  unfolding seated_at
  seated_writes = after _ _ _ _ _ refl (marked_writes (put_at m p s) p) (less _ _ _ _ refl put_at_writes)

module _ (m : List ℕ) (p q : ℕ) (fq : q < 2 ^ 64) where
  pub moved_writes : Writes seating m (moved m p q)
  unfolding moved
  moved_writes =
      let u = unmarked_writes m p in
      on _ _ _ _ (less _ _ _ _ refl u)
      (seated_writes (unmarked m p) q (cell m SLOTS p) (λ _. fq) (λ s. rw (← u.others SLOTS p refl) (small_cell (unmarked m p) SLOTS p s)))

  pub drawn_writes : Writes seating m (drawn m p q)
  drawn_writes = either _ m _ _ _ moved_writes (same _ m)

pub packed_from_writes : (f : ℕ) (m : List ℕ) (p k : ℕ) → k ≤ p → p + f ≤ SEATS_MOST → Writes packing m (packed_from f m p k)
unfolding packed_from
packed_from_writes zero m p k l h = put _ _ _ ENDING 0 k refl (λ _. omega arith) (same _ m)
packed_from_writes (suc f) m p k l h = elim (cases_Bool (taken m p)) [
  | inl y ↦
      rw y (on _ _ _ _ (less _ _ _ _ refl (drawn_writes m p k (omega arith)))
      (packed_from_writes f (drawn m p k) (p + 1) (k + 1) (omega arith) (omega arith)))
  | inr y ↦ rw y (packed_from_writes f m (p + 1) k (omega arith) (omega arith))
]

pub compacted_writes : (m : List ℕ) → Writes packing m (compacted m)
unfolding compacted
compacted_writes m = packed_from_writes (ending m) m 0 0 (omega arith) (omega arith)

pub roomy_writes : (m : List ℕ) → Writes packing m (roomy m)
unfolding roomy
roomy_writes m = either _ m _ _ _ (compacted_writes m) (same _ m)

pub tidied_writes : (m : List ℕ) → Writes packing m (tidied m)
unfolding tidied
tidied_writes m = either _ m _ _ _ (compacted_writes m) (same _ m)

pub packed_writes : (m : List ℕ) → Writes packing m (packed m)
unfolding packed
packed_writes m = either _ m _ _ _ (same _ m) (compacted_writes m)

-- slots and cards
pub slot_low : (m : List ℕ) → slot_for m < CARDS
unfolding slot_for
slot_low m = omega arith

pub slot_freed_writes : (m : List ℕ) (s : ℕ) → s < CARDS → Writes (FREE ∷ SEATS ∷ []) m (slot_freed m s)
unfolding slot_freed
slot_freed_writes m s low = put _ _ _ FREE 0 (s + 1) refl (λ _. omega arith) (put _ _ _ SEATS s (free m) refl (small_cell m FREE 0) (same _ m))

module _ (m : List ℕ) (s : ℕ) (low : s < CARDS) where
  pub slot_taken_writes : Writes (FRESH ∷ FREE ∷ []) m (slot_taken m s)
  unfolding slot_taken
  slot_taken_writes =
      either _ m _ _ _ (put _ _ _ FRESH 0 (s + 1) refl (λ _. omega arith) (same _ m))
      (put _ _ _ FREE 0 (cell m SEATS s) refl (small_cell m SEATS s) (same _ m))

  pub entered_writes : (k : ℕ) → k < 2 ^ 64 → Writes (IDS ∷ CHAIN ∷ []) m (entered m s k)
  unfolding entered
  entered_writes k fk =
      put _ _ _ CHAIN (bucket k) (s + 1) refl (λ _. omega arith)
      (put _ _ _ CHAIN (HEADS + s) (cell m CHAIN (bucket k)) refl (small_cell m CHAIN (bucket k)) (put _ _ _ IDS s k refl (λ _. fk) (same _ m)))

  pub joined_writes : Writes packing m (joined m s)
  unfolding joined
  joined_writes =
      put _ _ _ ENDING 0 (ending m + 1) refl (λ _. omega arith) (less _ _ _ _ refl (seated_writes m (ending m) s (λ _. omega arith) (λ _. omega arith)))

  pub left_writes : Writes leaving m (left m s)
  unfolding left
  left_writes =
      put _ _ _ COUNT 0 (count m - 1) refl (λ t. let z = small_cell m COUNT 0 t in omega arith)
      (after _ _ _ _ _ refl (slot_freed_writes _ s low) (less _ _ _ _ refl (unmarked_writes m (cell m SEATS s))))

pub withdrawn_writes : (m : List ℕ) (e : Entry) → Writes (CHAIN ∷ []) m (withdrawn m e)
unfolding withdrawn
withdrawn_writes m e = put_one m CHAIN e.pointer (cell m CHAIN (HEADS + e.number)) (small_cell m CHAIN (HEADS + e.number))

pub arrived_writes : (m : List ℕ) (n k : ℕ) → n < CARDS → k < 2 ^ 64 → Writes columns m (arrived m n k)
unfolding arrived
arrived_writes m n k h fk =
    let s = slot_for m in
    let l = slot_low m in
    put _ _ _ COUNT 0 (n + 1) refl (λ _. omega arith)
    (after _ _ _ _ _ refl (joined_writes _ s l) (after _ _ _ _ _ refl (entered_writes _ s l k fk) (less _ _ _ _ refl (slot_taken_writes m s l))))

abbrev Wrote : List ℕ → Outcome → Type 0
Wrote m o = Writes columns m o.memory

pub came_writes : (m : List ℕ) (k : ℕ) → k < 2 ^ 64 → Writes columns m (came m k).memory
unfolding came
came_writes m k fk =
    given_holds (λ _. Unit {0}) (Wrote m) (found m k) _ _ tt
    (cond_both (ltb (count m) CARDS) _ _ (Wrote m)
    (λ e. on _ _ _ _ (less _ _ _ _ refl (roomy_writes m)) (arrived_writes (roomy m) (count m) k (ltb-true _ _ e) fk)) (λ _. same _ m))
    (λ _ _. same _ m)

pub gone_writes : (m : List ℕ) (k : ℕ) → Writes columns m (gone m k).memory
unfolding gone
gone_writes m k =
    given_holds EntryBelow (Wrote m) (sought CARDS m (bucket k) k) _ _ (sought_low CARDS m (bucket k) k) (same _ m)
    (λ x b. after _ _ _ _ _ refl (tidied_writes _) (after _ _ _ _ _ refl (left_writes _ x.number b) (less _ _ _ _ refl (withdrawn_writes m x))))

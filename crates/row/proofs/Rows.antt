-- The row in the memory: who is in it, and where; a slot takes a seat.
use Rattle.std.proofs.Common.{◌≡◌, ℕ, ◌+◌, ◌*◌, ◌/◌, ◌<◌, ◌≤◌, true, false, ◌||◌, eqb, ltb, List, length, get_or, sym, refl, ap, ◌∙◌, subst, inl, inr, arith}
use Rattle.std.proofs.lemmas.Bool.{cases_eq, cases_lt, cases_Bool, both_ways, and_parts, eqb-true, ltb-true, lt-ltb, le-ltb}
use Rattle.order.specs.declared.board.TheConstants.{CARDS}
use Rattle.order.specs.Lists.{has, place}
use Rattle.memory.specs.Columns.{cell, written}
use Rattle.memory.proofs.Cells.{length_written, cell_same, cell_other, cell_apart}
use Rattle.row.specs.declared.layout.TheConstants.{SEATS_MOST, ENDING, SLOTS, SEATS, TAKEN}
use Rattle.row.specs.Meaning.{bit_set, in_use, count, ending, taken, rank, taken_from, placed, row_of, used, Seating, IsRow}
use Rattle.row.specs.Moves.{put_at, seated_at}
use Rattle.row.proofs.Turning.{taken_marked}
use Rattle.row.proofs.Framing.{written_same, marked_writes}
use Rattle.row.proofs.Listing.{length_listed}
use Rattle.row.proofs.Along.{has_not, has_there, place_there, get_there, amount_before, amount_gap}
use Rattle.row.proofs.Counting.{rank_up}
use Rattle.row.proofs.Seatings.{sits_used, one_seat, free_from, Takes}

-- the part of a row that speaks of seats
pub record Seated (m : List ℕ) : Type 0 where
  pub long : TAKEN.base + TAKEN.size ≤ length m
  pub stands : Seating (count m) (ending m) (cell m SLOTS) (cell m SEATS) (taken m)

pub seated : (m : List ℕ) → IsRow m → Seated m
seated m S = record { long = S.long; stands = S.stands.seated }

pub ending_written : (m : List ℕ) (e : ℕ) → TAKEN.base + TAKEN.size ≤ length m → e ≤ SEATS_MOST → ending (written m ENDING 0 e) ≡ e
ending_written m e l h = let c = cell_same m ENDING 0 e (omega arith) (omega arith) in omega arith

-- who is in the row
module _ (m : List ℕ) (sm : Seated m) where
  pub within : (p : ℕ) → taken m p ≡ true → p < ending m
  within p h = sm.stands.below p h

  pub room : (p : ℕ) → taken m p ≡ true → p < SEATS_MOST
  room p h = let w = within p h in omega arith

  pub length_row : length (row_of m) ≡ count m
  length_row = length_listed (cell m SLOTS) (taken m) (ending m) ∙ sym sm.stands.counts

  -- a slot in the row has its seat
  pub sitting : (s : ℕ) → used m s ≡ true → (s < CARDS) × (taken m (cell m SEATS s) ≡ true) × (cell m SLOTS (cell m SEATS s) ≡ s)
  unfolding in_use
  sitting s h =
      let a = and_parts _ _ h in let b = and_parts _ _ a.1 in
      (ltb-true s CARDS a.0, b.0, eqb-true _ _ b.1)

  pub at_seat : (p : ℕ) → taken m p ≡ true → used m (cell m SLOTS p) ≡ true
  at_seat = sits_used sm.stands

  pub has_is : (s : ℕ) → has (row_of m) s ≡ used m s
  has_is s = elim (cases_Bool (used m s)) [
    | inl h ↦ let w = sitting s h in rw (h, ← w.2) (has_there (cell m SLOTS) (taken m) (cell m SEATS s) (ending m) (within _ w.1) w.1)
    | inr h ↦ has_not (cell m SLOTS) (taken m) s (ending m) (λ p l y e. both_ways (used m s) h (ap (used m) (sym e) ∙ at_seat p y)) ∙ sym h
  ]

  -- and its place is the rank of that
  pub place_is : (s : ℕ) → used m s ≡ true → place (row_of m) s ≡ rank m (cell m SEATS s)
  place_is s h =
      let w = sitting s h in
      let p : ℕ = cell m SEATS s in
      subst (λ (x : ℕ). place (row_of m) x ≡ rank m p) w.2
      (place_there (cell m SLOTS) (taken m) p (ending m) (within p w.1) w.1 (λ q y e. one_seat sm.stands q p y w.1 e))

  pub slot_is : (p : ℕ) → taken m p ≡ true → get_or (row_of m) (rank m p) 0 ≡ cell m SLOTS p
  slot_is p h = get_there (cell m SLOTS) (taken m) p (ending m) (within p h) h

  pub rank_below : (p : ℕ) → taken m p ≡ true → rank m p < length (row_of m)
  rank_below p h = let a = amount_before (taken m) p (ending m) (within p h) h in let l = length_listed (cell m SLOTS) (taken m) (ending m) in omega arith

  -- counted from the nearer end it is the same
  pub placed_is : (p : ℕ) → taken m p ≡ true → placed m p ≡ rank m p
  unfolding placed taken_from
  placed_is p h =
      let e : ending m ≤ (ending m + 63) / 64 * 64 = omega arith in
      let g = amount_gap (taken m) (ending m) ((ending m + 63) / 64 * 64) e (λ q l _. free_from sm.stands q l) in
      let c = sm.stands.counts in
      let w = within p h in
      let u = rank_up m p ((ending m + 63) / 64 * 64) (omega arith) in
      elim (cases_lt p (ending m / 2)) [ inl l ↦ rw (lt-ltb p (ending m / 2) l) refl | inr l ↦ rw (le-ltb p (ending m / 2) l) (omega arith) ]

  -- the order of seats is the order of places
  pub order_is : (s t : ℕ) → used m s ≡ true → used m t ≡ true → ltb (cell m SEATS s) (cell m SEATS t) ≡ ltb (place (row_of m) s) (place (row_of m) t)
  order_is s t h k =
      let a = sitting s h in let b = sitting t k in
      let p : ℕ = cell m SEATS s in
      let q : ℕ = cell m SEATS t in
      rw (place_is s h, place_is t k) (elim (cases_lt p q) [
        | inl l ↦ lt-ltb p q l ∙ sym (lt-ltb (rank m p) (rank m q) (amount_before (taken m) p q l a.1))
        | inr l ↦ le-ltb p q l ∙ sym (le-ltb (rank m p) (rank m q) (elim (cases_eq p q) [
          | inl e ↦ let w = ap (rank m) e in omega arith
          | inr ne ↦ let w = amount_before (taken m) q p (omega arith) b.1 in omega arith
        ]))
      ])

  pub nowhere : (s : ℕ) → used m s ≡ false → (p : ℕ) → taken m p ≡ true → cell m SLOTS p ≡ s → ⊥
  nowhere s h p y e = both_ways (used m s) h (ap (used m) (sym e) ∙ at_seat p y)

-- a slot takes a seat
pub seated_takes : (m : List ℕ) (p k : ℕ) → TAKEN.base + TAKEN.size ≤ length m → p < SEATS_MOST → k < CARDS →
    Takes p k (cell m SLOTS) (cell m SEATS) (cell (seated_at m p k) SLOTS) (cell (seated_at m p k) SEATS) (taken m) (taken (seated_at m p k))
unfolding seated_at
seated_takes m p k long room low =
    let n = written m SLOTS p k in
    let l = length_written m SLOTS p k in let l' = length_written n SEATS k p in
    let w = marked_writes (put_at m p k) p in
    record {
      low = low;
      slot_at = w.others SLOTS p refl ∙ cell_apart n SEATS SLOTS k p p refl ∙ cell_same m SLOTS p k room (omega arith);
      slot_else = λ q ne. w.others SLOTS q refl ∙ cell_apart n SEATS SLOTS k q p refl ∙ cell_other m SLOTS p q k ne;
      seat_at = w.others SEATS k refl ∙ cell_same n SEATS k p low (omega arith);
      seat_else = λ j ne. w.others SEATS j refl ∙ cell_other n SEATS k j p ne ∙ cell_apart m SLOTS SEATS p j k refl;
      held = λ q.
          taken_marked (put_at m p k) p room (omega arith) q
          ∙ ap (λ (t : ℕ → ℕ). eqb q p || bit_set t q) (written_same n SEATS TAKEN k p refl ∙ written_same m SLOTS TAKEN p k refl);
    }

-- Seats are taken and given up, cards come and go, as the code goes.
--
--   marked m p           the memory with the bit of the seat p set; unmarked: cleared
--   put_at m p s         the memory with the slot s at the seat p, and p at s
--   seated_at m p s      the memory after the slot s took the seat p
--   moved m p q          the memory after the slot at the seat p took the seat q in its place
--   drawn m p q          the same, if q is before p
--   packed_from f m p k  the memory after the slots at the next f seats from p on took the seats from k on, and the row ended there
--   compacted m          the memory after all slots took the first seats
--   roomy m              the same, if there is no seat behind all
--   tidied m             the same, if too many seats are free among those in use
--   packed m             the same, if any is
--
--   slot_for m           the slot of a card that comes: the one that became free last, or the first that was never in use
--   slot_taken m s       the memory after that slot was taken
--   slot_freed m s       the memory after the slot s became free
--   joined m s           the memory after the slot s took the seat behind all
--   arrived m n k        the memory after the card k came, as one more than n
--   came m k             a card came
--   left m s             the memory after the slot s gave up its seat and became free
--   gone m k             a card went
--   place_found m k      the place of a card
use Rattle.std.specs.Prelude.{ℕ, zero, suc, ◌+◌, ◌-◌, ◌/◌, ◌%◌, ◌^◌, min, cond, List, Some, None, Ok, Option, bit_and, bit_or, nat_lt, nat_le, ◌==◌}
use Rattle.order.specs.declared.board.TheConstants.{CARDS}
use Rattle.order.specs.declared.board.Refusal.TheVariants.{Missing, Exists, Full}
use Rattle.order.specs.Outcomes.{Outcome, refused}
use Rattle.memory.specs.Options.{given}
use Rattle.memory.specs.Columns.{cell, written}
use Rattle.row.specs.declared.layout.TheConstants.{SEATS_MOST, SPARE, COUNT, ENDING, FRESH, FREE, SLOTS, SEATS, TAKEN}
use Rattle.row.specs.Lookup.{bucket, sought, found, entered, withdrawn}
use Rattle.row.specs.Meaning.{count, ending, fresh, free, taken, place_at}

unfoldable pub marked : List ℕ → ℕ → List ℕ
marked m p = written m TAKEN (p / 64) (bit_or (cell m TAKEN (p / 64)) (2 ^ (p % 64)))

unfoldable pub unmarked : List ℕ → ℕ → List ℕ
unmarked m p = written m TAKEN (p / 64) (bit_and (cell m TAKEN (p / 64)) (18446744073709551615 - 2 ^ (p % 64)))

abbrev pub put_at : List ℕ → ℕ → ℕ → List ℕ
put_at m p s = written (written m SLOTS p s) SEATS s p

unfoldable pub seated_at : List ℕ → ℕ → ℕ → List ℕ
seated_at m p s = marked (put_at m p s) p

unfoldable pub moved : List ℕ → ℕ → ℕ → List ℕ
moved m p q = seated_at (unmarked m p) q (cell m SLOTS p)

abbrev pub drawn : List ℕ → ℕ → ℕ → List ℕ
drawn m p q = cond (nat_lt q p) (moved m p q) m

unfoldable pub packed_from : ℕ → List ℕ → ℕ → ℕ → List ℕ
packed_from zero m p k = written m ENDING 0 k
packed_from (suc f) m p k = packed_from f (cond (taken m p) (drawn m p k) m) (p + 1) (cond (taken m p) (k + 1) k)

unfoldable pub compacted : List ℕ → List ℕ
compacted m = packed_from (ending m) m 0 0

unfoldable pub roomy : List ℕ → List ℕ
roomy m = cond (nat_le SEATS_MOST (ending m)) (compacted m) m

unfoldable pub tidied : List ℕ → List ℕ
tidied m = cond (nat_lt (count m) (ending m - count m - SPARE)) (compacted m) m

unfoldable pub packed : List ℕ → List ℕ
packed m = cond (ending m == count m) m (compacted m)

unfoldable pub slot_for : List ℕ → ℕ
slot_for m = min (cond (free m == 0) (fresh m) (free m - 1)) (CARDS - 1)

unfoldable pub slot_taken : List ℕ → ℕ → List ℕ
slot_taken m s = cond (free m == 0) (written m FRESH 0 (s + 1)) (written m FREE 0 (cell m SEATS s))

unfoldable pub slot_freed : List ℕ → ℕ → List ℕ
slot_freed m s = written (written m SEATS s (free m)) FREE 0 (s + 1)

unfoldable pub joined : List ℕ → ℕ → List ℕ
joined m s = written (seated_at m (ending m) s) ENDING 0 (ending m + 1)

unfoldable pub arrived : List ℕ → ℕ → ℕ → List ℕ
arrived m n k = written (joined (entered (slot_taken m (slot_for m)) (slot_for m) k) (slot_for m)) COUNT 0 (n + 1)

unfoldable pub came : List ℕ → ℕ → Outcome
came m k =
    given (found m k)
    (cond (nat_lt (count m) CARDS) (record { answer = Ok (slot_for (roomy m)); memory = arrived (roomy m) (count m) k }) (refused m Full))
    (λ _. refused m Exists)

unfoldable pub left : List ℕ → ℕ → List ℕ
left m s = written (slot_freed (unmarked m (cell m SEATS s)) s) COUNT 0 (count m - 1)

unfoldable pub gone : List ℕ → ℕ → Outcome
gone m k =
    given (sought CARDS m (bucket k) k) (refused m Missing)
    (λ e. record { answer = Ok e.number; memory = tidied (left (withdrawn m e) e.number) })

unfoldable pub place_found : List ℕ → ℕ → Option ℕ
place_found m k = given (found m k) None (λ s. Some (place_at m s))

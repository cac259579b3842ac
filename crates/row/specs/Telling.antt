-- Seats are looked for, and cards are told.
--
--   first_from f n p      the first of the n numbers from p on that passes the test f; p + n, if none does
--   next_seat m p         the first taken seat from p on; the number of seats, if there is none
--   selected m n          the taken seat that has n taken ones before it; the number of seats, if there is none
--   NextIn f p o          o is the first number from p on, among the 64 of its word, that passes the test f, or there is none
--   Coming m w p r        the set bits of r are the taken seats of the word w, from p on
--   Between w n a k       of the set bits of the word w, that which has n before it is one of the k from a on
--   tells f m p i out     `out` after the cards at the next f taken seats from p on were written to it, from i on
--   tellable m p n out    the row has n cards from the place p on, and `out` room for them
--   told m p n out        `out` after the cards from the place p on, n of them, were written to its front
--   told_count m p n out  how many were written
use Rattle.std.specs.Prelude.{◌≡◌, ℕ, zero, suc, ◌+◌, ◌-◌, ◌*◌, ◌/◌, ◌%◌, ◌^◌, ◌<◌, ◌≤◌, min, Bool, true, false, cond, ◌&&◌, List, Some, None, Option, length, ◌==◌, nat_le, count_ones, slice_set}
use Rattle.order.specs.declared.board.TheConstants.{CARDS}
use Rattle.memory.specs.Columns.{cell}
use Rattle.row.specs.declared.layout.TheConstants.{SEATS_MOST, IDS, SLOTS}
use Rattle.row.specs.Meaning.{count, digit, taken, rank}

unfoldable pub first_from : (ℕ → Bool) → ℕ → ℕ → ℕ
first_from f zero p = p
first_from f (suc n) p = cond (f p) p (first_from f n (p + 1))

unfoldable pub next_seat : List ℕ → ℕ → ℕ
next_seat m p = first_from (taken m) (SEATS_MOST - p) (min p SEATS_MOST)

unfoldable pub selected : List ℕ → ℕ → ℕ
selected m n = first_from (λ p. taken m p && rank m p == n) SEATS_MOST 0

abbrev pub NextIn : (ℕ → Bool) → ℕ → Option ℕ → Type 0
NextIn f p None = (r : ℕ) → p ≤ r → r < (p / 64 + 1) * 64 → f r ≡ false
NextIn f p (Some q) = (q < SEATS_MOST) × (f q ≡ true) × (p ≤ q) × ((r : ℕ) → p ≤ r → r < q → f r ≡ false)

abbrev pub Coming : List ℕ → ℕ → ℕ → ℕ → Type 0
Coming m w p r = (r < 2 ^ 64) × ((j : ℕ) → j < 64 → digit r j ≡ (nat_le p (w * 64 + j) && taken m (w * 64 + j)))

abbrev pub Between : ℕ → ℕ → ℕ → ℕ → Type 0
Between w n a k = (count_ones (w % 2 ^ a) ≤ n) × (n < count_ones (w % 2 ^ (a + k)))

unfoldable pub tells : ℕ → List ℕ → ℕ → ℕ → List ℕ → List ℕ
tells zero m p i out = out
tells (suc f) m p i out = tells f m (next_seat m p + 1) (i + 1) (slice_set out i (cell m IDS (cell m SLOTS (next_seat m p))))

abbrev pub tellable : List ℕ → ℕ → ℕ → List ℕ → Bool
tellable m p n out = nat_le (p + n) (min (count m) CARDS) && nat_le n (length out)

unfoldable pub told : List ℕ → ℕ → ℕ → List ℕ → List ℕ
told m p n out = cond (tellable m p n out) (tells n m (selected m p) 0 out) out

unfoldable pub told_count : List ℕ → ℕ → ℕ → List ℕ → ℕ
told_count m p n out = cond (tellable m p n out) n 0

-- What is so of the row in its memory, in the words of the board: m is the memory before, m' after, r what was answered.
--
--   gaps m             how many seats are free among those in use
--   room_turns m       how many seats are gone through to make room for a card, if there is no seat behind all: all in use, or none
--   tidy_turns n e     and to tidy the row, when n cards are left on e seats
--   Came m k s m'      a card came, into a slot: it is last, and the others stay; if few seats were free among those in use, few are
--                      (`paid` in it and in Gone: each gap pays for two seats that are gone through, so that in all they are no more than twice those who went)
--   Comes m k r m'     a card that comes is last; it's refused if it's there, or if there is no room
--   Gone m k s m'      a card went, out of a slot: the others stay in their order, and few seats are free among those in use
--   Goes m k r m'      a card that goes leaves the others in their order; it's refused if it isn't there
--   Counts m r         as many as there are cards
--   Finds m k r        a card is found if and only if it's there
--   FindsPlace m k r   and at its place
--   Places m s r       a card's place is how many stand before it
--   Orders m s r       the seat of a slot is before another's just if its place is
--   Sits m p r         the slot at a taken seat has that seat
--   Putting m p s m'   a slot that is put at a taken seat stands at the place of that seat: whoever reorders slots among their seats reorders the row
--   Packed m m'        the row is on the first seats: a slot's seat is its place
--   Packs m m'         and it is the same row
--   Ranks m p r        the slot at a taken seat stands behind as many as there are taken seats before it
--   Selects m n r      the slot that stands behind so many sits at this seat
--   Next f p q         q is the first number from p on that passes the test f; the number of seats, if there is none
--   Tells m p n o r x  what is told is the row's middle
use Rattle.std.specs.Prelude.{◌≡◌, ℕ, ◌+◌, ◌-◌, ◌*◌, ◌<◌, ◌≤◌, Bool, true, false, cond, not, List, [], ◌∷◌, ◌++◌, map, length, take, drop, Some, None, Ok, Err, Option, Result, ◌==◌, nat_lt, nat_le, slice_index, slice_set}
use Rattle.std.specs.List.{range_with_len}
use Rattle.order.specs.declared.board.TheConstants.{CARDS}
use Rattle.order.specs.declared.board.Refusal.{Refusal}
use Rattle.order.specs.declared.board.Refusal.TheVariants.{Missing, Exists, Full}
use Rattle.order.specs.Lists.{has, place, filter}
use Rattle.memory.specs.Columns.{cell}
use Rattle.row.specs.declared.layout.TheConstants.{SEATS_MOST, SPARE, IDS, SLOTS, SEATS}
use Rattle.row.specs.Meaning.{count, ending, taken, rank, row_of, cards, used, IsRow}

abbrev pub gaps : List ℕ → ℕ
gaps m = ending m - count m

unfoldable pub room_turns : List ℕ → ℕ
room_turns m = cond (nat_le SEATS_MOST (ending m)) (ending m) 0

unfoldable pub tidy_turns : ℕ → ℕ → ℕ
tidy_turns n e = cond (nat_lt n (e - n - SPARE)) e 0

pub record Came (m : List ℕ) (k s : ℕ) (m' : List ℕ) : Type 0 where
  pub is_row : IsRow m'
  pub cards_are : cards m' ≡ cards m ++ k ∷ []
  pub slots_are : row_of m' ≡ row_of m ++ s ∷ []
  pub is_card : cell m' IDS s ≡ k
  pub same_cards : (t : ℕ) → used m t ≡ true → cell m' IDS t ≡ cell m IDS t
  pub was_free : used m s ≡ false
  pub spare : ending m ≤ 2 * count m + SPARE → ending m' ≤ 2 * count m' + SPARE
  pub paid : room_turns m + 2 * gaps m' ≤ 2 * gaps m

unfoldable pub Comes : List ℕ → ℕ → Result ℕ Refusal → List ℕ → Type 0
Comes m k r m' =
    IsRow m →
    (has (cards m) k ≡ true → (r ≡ Err Exists) × (m' ≡ m))
    × (has (cards m) k ≡ false → CARDS ≤ length (cards m) → (r ≡ Err Full) × (m' ≡ m))
    × (has (cards m) k ≡ false → length (cards m) < CARDS → (s : ℕ) × (r ≡ Ok s) × Came m k s m')

pub record Gone (m : List ℕ) (k s : ℕ) (m' : List ℕ) : Type 0 where
  pub is_row : IsRow m'
  pub cards_are : cards m' ≡ filter (λ j. not (j == k)) (cards m)
  pub slots_are : row_of m' ≡ filter (λ j. not (j == s)) (row_of m)
  pub was_card : cell m IDS s ≡ k
  pub same_cards : (t : ℕ) → cell m' IDS t ≡ cell m IDS t
  pub was_used : used m s ≡ true
  pub spare : ending m' ≤ 2 * count m' + SPARE
  pub paid : tidy_turns (count m - 1) (ending m) + 2 * gaps m' ≤ 2 * gaps m + 2

unfoldable pub Goes : List ℕ → ℕ → Result ℕ Refusal → List ℕ → Type 0
Goes m k r m' =
    IsRow m →
    (has (cards m) k ≡ false → (r ≡ Err Missing) × (m' ≡ m))
    × (has (cards m) k ≡ true → (s : ℕ) × (r ≡ Ok s) × Gone m k s m')

unfoldable pub Counts : List ℕ → ℕ → Type 0
Counts m r = IsRow m → r ≡ length (cards m)

unfoldable pub Finds : List ℕ → ℕ → Option ℕ → Type 0
Finds m k r =
    IsRow m →
    (has (cards m) k ≡ false → r ≡ None)
    × (has (cards m) k ≡ true → (s : ℕ) × (r ≡ Some s) × (used m s ≡ true) × (cell m IDS s ≡ k))

unfoldable pub FindsPlace : List ℕ → ℕ → Option ℕ → Type 0
FindsPlace m k r = IsRow m → r ≡ cond (has (cards m) k) (Some (place (cards m) k)) None

unfoldable pub Places : List ℕ → ℕ → ℕ → Type 0
Places m s r = IsRow m → used m s ≡ true → r ≡ place (row_of m) s

unfoldable pub Orders : List ℕ → ℕ → ℕ → Type 0
Orders m s r =
    IsRow m → used m s ≡ true →
    (t : ℕ) → used m t ≡ true → nat_lt r (cell m SEATS t) ≡ nat_lt (place (row_of m) s) (place (row_of m) t)

unfoldable pub Sits : List ℕ → ℕ → ℕ → Type 0
Sits m p r = IsRow m → taken m p ≡ true → (used m r ≡ true) × (cell m SEATS r ≡ p)

unfoldable pub Putting : List ℕ → ℕ → ℕ → List ℕ → Type 0
Putting m p s m' =
    IsRow m → taken m p ≡ true → s < CARDS →
    (row_of m' ≡ slice_set (row_of m) (rank m p) s) × ((q : ℕ) → taken m' q ≡ taken m q) × ((q : ℕ) → rank m' q ≡ rank m q)

pub record Packed (m m' : List ℕ) : Type 0 where
  pub is_row : IsRow m'
  pub same_row : row_of m' ≡ row_of m
  pub same_cards : cards m' ≡ cards m
  pub same_used : (s : ℕ) → used m' s ≡ used m s
  pub same_count : count m' ≡ count m
  pub tight : ending m' ≡ count m'
  pub full : (p : ℕ) → taken m' p ≡ nat_lt p (count m')
  pub dense : row_of m' ≡ map (cell m' SLOTS) (range_with_len 0 (count m'))
  pub seats_are : (s : ℕ) → used m' s ≡ true → cell m' SEATS s ≡ place (row_of m') s

unfoldable pub Packs : List ℕ → List ℕ → Type 0
Packs m m' = IsRow m → Packed m m'

unfoldable pub Ranks : List ℕ → ℕ → ℕ → Type 0
Ranks m p r = IsRow m → taken m p ≡ true → (r < length (row_of m)) × (slice_index (row_of m) r ≡ cell m SLOTS p)

unfoldable pub Selects : List ℕ → ℕ → ℕ → Type 0
Selects m n r =
    IsRow m → n < length (row_of m) →
    (taken m r ≡ true) × (rank m r ≡ n) × (slice_index (row_of m) n ≡ cell m SLOTS r)

pub record Next (f : ℕ → Bool) (p q : ℕ) : Type 0 where
  pub room : q ≤ SEATS_MOST
  pub here : q < SEATS_MOST → f q ≡ true
  pub first : (r : ℕ) → p ≤ r → r < q → f r ≡ false
  pub from : q < SEATS_MOST → p ≤ q

unfoldable pub Tells : List ℕ → ℕ → ℕ → List ℕ → ℕ → List ℕ → Type 0
Tells m p n o r x = IsRow m → p + n ≤ length (cards m) → n ≤ length o → (r ≡ n) × (x ≡ take n (drop p (cards m)) ++ drop n o)

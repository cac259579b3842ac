-- What the memory stands for.
--
--   digit w t        whether the binary digit t of the number w is set
--   bit_set w p      whether the bit p of the words w is set, of 64 bits each
--   listed r f n     what r gives for each number below n that passes the test f, in order
--   amount f n       how many numbers below n pass the test f
--   in_use r s f k   the slot k sits at a seat: r has the slots by seat, s the seats by slot, f says which seats are taken
--
--   count m          how many cards there are
--   ending m         the seat behind all that are taken
--   fresh m          how many slots were ever in use
--   free m           the slot that became free last, plus one, or 0
--   taken m p        the seat p is taken
--   rank m p         how many seats before p are taken
--   row_of m         the slots in the row, from the left: those at the taken seats, in the order of the seats
--   cards m          the cards in the row, from the left
--   used m s         the slot s is a card's: its seat is taken, and by it
--   taken_from m p   how many seats from p on are taken, up to the end of the word in which the row ends
--   placed m p       how many cards stand before the one on the seat p, counted from the nearer end of the row
--   place_at m s     how many cards stand before the card in the slot s
use Rattle.std.specs.Prelude.{◌≡◌, ℕ, suc, ◌+◌, ◌/◌, ◌%◌, ◌^◌, ◌-◌, ◌*◌, ◌<◌, ◌≤◌, min, cond, Bool, true, false, ◌&&◌, List, [], ◌∷◌, map, length, ◌==◌, nat_lt}
use Rattle.std.specs.List.{range_with_len}
use Rattle.order.specs.declared.board.TheConstants.{CARDS}
use Rattle.order.specs.Lists.{filter, has, distinct}
use Rattle.memory.specs.Columns.{cell}
use Rattle.memory.specs.Footprints.{View, view}
use Rattle.row.specs.declared.layout.TheConstants.{SEATS_MOST, HEADS, COUNT, ENDING, FRESH, FREE, IDS, CHAIN, SLOTS, SEATS, TAKEN}
use Rattle.row.specs.Columns.{columns}
use Rattle.row.specs.Lookup.{bucket}

unfoldable pub digit : ℕ → ℕ → Bool
digit w t = w / 2 ^ t % 2 == 1

unfoldable pub bit_set : (ℕ → ℕ) → ℕ → Bool
bit_set w p = digit (w (p / 64)) (p % 64)

unfoldable pub listed : (ℕ → ℕ) → (ℕ → Bool) → ℕ → List ℕ
listed r f n = map r (filter f (range_with_len 0 n))

unfoldable pub amount : (ℕ → Bool) → ℕ → ℕ
amount f n = length (filter f (range_with_len 0 n))

unfoldable pub in_use : (ℕ → ℕ) → (ℕ → ℕ) → (ℕ → Bool) → ℕ → Bool
in_use r s f k = nat_lt k CARDS && (f (s k) && r (s k) == k)

abbrev pub count : List ℕ → ℕ
count m = cell m COUNT 0

abbrev pub ending : List ℕ → ℕ
ending m = min (cell m ENDING 0) SEATS_MOST

abbrev pub fresh : List ℕ → ℕ
fresh m = cell m FRESH 0

abbrev pub free : List ℕ → ℕ
free m = cell m FREE 0

abbrev pub taken : List ℕ → ℕ → Bool
taken m = bit_set (cell m TAKEN)

abbrev pub rank : List ℕ → ℕ → ℕ
rank m p = amount (taken m) p

abbrev pub row_of : List ℕ → List ℕ
row_of m = listed (cell m SLOTS) (taken m) (ending m)

abbrev pub cards : List ℕ → List ℕ
cards m = map (cell m IDS) (row_of m)

abbrev pub used : List ℕ → ℕ → Bool
used m = in_use (cell m SLOTS) (cell m SEATS) (taken m)

unfoldable pub taken_from : List ℕ → ℕ → ℕ
taken_from m p = rank m ((ending m + 63) / 64 * 64) - rank m p

unfoldable pub placed : List ℕ → ℕ → ℕ
placed m p = cond (nat_lt p (ending m / 2)) (rank m p) (count m - taken_from m p)

abbrev pub place_at : List ℕ → ℕ → ℕ
place_at m s = placed m (cell m SEATS s)

-- When it is sound. Over functions: n cards, the seat e behind all, f slots ever in use, top the free slot on top; id, next, slot, seat, held are columns,
-- and live says which slots are cards'.
--
--   Seating       n slots sit, all seats from e on are free, and at each taken seat sits a slot that has that seat
--   Spells p xs   the hash chain from the pointer p on holds the slots xs
--   Chains        each chain holds the slots in use of its bucket, each once
--   Stacked t xs  the free slots xs, from the top t down, each in the seat's column of the one above it
--   Freed         what was ever in use and isn't stands on the stack, once
--   Standing      all of these, and no card has two slots
--   RowIn v       so it is of what is to be seen in a memory's columns, and it is long enough
--   IsRow m       so it is of the memory m
pub record Seating (n e : ℕ) (slot seat : ℕ → ℕ) (held : ℕ → Bool) : Type 0 where
  pub counts : n ≡ amount held e
  pub below : (p : ℕ) → held p ≡ true → p < e
  pub low : (p : ℕ) → held p ≡ true → slot p < CARDS
  pub seat_of : (p : ℕ) → held p ≡ true → seat (slot p) ≡ p

abbrev pub Spells : (ℕ → ℕ) → ℕ → List ℕ → Type 0
Spells next p [] = next p ≡ 0
Spells next p (s ∷ ss) = (next p ≡ suc s) × Spells next (HEADS + s) ss

pub record Chains (next id : ℕ → ℕ) (live : ℕ → Bool) : Type 0 where
  pub of : ℕ → List ℕ
  pub spells : (b : ℕ) → b < HEADS → Spells next b (of b)
  pub once : (b : ℕ) → b < HEADS → distinct (of b) ≡ true
  pub holds : (b s : ℕ) → b < HEADS → has (of b) s ≡ (live s && bucket (id s) == b)

abbrev pub Stacked : (ℕ → ℕ) → ℕ → List ℕ → Type 0
Stacked seat t [] = t ≡ 0
Stacked seat t (s ∷ ss) = (t ≡ suc s) × Stacked seat (seat s) ss

pub record Freed (n f top : ℕ) (seat : ℕ → ℕ) (live : ℕ → Bool) : Type 0 where
  pub stack : List ℕ
  pub stacked : Stacked seat top stack
  pub once : distinct stack ≡ true
  pub unused : (s : ℕ) → has stack s ≡ true → (s < f) × (live s ≡ false)
  pub early : (s : ℕ) → live s ≡ true → s < f
  pub all : n + length stack ≡ f
  pub few : f ≤ CARDS

pub record Standing (n e f top : ℕ) (id next slot seat : ℕ → ℕ) (held : ℕ → Bool) : Type 0 where
  pub seated : Seating n e slot seat held
  pub one_slot : (s t : ℕ) → in_use slot seat held s ≡ true → in_use slot seat held t ≡ true → id s ≡ id t → s ≡ t
  pub chains : Chains next id (in_use slot seat held)
  pub freed : Freed n f top seat (in_use slot seat held)

pub record RowIn (v : View) : Type 0 where
  pub long : TAKEN.base + TAKEN.size ≤ v.long
  pub stands : Standing (v.at COUNT 0) (min (v.at ENDING 0) SEATS_MOST) (v.at FRESH 0) (v.at FREE 0)
      (v.at IDS) (v.at CHAIN) (v.at SLOTS) (v.at SEATS) (bit_set (v.at TAKEN))

abbrev pub IsRow : List ℕ → Type 0
IsRow m = RowIn (view columns m)

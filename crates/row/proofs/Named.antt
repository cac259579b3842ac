-- The slots in the row: where they stand, and that the board of cards is the board of slots with other names.
use Rattle.std.proofs.Common.{◌≡◌, ℕ, zero, suc, ◌+◌, ◌<◌, ◌≤◌, Bool, true, ltb, List, length, sym, refl, ◌∙◌, inl, inr}
use Rattle.std.proofs.lemmas.Bool.{cases_Bool}
use Rattle.order.specs.declared.board.TheConstants.{CARDS}
use Rattle.order.specs.Lists.{every, filter, has, place}
use Rattle.memory.specs.Columns.{cell}
use Rattle.row.specs.declared.layout.TheConstants.{IDS, CHAIN, SLOTS, SEATS, TAKEN}
use Rattle.row.specs.Meaning.{listed, count, ending, fresh, free, taken, rank, row_of, used, place_at, Standing, IsRow}
use Rattle.row.specs.Theory.{SlotsNamed}
use Rattle.row.proofs.Listing.{rest}
use Rattle.row.proofs.Rows.{seated, length_row, sitting, at_seat, has_is, place_is, placed_is, order_is}

-- every number that is listed passes a test
every_rest : (D : ℕ → Bool) (r : ℕ → ℕ) (f : ℕ → Bool) → ((p : ℕ) → f p ≡ true → D (r p) ≡ true) → (a n : ℕ) → every D (rest r f a n) ≡ true
unfolding every filter
every_rest D r f h a zero = refl
every_rest D r f h a (suc n) =
    let ih = every_rest D r f h (a + 1) n in elim (cases_Bool (f a)) [ inl y ↦ rw (y, h a y) ih | inr y ↦ rw y ih ]

module _ (m : List ℕ) (S : IsRow m) where
  pub standing : Standing (count m) (ending m) (fresh m) (free m) (cell m IDS) (cell m CHAIN) (cell m SLOTS) (cell m SEATS) (taken m)
  standing = S.stands

  pub long_row : TAKEN.base + TAKEN.size ≤ length m
  long_row = S.long

  pub one_slot : (s t : ℕ) → used m s ≡ true → used m t ≡ true → cell m IDS s ≡ cell m IDS t → s ≡ t
  one_slot = standing.one_slot

  -- the slots in use
  pub used_below : (t : ℕ) → used m t ≡ true → t < CARDS
  used_below t u = (sitting m (seated m S) t u).0

  pub used_seat : (t : ℕ) → used m t ≡ true → (taken m (cell m SEATS t) ≡ true) × (cell m SLOTS (cell m SEATS t) ≡ t)
  used_seat t u = let w = sitting m (seated m S) t u in (w.1, w.2)

  pub row_used : every (used m) (row_of m) ≡ true
  unfolding listed
  row_used = every_rest (used m) (cell m SLOTS) (taken m) (at_seat m (seated m S)) 0 (ending m)

  pub has_used : (s : ℕ) → has (row_of m) s ≡ used m s
  has_used = has_is m (seated m S)

  pub has_slot : (s : ℕ) → used m s ≡ true → has (row_of m) s ≡ true
  has_slot s u = has_used s ∙ u

  pub ranked : (s : ℕ) → used m s ≡ true → place_at m s ≡ rank m (cell m SEATS s)
  ranked s u = placed_is m (seated m S) (cell m SEATS s) (used_seat s u).0

  pub place_ranked : (s : ℕ) → used m s ≡ true → place (row_of m) s ≡ rank m (cell m SEATS s)
  place_ranked = place_is m (seated m S)

  pub place_slot : (s : ℕ) → used m s ≡ true → place (row_of m) s ≡ place_at m s
  place_slot s u = place_ranked s u ∙ sym (ranked s u)

  pub length_slots : length (row_of m) ≡ count m
  length_slots = length_row m (seated m S)

  -- the order of seats is the order of places
  pub order_slots : (s t : ℕ) → used m s ≡ true → used m t ≡ true → ltb (cell m SEATS s) (cell m SEATS t) ≡ ltb (place (row_of m) s) (place (row_of m) t)
  order_slots = order_is m (seated m S)

pub slots_named : SlotsNamed
slots_named m ls S e = (refl, record { tell = one_slot m S; cards = row_used m S; ends = e })

-- What the memory stands for when a search begins, and what a search finds. Cards are their slots here.
--
--   slot_board m        the board of slots: the row and the links
--   slot_on m p         the slot at the seat p
--   part m a b p        the seat p lies from b's seat to a's, both in it
--   Ready m             row and table are sound, no seat is marked, and the board of slots is fine
--   Kept m m'           m' has the row, the table and the board that m has
--   Parted m m' a b     the search from b and towards a came to its end: marked are exactly the taken seats of the part that b leads to, and those that
--                       lead to a
--   Trailed m m' a b x t   the two searches met at the link from x to t: what was come to from b and what leads to a, each with the next on its way back
--                       to b, or on to a, in the column VIA
use Rattle.std.specs.Prelude.{◌≡◌, ℕ, Bool, true, false, ◌&&◌, ◌⊎◌, List, nat_le}
use Rattle.order.specs.Board.{Board, fine, leads, linked}
use Rattle.memory.specs.Columns.{cell}
use Rattle.memory.specs.Footprints.{Writes}
use Rattle.memory.specs.PlaceSets.{marked}
use Rattle.memory.specs.PlaceSetLaws.{Summed}
use Rattle.row.specs.declared.layout.TheConstants.{SLOTS, SEATS}
use Rattle.row.specs.Meaning.{row_of, used, taken, IsRow}
use Rattle.links.specs.Table.{edges, IsTable}
use Rattle.search.specs.declared.layout.TheConstants.{VIA, FORE, HIND}
use Rattle.search.specs.Columns.{searched}

abbrev pub slot_board : List ℕ → Board
slot_board m = record { row = row_of m; links = edges m }

abbrev pub slot_on : List ℕ → ℕ → ℕ
slot_on m p = cell m SLOTS p

abbrev pub part : List ℕ → ℕ → ℕ → ℕ → Bool
part m a b p = nat_le (cell m SEATS b) p && nat_le p (cell m SEATS a)

pub record Ready (m : List ℕ) : Type 0 where
  pub is_row : IsRow m
  pub is_table : IsTable m
  pub fore_summed : Summed m FORE.column
  pub hind_summed : Summed m HIND.column
  pub fore_none : (p : ℕ) → marked m FORE.column p ≡ false
  pub hind_none : (p : ℕ) → marked m HIND.column p ≡ false
  pub fine_so : fine (slot_board m) ≡ true

abbrev pub Kept : List ℕ → List ℕ → Type 0
Kept m m' = Writes searched m m'

pub record Parted (m m' : List ℕ) (a b : ℕ) : Type 0 where
  pub kept : Kept m m'
  pub fore_summed : Summed m' FORE.column
  pub hind_summed : Summed m' HIND.column
  pub no_round : leads (slot_board m) b a ≡ false
  pub fore_is : (p : ℕ) → marked m' FORE.column p ≡ (taken m p && (part m a b p && leads (slot_board m) b (slot_on m p)))
  pub hind_is : (p : ℕ) → marked m' HIND.column p ≡ (taken m p && (part m a b p && leads (slot_board m) (slot_on m p) a))

pub record Trailed (m m' : List ℕ) (a b x t : ℕ) : Type 0 where
  pub kept : Kept m m'
  pub fore_summed : Summed m' FORE.column
  pub hind_summed : Summed m' HIND.column
  pub round : leads (slot_board m) b a ≡ true
  pub x_used : used m x ≡ true
  pub t_used : used m t ≡ true
  pub x_fore : marked m' FORE.column (cell m SEATS x) ≡ true
  pub t_hind : marked m' HIND.column (cell m SEATS t) ≡ true
  pub joined : linked (slot_board m) x t ≡ true
  pub fore_trail : (s : ℕ) → used m s ≡ true → marked m' FORE.column (cell m SEATS s) ≡ true → (s ≡ b) ⊎
      ((used m (cell m' VIA s) ≡ true) × (marked m' FORE.column (cell m SEATS (cell m' VIA s)) ≡ true) × (linked (slot_board m) (cell m' VIA s) s ≡ true))
  pub hind_trail : (s : ℕ) → used m s ≡ true → marked m' HIND.column (cell m SEATS s) ≡ true → (s ≡ a) ⊎
      ((used m (cell m' VIA s) ≡ true) × (marked m' HIND.column (cell m SEATS (cell m' VIA s)) ≡ true) × (linked (slot_board m) s (cell m' VIA s) ≡ true))

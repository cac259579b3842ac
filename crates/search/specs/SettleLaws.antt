-- What is so of settling, in the words of the board. The two last names are statements: the contracts of `settle` and of `forget`.
--
--   Unmarked m         both sets are sound, and no seat is marked
--   Settled m m' a b   m' is the memory m with the row settled for a link from a to b: the same cards in the same slots, at the same seats, and the same
--                      links; the row is the firm one that keeps the links and the new one
--
--   Settles m m'       if m is what a search left that came to its end, in m' the row is settled
--   Forgets m m'       no seat is marked in m', if both sets of m are sound
use Rattle.std.specs.Prelude.{◌≡◌, ℕ, ◌<◌, true, false, List, ◌∷◌}
use Rattle.order.specs.Board.{keeps}
use Rattle.order.specs.Reordering.{with_link, firm}
use Rattle.memory.specs.Columns.{cell}
use Rattle.memory.specs.Footprints.{Writes}
use Rattle.memory.specs.PlaceSets.{marked}
use Rattle.memory.specs.PlaceSetLaws.{Summed}
use Rattle.row.specs.declared.layout.TheConstants.{SLOTS, SEATS}
use Rattle.row.specs.Meaning.{row_of, used, taken, IsRow}
use Rattle.links.specs.Table.{edges, IsTable}
use Rattle.search.specs.declared.layout.TheConstants.{FORE, HIND}
use Rattle.search.specs.Columns.{columns}
use Rattle.search.specs.Meaning.{slot_board, Ready, Parted}

pub record Unmarked (m : List ℕ) : Type 0 where
  pub fore_summed : Summed m FORE.column
  pub hind_summed : Summed m HIND.column
  pub fore_none : (p : ℕ) → marked m FORE.column p ≡ false
  pub hind_none : (p : ℕ) → marked m HIND.column p ≡ false

pub record Settled (m m' : List ℕ) (a b : ℕ) : Type 0 where
  pub is_row : IsRow m'
  pub is_table : IsTable m'
  pub unmarked : Unmarked m'
  pub wrote : Writes (SLOTS ∷ SEATS ∷ columns) m m'
  pub same_edges : edges m' ≡ edges m
  pub same_used : (s : ℕ) → used m' s ≡ used m s
  pub same_taken : (p : ℕ) → taken m' p ≡ taken m p
  pub is_firm : firm (slot_board m) a b (row_of m') ≡ true
  pub keeps_links : keeps (row_of m') (with_link (slot_board m) a b) ≡ true

unfoldable pub Settles : List ℕ → List ℕ → Type 0
Settles m₁ m' =
    (m : List ℕ) (a b : ℕ) → Ready m → used m a ≡ true → used m b ≡ true → cell m SEATS b < cell m SEATS a → Parted m m₁ a b → Settled m m' a b

unfoldable pub Forgets : List ℕ → List ℕ → Type 0
Forgets m m' = Summed m FORE.column → Summed m HIND.column → Unmarked m'

-- What is so of the definitions alone. Each is a statement; its proof is asked for by a function of src/theory.rt.
--
--   Begins         zeros are a row, with no cards
--   Apart          no card stands twice
--   by_slot m ls   the board of the slots in the row, with these links between slots
--   by_card m ls   the board of the cards in the row, with the same links between cards
--   SlotsNamed     the board of cards is the board of slots with the cards' numbers for names, if its links are between cards
--   SameRow m m'   what the row means is the same in two memories
--   Depends        so it is if they agree on the columns of this crate: whoever writes beside them leaves it
use Rattle.std.specs.Prelude.{◌≡◌, ℕ, true, ◌&&◌, List, [], map, replicate}
use Rattle.memory.specs.declared.column.TheConstants.{MEMORY}
use Rattle.memory.specs.declared.column.Column.{Column}
use Rattle.memory.specs.Columns.{cell}
use Rattle.memory.specs.Footprints.{clear_all, Writes, Alike}
use Rattle.order.specs.declared.board.Link.{Link}
use Rattle.order.specs.Lists.{every, distinct}
use Rattle.order.specs.Board.{Board}
use Rattle.order.specs.Renaming.{named, renamed, Naming}
use Rattle.row.specs.declared.layout.TheConstants.{IDS, SLOTS, SEATS}
use Rattle.row.specs.Columns.{columns}
use Rattle.row.specs.Meaning.{count, taken, row_of, cards, used, place_at, IsRow}

abbrev pub Begins : Type 0
Begins = IsRow (replicate MEMORY 0) × (cards (replicate MEMORY 0) ≡ [])

abbrev pub Apart : Type 0
Apart = (m : List ℕ) → IsRow m → distinct (cards m) ≡ true

abbrev pub by_slot : List ℕ → List Link → Board
by_slot m ls = record { row = row_of m; links = ls }

abbrev pub by_card : List ℕ → List Link → Board
by_card m ls = record { row = cards m; links = map (named (cell m IDS)) ls }

abbrev pub SlotsNamed : Type 0
SlotsNamed =
    (m : List ℕ) (ls : List Link) → IsRow m → every (λ l. used m l.from && used m l.to) ls ≡ true →
    (by_card m ls ≡ renamed (cell m IDS) (by_slot m ls)) × Naming (cell m IDS) (used m) (by_slot m ls)

pub record SameRow (m m' : List ℕ) : Type 0 where
  pub is_row : IsRow m → IsRow m'
  pub same_cards : cards m' ≡ cards m
  pub same_row : row_of m' ≡ row_of m
  pub same_used : (s : ℕ) → used m' s ≡ used m s
  pub same_places : (s : ℕ) → place_at m' s ≡ place_at m s
  pub same_taken : (p : ℕ) → taken m' p ≡ taken m p
  pub same_count : count m' ≡ count m
  pub same_ids : (s : ℕ) → cell m' IDS s ≡ cell m IDS s
  pub same_slots : (p : ℕ) → cell m' SLOTS p ≡ cell m SLOTS p
  pub same_seats : (s : ℕ) → cell m' SEATS s ≡ cell m SEATS s

abbrev pub Depends : Type 0
Depends =
    ((m m' : List ℕ) → Alike columns m m' → SameRow m m')
    × ((fs : List Column) (m m' : List ℕ) → clear_all fs columns ≡ true → Writes fs m m' → SameRow m m')

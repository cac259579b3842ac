-- What the checks before several links are tried mean, in the words of the board. Each of the last four names is a statement; its proof is asked for by a
-- function of src/check_laws.rt.
--
--   Names r ls s    the span s is the part of the row from the first card that a link names to the last: some place, and all in the row
--   SpansIn m r ls  a link goes backward just if the row doesn't keep them all; then what is spanned is the part of the row that the links name
--   MovesIn m r ls  so of the part of the row that may change: none, or the one that the links name
--
--   FindsAll        the cards that the links name are found just if they are there
--   Repeats         of links between cards that are there, one is repeated just if it was said before
--   Spans           of a row without gaps; and of each memory that means a board, once its row is packed
--   SpanMoves       so of the part of the row that may change
use Rattle.std.specs.Prelude.{◌≡◌, ℕ, ◌<◌, ◌≤◌, true, not, List, [], ◌++◌, length, Some, is_some}
use Rattle.order.specs.declared.board.TheConstants.{CARDS}
use Rattle.order.specs.declared.board.Link.{Link}
use Rattle.order.specs.Board.{Board, keeps}
use Rattle.row.specs.Moves.{packed}
use Rattle.keeper.specs.Meaning.{Means}
use Rattle.batch.specs.declared.seating.Span.{Span}
use Rattle.batch.specs.Several.{all_there, said_before, first_named, past_named}
use Rattle.batch.specs.Dense.{Dense}
use Rattle.batch.specs.Checking.{all_found, repeated, spanned, no_span, span}

abbrev pub Names : Board → List Link → Span → Type 0
Names r ls s =
    (s.low ≡ first_named r ls) × (s.high ≡ past_named r ls) × (first_named r ls < past_named r ls) × (past_named r ls ≤ length r.row)
    × (length r.row ≤ CARDS)

abbrev pub FindsAll : Type 0
FindsAll = (m : List ℕ) (r : Board) (ls : List Link) → Means m r → all_found m ls ≡ all_there r ls

abbrev pub Repeats : Type 0
Repeats = (m : List ℕ) (r : Board) (ls : List Link) → Means m r → all_there r ls ≡ true → repeated m [] ls ≡ said_before r ls

abbrev pub SpansIn : List ℕ → Board → List Link → Type 0
SpansIn m r ls =
    ((spanned m ls no_span).back ≡ not (keeps r.row (r.links ++ ls)))
    × ((spanned m ls no_span).back ≡ true → Names r ls (spanned m ls no_span).span)

abbrev pub Spans : Type 0
Spans =
    ((m : List ℕ) (r : Board) (ls : List Link) → Means m r → Dense m → all_there r ls ≡ true → SpansIn m r ls)
    × ((m : List ℕ) (r : Board) (ls : List Link) → Means m r → all_there r ls ≡ true → SpansIn (packed m) r ls)

abbrev pub MovesIn : List ℕ → Board → List Link → Type 0
MovesIn m r ls = (is_some (span m ls) ≡ not (keeps r.row (r.links ++ ls))) × ((s : Span) → span m ls ≡ Some s → Names r ls s)

abbrev pub SpanMoves : Type 0
SpanMoves =
    ((m : List ℕ) (r : Board) (ls : List Link) → Means m r → Dense m → all_there r ls ≡ true → MovesIn m r ls)
    × ((m : List ℕ) (r : Board) (ls : List Link) → Means m r → all_there r ls ≡ true → MovesIn (packed m) r ls)

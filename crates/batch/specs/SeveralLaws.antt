-- What is proved of several links said at once, on boards, without any memory. Each of these names is a statement, a type; `src/several_laws.rt` has a function
-- for it, whose contract it is.
--   SeveralCan         if no link goes round, there is a row that the links make, and with it the board is fine
--   SeveralOne         and only one
--   SeveralRound       if one goes round, there is a circle of links, old and new, and no row keeps them all
--   SeveralBetween     only cards from the first to the last that a link names may have another place; each card still stands, once
--   SeveralKept        if the row keeps the links already, it stays as it is
--   SeveralSingle      one link said so is refused and makes the row as if it were said alone
--   SeveralAnyOrder    the order of the links doesn't matter for whether they are refused, nor for the reason
use Rattle.std.specs.Prelude.{◌≡◌, ℕ, ◌<◌, ◌≤◌, true, false, ◌⊎◌, List, [], ◌∷◌, ◌++◌, length, take, drop, ◌≢◌}
use Rattle.std.specs.List.Sorted.{IsPermutation}
use Rattle.order.specs.declared.board.Link.{Link}
use Rattle.command.specs.declared.command.Command.TheVariants.{Link as Links}
use Rattle.order.specs.Lists.{has, place}
use Rattle.order.specs.Board.{Board, keeps, fine}
use Rattle.command.specs.Commands.{refusal, must_be}
use Rattle.order.specs.Reordering.{with_link}
use Rattle.batch.specs.Several.{all_there, with_links, closes, several_refusal, Becomes, first_named, past_named, circle}

abbrev pub SeveralCan : Type 0
SeveralCan =
    (r : Board) (ls : List Link) → fine r ≡ true → all_there r ls ≡ true → closes r ls ≡ false →
    (row : List ℕ) × Becomes r ls row × (fine (record { row = row; links = r.links ++ ls }) ≡ true)

abbrev pub SeveralOne : Type 0
SeveralOne =
    (r : Board) (ls : List Link) (row row₁ : List ℕ) → fine r ≡ true → all_there r ls ≡ true → closes r ls ≡ false → Becomes r ls row →
    Becomes r ls row₁ → row ≡ row₁

abbrev pub SeveralRound : Type 0
SeveralRound =
    (r : Board) (ls : List Link) → fine r ≡ true → all_there r ls ≡ true → closes r ls ≡ true →
    ((way : List ℕ) × (circle (with_links r ls) way ≡ true)) × ((row : List ℕ) → keeps row (r.links ++ ls) ≢ true)

-- the same cards, each once, and the same ones at the places before the first that is named and behind the last
pub record Between (r : Board) (ls : List Link) (row : List ℕ) : Type 0 where
  pub fine_so : fine (record { row = row; links = r.links ++ ls }) ≡ true
  pub as_long : length row ≡ length r.row
  pub same_cards : (k : ℕ) → has row k ≡ has r.row k
  pub front : take (first_named r ls) row ≡ take (first_named r ls) r.row
  pub rest : drop (past_named r ls) row ≡ drop (past_named r ls) r.row
  pub same_place : (k : ℕ) → has r.row k ≡ true → (place r.row k < first_named r ls) ⊎ (past_named r ls ≤ place r.row k) →
      place row k ≡ place r.row k

abbrev pub SeveralBetween : Type 0
SeveralBetween =
    (r : Board) (ls : List Link) (row : List ℕ) → fine r ≡ true → all_there r ls ≡ true → Becomes r ls row → Between r ls row

abbrev pub SeveralKept : Type 0
SeveralKept =
    (r : Board) (ls : List Link) (row : List ℕ) → keeps r.row (r.links ++ ls) ≡ true → Becomes r ls row → row ≡ r.row

abbrev pub SeveralSingle : Type 0
SeveralSingle =
    (r : Board) (l : Link) →
    (several_refusal r (l ∷ []) ≡ refusal r (Links l))
    × ((row : List ℕ) → Becomes r (l ∷ []) row → (must_be r (Links l) row ≡ true) × (keeps row (with_link r l.from l.to) ≡ true))
    × ((row : List ℕ) → must_be r (Links l) row ≡ true → keeps row (with_link r l.from l.to) ≡ true → Becomes r (l ∷ []) row)

abbrev pub SeveralAnyOrder : Type 0
SeveralAnyOrder =
    (r : Board) (ls ls₁ : List Link) → fine r ≡ true → IsPermutation ls ls₁ → several_refusal r ls₁ ≡ several_refusal r ls

-- What is so of the way that is shown.
--
--   way_of m a b x t         the slots of the way from b to a by the link from x to t
--   Round m m' a b x t out   that way goes round: it begins with b, ends with a, each of its slots is linked to the next, none is there twice, and each
--                            is a card's; what is shown are the numbers of its cards, and they are at most CARDS
--   ShowsWay m' l j o n o'   if the searches for the link l met at the link j, and left the memory m', that is so of it, and the numbers of its cards stand at
--                            the front of the output o' then, which was o
use Rattle.std.specs.Prelude.{◌≡◌, ℕ, ◌≤◌, true, List, map, length}
use Rattle.order.specs.declared.board.TheConstants.{CARDS}
use Rattle.order.specs.declared.board.Link.{Link}
use Rattle.order.specs.Lists.{every}
use Rattle.order.specs.Board.{◌⟶◌}
use Rattle.order.specs.Reordering.{goes_round}
use Rattle.memory.specs.Columns.{cell}
use Rattle.row.specs.declared.layout.TheConstants.{IDS}
use Rattle.row.specs.Meaning.{used}
use Rattle.search.specs.declared.layout.TheConstants.{VIA}
use Rattle.search.specs.Meaning.{slot_board, Ready, Trailed}
use Rattle.search.specs.Way.{way, shown, ShownSo}

abbrev pub way_of : List ℕ → ℕ → ℕ → ℕ → ℕ → List ℕ
way_of m a b x t = way (cell m VIA) CARDS (a ⟶ b) (x ⟶ t)

pub record Round (m m' : List ℕ) (a b x t : ℕ) (out : List ℕ) : Type 0 where
  pub round : goes_round (slot_board m) a b (way_of m' a b x t) ≡ true
  pub cards : every (used m) (way_of m' a b x t) ≡ true
  pub few : length (way_of m' a b x t) ≤ CARDS
  pub is : shown m' (a ⟶ b) (x ⟶ t) out ≡ map (cell m IDS) (way_of m' a b x t)

unfoldable pub ShowsWay : List ℕ → Link → Link → List ℕ → ℕ → List ℕ → Type 0
ShowsWay m' l j out n out' =
    (m : List ℕ) → Ready m → Trailed m m' l.from l.to j.from j.to → CARDS ≤ length out →
    Round m m' l.from l.to j.from j.to out × ShownSo (map (cell m IDS) (way_of m' l.from l.to j.from j.to)) out n out'

-- What the keeper's memory stands for.
--
--   card_board m   the board that the memory means: the cards in the row, and the links between cards
--   Means m r      the memory is sound and long enough, nothing is pending, no link is there twice, and it means the board r
use Rattle.std.specs.Prelude.{◌≡◌, ℕ, ◌+◌, ◌≤◌, true, List, length}
use Rattle.order.specs.Board.{Board}
use Rattle.memory.specs.Columns.{cell}
use Rattle.row.specs.declared.layout.TheConstants.{IDS}
use Rattle.order.specs.Renaming.{renamed}
use Rattle.links.specs.Table.{edges, once}
use Rattle.search.specs.Meaning.{slot_board, Ready}
use Rattle.keeper.specs.declared.layout.TheConstants.{MORE_TO}
use Rattle.keeper.specs.Answers.{pending}

abbrev pub card_board : List ℕ → Board
card_board m = renamed (cell m IDS) (slot_board m)

pub record Means (m : List ℕ) (r : Board) : Type 0 where
  pub ready : Ready m
  pub single : once (edges m) ≡ true
  pub long : MORE_TO.base + MORE_TO.size ≤ length m
  pub idle : pending m ≡ 0
  pub is : r ≡ card_board m

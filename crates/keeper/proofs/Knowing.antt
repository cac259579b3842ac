-- What is known of a memory that means a board: the board of cards is the board of slots with other names.
use Rattle.std.proofs.Common.{◌≡◌, ℕ, true, ◌&&◌, List, sym, ◌∙◌}
use Rattle.std.proofs.lemmas.Bool.{and_parts, and_from}
use Rattle.order.specs.declared.board.Link.{Link}
use Rattle.order.specs.Lists.{every, has}
use Rattle.order.specs.Board.{fine}
use Rattle.order.specs.Renaming.{Renamed}
use Rattle.order.proofs.Filters.{every_more}
use Rattle.order.proofs.Climbs.{fine_parts}
use Rattle.order.proofs.Renames.{renames}
use Rattle.memory.specs.Columns.{cell}
use Rattle.row.specs.declared.layout.TheConstants.{IDS}
use Rattle.row.specs.Meaning.{used, row_of}
use Rattle.row.proofs.Named.{has_used, slots_named}
use Rattle.links.specs.Table.{edges}
use Rattle.search.specs.Meaning.{slot_board, Ready}
use Rattle.keeper.specs.Meaning.{card_board}

module _ (m : List ℕ) (R : Ready m) where
  -- each link is between slots in use
  pub ends_used : every (λ l. used m l.from && used m l.to) (edges m) ≡ true
  ends_used =
      every_more _ _ (λ (l : Link) h.
      let p = and_parts (has (row_of m) l.from) (has (row_of m) l.to) h in
      and_from _ _ (sym (has_used m R.is_row l.from) ∙ p.0) (sym (has_used m R.is_row l.to) ∙ p.1)) (edges m) (fine_parts (slot_board m) R.fine_so).ends

  pub names : Renamed (cell m IDS) (used m) (slot_board m)
  names = renames (cell m IDS) (used m) (slot_board m) (slots_named m (edges m) R.is_row ends_used).1

  pub fine_cards : fine (card_board m) ≡ true
  fine_cards = names.fine_named ∙ R.fine_so

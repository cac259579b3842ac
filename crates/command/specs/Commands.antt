-- What a command does to a board. These are definitions: nothing is assumed.
--   refusal r c           why the command can't be done, the first reason that applies; None: it can be done
--   Told                  what is told of a row: from the place `at` on these cards stand there now
--   told_row row t        the row, once t is told
--   told_rows row ts      the row, once all of ts is told, one after the other
--   row_before r c        the row that the command leaves, before anything is told
--   links_after r c       the links that the command leaves
--   after r c ts          the board that the command leaves, if ts is told
--   may_be r c row        the row may be so after the command: little changed for a link that goes backward, else as the command leaves it
--   must_be r c row       the row has to be so after the command: the same with firm
use Rattle.std.specs.Prelude.{ℕ, ◌+◌, Bool, cond, not, ◌&&◌, ◌||◌, List, [], ◌∷◌, ◌++◌, length, take, drop, Some, None, Option, ◌==◌, nat_le}
use Rattle.order.specs.declared.board.Link.{Link}
use Rattle.order.specs.declared.board.Refusal.{Refusal}
use Rattle.order.specs.declared.board.Refusal.TheVariants.{Missing, Exists, Full}
use Rattle.order.specs.declared.board.TheConstants.{CARDS}
use Rattle.order.specs.Lists.{filter, has, same}
use Rattle.order.specs.Board.{Board, linked}
use Rattle.order.specs.Reordering.{link_refusal, with_link, link_may_be, link_must_be}
use Rattle.command.specs.declared.command.Command.{Command}
use Rattle.command.specs.declared.command.Command.TheVariants.{Comes, Goes, Link as Links, Unlink as Unlinks, Places}

unfoldable pub refusal : Board → Command → Option Refusal
refusal r (Comes k) = cond (has r.row k) (Some Exists) (cond (nat_le CARDS (length r.row)) (Some Full) None)
refusal r (Goes k) = cond (has r.row k) None (Some Missing)
refusal r (Links l) = link_refusal r l
refusal r (Unlinks l) = cond (linked r l.from l.to) None (Some Missing)
refusal r (Places a b) = cond (has r.row a && has r.row b) None (Some Missing)

pub record Told : Type 0 where
  pub at : ℕ
  pub cards : List ℕ

abbrev pub told_row : List ℕ → Told → List ℕ
told_row row t = take t.at row ++ t.cards ++ drop (t.at + length t.cards) row

unfoldable pub told_rows : List ℕ → List Told → List ℕ
told_rows row [] = row
told_rows row (t ∷ ts) = told_rows (told_row row t) ts

unfoldable pub row_before : Board → Command → List ℕ
row_before r (Comes k) = r.row ++ k ∷ []
row_before r (Goes k) = filter (λ j. not (j == k)) r.row
row_before r (Links l) = r.row
row_before r (Unlinks l) = r.row
row_before r (Places a b) = r.row

unfoldable pub links_after : Board → Command → List Link
links_after r (Comes k) = r.links
links_after r (Goes k) = filter (λ l. not (l.from == k || l.to == k)) r.links
links_after r (Links l) = with_link r l.from l.to
links_after r (Unlinks l) = filter (λ m. not (m.from == l.from && m.to == l.to)) r.links
links_after r (Places a b) = r.links

abbrev pub after : Board → Command → List Told → Board
after r c ts = record { row = told_rows (row_before r c) ts; links = links_after r c }

unfoldable pub may_be : Board → Command → List ℕ → Bool
may_be r (Comes k) row = same row (row_before r (Comes k))
may_be r (Goes k) row = same row (row_before r (Goes k))
may_be r (Links l) row = link_may_be r l row
may_be r (Unlinks l) row = same row r.row
may_be r (Places a b) row = same row r.row

unfoldable pub must_be : Board → Command → List ℕ → Bool
must_be r (Comes k) row = same row (row_before r (Comes k))
must_be r (Goes k) row = same row (row_before r (Goes k))
must_be r (Links l) row = link_must_be r l row
must_be r (Unlinks l) row = same row r.row
must_be r (Places a b) row = same row r.row

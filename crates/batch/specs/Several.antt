-- Several links said at once: what a board makes of them. These are definitions: nothing is assumed.
--   all_there r ls         each card that a link names stands on the board
--   linked_on r l          the board with one more link, the row as it is
--   with_links r ls        the board with these links behind the others, the row as it is
--   after_link r l row     the board with one more link, and this row
--   said_before r ls       one of the links was said already, on the board or earlier in the list
--   closes r ls            one of the links would go round, by the board's links and those before it in the list
--   several_refusal r ls   why the links can't be said at once, the first reason that applies; None: they can
--   Becomes r ls row       the row that the links make of the board's: each makes of the row before it what it makes if it is said alone
--   first_named r ls       the first place of a card that a link names
--   past_named r ls        the place behind the last of these
--   circle r ks            each of ks is linked to the next, the last to the first, and none is there twice
use Rattle.std.specs.Prelude.{◌≡◌, ℕ, suc, ◌+◌, min, max, Bool, true, false, cond, ◌&&◌, ◌||◌, List, [], ◌∷◌, ◌++◌, length, Some, None, Option, nat_le}
use Rattle.order.specs.declared.board.TheConstants.{LINKS}
use Rattle.order.specs.declared.board.Link.{Link}
use Rattle.command.specs.declared.command.Command.TheVariants.{Link as Links}
use Rattle.order.specs.declared.board.Refusal.{Refusal}
use Rattle.order.specs.declared.board.Refusal.TheVariants.{Missing, Exists, Cycle, Full}
use Rattle.order.specs.Lists.{every, has, place, distinct}
use Rattle.order.specs.Board.{Board, linked, keeps, leads}
use Rattle.order.specs.Reordering.{with_link, follows, last_of}
use Rattle.command.specs.Commands.{must_be}
use Rattle.batch.specs.declared.layout.TheConstants.{BATCH}

abbrev pub all_there : Board → List Link → Bool
all_there r ls = every (λ l. has r.row l.from && has r.row l.to) ls

abbrev pub linked_on : Board → Link → Board
linked_on r l = record { row = r.row; links = with_link r l.from l.to }

abbrev pub after_link : Board → Link → List ℕ → Board
after_link r l row = record { row = row; links = with_link r l.from l.to }

abbrev pub with_links : Board → List Link → Board
with_links r ls = record { row = r.row; links = r.links ++ ls }

unfoldable pub said_before : Board → List Link → Bool
said_before r [] = false
said_before r (l ∷ ls) = linked r l.from l.to || said_before (linked_on r l) ls

unfoldable pub closes : Board → List Link → Bool
closes r [] = false
closes r (l ∷ ls) = leads r l.to l.from || closes (linked_on r l) ls

-- more links than BATCH are not looked at; together there may be LINKS
unfoldable pub several_refusal : Board → List Link → Option Refusal
several_refusal r ls =
    cond (nat_le (length ls) BATCH)
    (cond (all_there r ls)
    (cond (said_before r ls) (Some Exists)
    (cond (closes r ls) (Some Cycle) (cond (nat_le (length r.links + length ls) LINKS) None (Some Full))))
    (Some Missing))
    (Some Full)

unfoldable pub Becomes : Board → List Link → List ℕ → Type 0
Becomes r [] row = row ≡ r.row
Becomes r (l ∷ ls) row =
    (mid : List ℕ) × (must_be r (Links l) mid ≡ true) × (keeps mid (with_link r l.from l.to) ≡ true)
    × Becomes (after_link r l mid) ls row

unfoldable pub first_named : Board → List Link → ℕ
first_named r [] = length r.row
first_named r (l ∷ ls) = min (min (place r.row l.from) (place r.row l.to)) (first_named r ls)

unfoldable pub past_named : Board → List Link → ℕ
past_named r [] = 0
past_named r (l ∷ ls) = max (suc (max (place r.row l.from) (place r.row l.to))) (past_named r ls)

unfoldable pub circle : Board → List ℕ → Bool
circle r [] = false
circle r (k ∷ ks) = linked r (last_of k ks) k && (follows r (k ∷ ks) && distinct (k ∷ ks))

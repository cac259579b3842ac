-- What a command leaves is a board again.
--   StaysFine         a board that is fine stays fine; the statement is a type, and `src/theory.rt` has the function whose contract it is
use Rattle.std.specs.Prelude.{◌≡◌, true, List, None}
use Rattle.order.specs.Board.{Board, keeps, fine}
use Rattle.command.specs.declared.command.Command.{Command}
use Rattle.command.specs.Commands.{refusal, Told, after, may_be}

-- A board that is fine stays fine: after each command that isn't refused, if the row may be so and keeps the links.
abbrev pub StaysFine : Type 0
StaysFine =
    (r : Board) (c : Command) (ts : List Told) → fine r ≡ true → refusal r c ≡ None → may_be r c (after r c ts).row ≡ true →
    keeps (after r c ts).row (after r c ts).links ≡ true → fine (after r c ts) ≡ true

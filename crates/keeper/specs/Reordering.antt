-- The row is put right for a link that goes backward, as the code goes.
--
--   shown_round m x y   the way by which the link x between slots would go round is shown, after the searches met at the link y
--   moved m x           the link x is put in, with the row settled for it, and the part of the row between the places of its two cards is told
--   reordered m x       one or the other, by what the search finds
use Rattle.std.specs.Prelude.{ℕ, ◌+◌, ◌-◌, ◌^◌, min, cond, List, map, length, Ok, nat_le}
use Rattle.order.specs.declared.board.TheConstants.{CARDS, LINKS}
use Rattle.order.specs.declared.board.Link.{Link}
use Rattle.order.specs.declared.board.Refusal.TheVariants.{Full}
use Rattle.memory.specs.Columns.{cell}
use Rattle.memory.specs.Options.{given}
use Rattle.row.specs.declared.layout.TheConstants.{IDS}
use Rattle.row.specs.Meaning.{place_at}
use Rattle.links.specs.Entries.{live, inserted}
use Rattle.search.specs.declared.layout.TheConstants.{VIA}
use Rattle.search.specs.Hunt.{meeting}
use Rattle.search.specs.Settle.{forgotten, settled}
use Rattle.search.specs.Way.{way}
use Rattle.keeper.specs.declared.event.Act.TheVariants.{Shows}
use Rattle.keeper.specs.declared.pending.Pending.TheVariants.{Round}
use Rattle.keeper.specs.Answers.{Answer, quiet, refuses, noted}
use Rattle.keeper.specs.Telling.{told_part}

unfoldable pub round_cards : List ℕ → Link → Link → List ℕ
round_cards m x y = map (cell m IDS) (way (cell m VIA) CARDS x y)

unfoldable pub shown_round : List ℕ → Link → Link → Answer
shown_round m x y =
    record { act = Ok (Shows (length (round_cards m x y))); memory = noted (forgotten m) Round; numbers = round_cards m x y }

unfoldable pub moved : List ℕ → Link → Answer
moved m x =
    cond (nat_le LINKS (live m)) (quiet (refuses (forgotten m) Full))
    (told_part (inserted (settled m) x) (place_at m x.to) (min (place_at m x.from + 1) (2 ^ 64 - 1)))

unfoldable pub reordered : List ℕ → Link → Answer
reordered m x = given (meeting m x).answer (moved (meeting m x).memory x) (λ y. shown_round (meeting m x).memory x y)

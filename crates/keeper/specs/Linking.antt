-- Links are made and taken back, as the code goes.
--
--   slots_found m l    the slots of two cards, if both are there
--   unlinked m l       a link taken back
--   put_in m x         a link between slots put in, if there's room
--   shown_itself m k   a card before itself: it is the way alone
--   linked m l         a link made
use Rattle.std.specs.Prelude.{ℕ, cond, List, [], ◌∷◌, Some, None, Option, Ok, ◌==◌, nat_le, nat_lt}
use Rattle.order.specs.declared.board.TheConstants.{LINKS}
use Rattle.order.specs.declared.board.Link.{Link}
use Rattle.order.specs.declared.board.Refusal.TheVariants.{Missing, Exists, Full}
use Rattle.order.specs.Board.{◌⟶◌}
use Rattle.memory.specs.Columns.{cell}
use Rattle.row.specs.declared.layout.TheConstants.{SEATS}
use Rattle.memory.specs.Options.{given}
use Rattle.row.specs.Lookup.{found}
use Rattle.links.specs.Entries.{live, found as entry_found, inserted, removed}
use Rattle.keeper.specs.declared.event.Act.TheVariants.{Shows, Done}
use Rattle.keeper.specs.declared.pending.Pending.TheVariants.{Round}
use Rattle.keeper.specs.Answers.{Answer, Ended, quiet, ends, refuses, noted, by_result}
use Rattle.keeper.specs.Reordering.{reordered}

unfoldable pub slots_found : List ℕ → Link → Option Link
slots_found m l = given (found m l.from) None (λ a. given (found m l.to) None (λ b. Some (a ⟶ b)))

unfoldable pub unlinked : List ℕ → Link → Ended
unlinked m l =
    given (slots_found m l) (refuses m Missing) (λ x.
    by_result (removed m x).answer (λ e. ends (Ok Done) (removed m x).memory) (λ e. refuses (removed m x).memory Missing))

unfoldable pub put_in : List ℕ → Link → Ended
put_in m x = cond (nat_le LINKS (live m)) (refuses m Full) (ends (Ok Done) (inserted m x))

abbrev pub shown_itself : List ℕ → ℕ → Answer
shown_itself m k = record { act = Ok (Shows 1); memory = noted m Round; numbers = k ∷ [] }

unfoldable pub linked : List ℕ → Link → Answer
linked m l =
    given (slots_found m l) (quiet (refuses m Missing)) (λ x.
    given (entry_found m x)
    (cond (x.from == x.to) (shown_itself m l.from)
    (cond (nat_lt (cell m SEATS x.to) (cell m SEATS x.from)) (reordered m x) (quiet (put_in m x))))
    (λ e. quiet (refuses m Exists)))

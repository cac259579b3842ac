-- Several links are said at once, as the code goes.
--
--   noting m s            the memory, with the part of the row that a span names still to be told
--   told_span m s         the part of the row that a span names, told, at most 4,096 cards of it
--   part_aside m o        the memory with the part of the row that a span names put aside, if there is one
--   undone m ls o         the links taken out again, and the part of the row seated as it was
--   brought m ls o        what comes of links that were all put in: done, the row told if it changed; or refused, since there are too many
--   closed m ls o ks      what comes of links of which the one behind ls would go round by the way ks
--   by_trial t ls o       one or the other, by how the links were tried
--   rearranged m ls o     the links tried, with the part of the row put aside
--   said_several m ls     the links said at once, when nothing is pending: first the row is packed, and from then on seats are places
use Rattle.std.specs.Prelude.{ℕ, ◌-◌, min, cond, List, [], length, take, Ok, Option, nat_le}
use Rattle.order.specs.declared.board.TheConstants.{CARDS, LINKS}
use Rattle.order.specs.declared.board.Link.{Link}
use Rattle.order.specs.declared.board.Refusal.TheVariants.{Missing, Exists, Full}
use Rattle.memory.specs.Options.{given}
use Rattle.row.specs.Moves.{packed}
use Rattle.links.specs.Entries.{live}
use Rattle.keeper.specs.declared.event.Act.TheVariants.{Shows, Done}
use Rattle.keeper.specs.declared.pending.Pending.TheVariants.{Round, More}
use Rattle.keeper.specs.Answers.{Answer, quiet, ends, refuses, noted}
use Rattle.keeper.specs.Own.{went_on}
use Rattle.batch.specs.declared.layout.TheConstants.{BATCH}
use Rattle.batch.specs.declared.seating.Span.{Span}
use Rattle.batch.specs.Checking.{all_found, repeated, span}
use Rattle.batch.specs.Joining.{Tried, tried, taken_out}
use Rattle.batch.specs.Seating.{saved, reseated}

unfoldable pub noting : List ℕ → Span → List ℕ
noting m s = noted m (More s.low s.high)

abbrev pub told_span : List ℕ → Span → Answer
told_span m s = went_on (noting m s)

unfoldable pub part_aside : List ℕ → Option Span → List ℕ
part_aside m o = given o m (λ s. saved (min s.high CARDS - s.low) m s.low)

unfoldable pub undone : List ℕ → List Link → Option Span → List ℕ
undone m ls o = given o (taken_out m ls) (λ s. reseated (min s.high CARDS - s.low) (taken_out m ls) s.low)

unfoldable pub brought : List ℕ → List Link → Option Span → Answer
brought m ls o =
    cond (nat_le (live m) LINKS) (given o (quiet (ends (Ok Done) m)) (λ s. told_span m s)) (quiet (refuses (undone m ls o) Full))

abbrev pub closed : List ℕ → List Link → Option Span → List ℕ → Answer
closed m ls o ks = record { act = Ok (Shows (length ks)); memory = noted (undone m ls o) Round; numbers = ks }

unfoldable pub by_trial : Tried → List Link → Option Span → Answer
by_trial t ls o = given t.way (brought t.memory ls o) (closed t.memory (take t.count ls) o)

unfoldable pub rearranged : List ℕ → List Link → Option Span → Answer
rearranged m ls o = by_trial (tried (part_aside m o) ls 0) ls o

unfoldable pub said_several : List ℕ → List Link → Answer
said_several m ls =
    cond (nat_le (length ls) BATCH)
    (cond (all_found m ls)
    (cond (repeated m [] ls) (quiet (refuses m Exists)) (rearranged (packed m) ls (span (packed m) ls)))
    (quiet (refuses m Missing)))
    (quiet (refuses m Full))

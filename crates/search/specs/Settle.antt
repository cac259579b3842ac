-- Settling the row, as the code goes.
--
--   sooner o q           the smaller of two seats, or the one that is there
--   Gathered             the memory after slots were gathered, and the next free index
--   gathered f m c o i   the slots at the marked seats from o on, at most f of them, written to CHOSEN from the index i on
--   gathers m c i        the same, of all marked seats
--   both_first m         the first seat of both sets
--   both_next m p        the first seat of both sets after p
--   seated m p i         the seat p given to the i-th of CHOSEN
--   chose m              the slots of the hind seats, and behind them those of the fore ones, in CHOSEN
--   dealt f m o i        the seats of both sets from o on, at most f of them, given to the slots of CHOSEN from the index i on
--   reseated m           the seats of both sets given to the slots that sit at the hind ones, and then to those at the fore ones
--   forgotten m          both sets wiped
--   settled m            the two, one after the other
use Rattle.std.specs.Prelude.{ℕ, zero, suc, ◌+◌, min, List, Some, None, Option}
use Rattle.order.specs.declared.board.TheConstants.{CARDS}
use Rattle.memory.specs.declared.column.Column.{Column}
use Rattle.memory.specs.Columns.{cell, written}
use Rattle.memory.specs.Options.{given}
use Rattle.memory.specs.PlaceSets.{next_up, first_mark, wiped}
use Rattle.row.specs.declared.layout.TheConstants.{SLOTS}
use Rattle.row.specs.Moves.{put_at}
use Rattle.search.specs.declared.layout.TheConstants.{CHOSEN, FORE, HIND}

abbrev pub sooner : Option ℕ → Option ℕ → Option ℕ
sooner None q = q
sooner (Some p) None = Some p
sooner (Some p) (Some q) = Some (min p q)

pub record Gathered : Type 0 where
  pub memory : List ℕ
  pub end : ℕ

unfoldable pub gathered : ℕ → List ℕ → Column → Option ℕ → ℕ → Gathered
gathered zero m c o i = record { memory = m; end = i }
gathered (suc f) m c o i =
    given o (record { memory = m; end = i })
    (λ p. gathered f (written m CHOSEN i (cell m SLOTS p)) c (next_up (written m CHOSEN i (cell m SLOTS p)) c p) (i + 1))

unfoldable pub gathers : List ℕ → Column → ℕ → Gathered
gathers m c i = gathered CARDS m c (first_mark m c) i

unfoldable pub both_first : List ℕ → Option ℕ
both_first m = sooner (first_mark m HIND.column) (first_mark m FORE.column)

unfoldable pub both_next : List ℕ → ℕ → Option ℕ
both_next m p = sooner (next_up m HIND.column p) (next_up m FORE.column p)

unfoldable pub seated : List ℕ → ℕ → ℕ → List ℕ
seated m p i = put_at m p (cell m CHOSEN i)

unfoldable pub dealt : ℕ → List ℕ → Option ℕ → ℕ → List ℕ
dealt zero m o i = m
dealt (suc f) m o i = given o m (λ p. dealt f (seated m p i) (both_next (seated m p i) p) (i + 1))

unfoldable pub chose : List ℕ → List ℕ
chose m = (gathers (gathers m HIND.column 0).memory FORE.column (gathers m HIND.column 0).end).memory

abbrev pub reseated : List ℕ → List ℕ
reseated m = dealt CARDS (chose m) (both_first (chose m)) 0

unfoldable pub forgotten : List ℕ → List ℕ
forgotten m = wiped (wiped m HIND.column) FORE.column

unfoldable pub settled : List ℕ → List ℕ
settled m = forgotten (reseated m)

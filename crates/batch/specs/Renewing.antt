-- The row made anew by the rule, as the code goes.
--
--   raised m c s        one more at s of the column c
--   counted m n         the link whose pair of slots is n counted, for the slot that it goes into and for the one that it comes out of
--   counts m            so for all links
--   freed m s           the place of the slot s marked, if it waits for none
--   freed_all f m p     so for the slots at f places, from p on
--   frees m             so for all slots in the row
--   cleared m           nothing counted
--   prepared m          the row packed, the links counted, and marked the places of the slots that wait for none
--   lessened m s        the slot s waits for one fewer
--   released f m p      so for what the links go into that are met from the place p on, at most f of them
--   let_go m s          so for the links out of the slot s, as many as were counted
--   drawn m p i         the slot at the place p comes, after i others
--   Renewed             the memory after the row was made anew, and how many came
--   renewing f m i      at most f more come, after i others
--   drawn_all m         all come that do
--   renewed m           the row made anew
use Rattle.std.specs.Prelude.{ℕ, zero, suc, ◌+◌, ◌-◌, ◌^◌, ◌/◌, ◌%◌, min, cond, List, ◌==◌}
use Rattle.order.specs.declared.board.TheConstants.{CARDS}
use Rattle.memory.specs.declared.column.Column.{Column}
use Rattle.memory.specs.Columns.{cell, written, wiped}
use Rattle.memory.specs.Footprints.{at_each}
use Rattle.memory.specs.Options.{given}
use Rattle.memory.specs.PlaceSets.{added, removed, first_mark}
use Rattle.row.specs.declared.layout.TheConstants.{SLOTS, SEATS}
use Rattle.row.specs.Meaning.{count}
use Rattle.row.specs.Moves.{packed}
use Rattle.links.specs.declared.layout.TheConstants.{ENTRIES, OUT, AGE, ALL}
use Rattle.search.specs.declared.layout.TheConstants.{FORE}
use Rattle.batch.specs.declared.layout.TheConstants.{SPARE, WAITS, LEAVES}
use Rattle.batch.specs.Along.{along}

unfoldable pub raised : List ℕ → Column → ℕ → List ℕ
raised m c s = written m c s (min (cell m c s + 1) (2 ^ 64 - 1))

unfoldable pub counted : List ℕ → ℕ → List ℕ
counted m n = raised (raised m WAITS (n % CARDS)) LEAVES (n / CARDS)

abbrev pub counts : List ℕ → List ℕ
counts m = along AGE counted ENTRIES m ALL

unfoldable pub freed : List ℕ → ℕ → List ℕ
freed m s = cond (cell m WAITS s == 0) (added m FORE.column (cell m SEATS s)) m

unfoldable pub freed_all : ℕ → List ℕ → ℕ → List ℕ
freed_all f m p = at_each (λ m₁ q. freed m₁ (cell m₁ SLOTS q)) f m p

abbrev pub frees : List ℕ → List ℕ
frees m = freed_all (min (count m) CARDS) m 0

unfoldable pub cleared : List ℕ → List ℕ
cleared m = wiped CARDS (wiped CARDS m WAITS 0) LEAVES 0

unfoldable pub prepared : List ℕ → List ℕ
prepared m = frees (counts (cleared (packed m)))

unfoldable pub lessened : List ℕ → ℕ → List ℕ
lessened m s = freed (written m WAITS s (cell m WAITS s - 1)) s

abbrev pub released : ℕ → List ℕ → ℕ → List ℕ
released f m p = along OUT lessened f m p

unfoldable pub let_go : List ℕ → ℕ → List ℕ
let_go m s = released (cell m LEAVES s) (written m LEAVES s 0) s

unfoldable pub drawn : List ℕ → ℕ → ℕ → List ℕ
drawn m p i = let_go (written (removed m FORE.column p) SPARE i (cell m SLOTS p)) (cell m SLOTS p)

pub record Renewed : Type 0 where
  pub memory : List ℕ
  pub came : ℕ

unfoldable pub renewing : ℕ → List ℕ → ℕ → Renewed
renewing zero m i = record { memory = m; came = i }
renewing (suc f) m i = given (first_mark m FORE.column) (record { memory = m; came = i }) (λ p. renewing f (drawn m p i) (i + 1))

unfoldable pub drawn_all : List ℕ → Renewed
drawn_all m = renewing (min (count m) CARDS) m 0

unfoldable pub renewed : List ℕ → Renewed
renewed m = drawn_all (prepared m)

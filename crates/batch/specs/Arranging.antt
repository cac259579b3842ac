-- The row put into the order of the cards' numbers, as the code goes.
--
--   filled v c f m i   f numbers of the column c, from i on, written one after the other: at each i what v says of the memory and of i
--   card_at m p        the number of the card at the place p
--   slot_of m k        the slot of the card k, 0 where there is none
--   slot_at m i        the slot of the card whose number stands at i of the column NUMBERS
--   ordered n m        the numbers of n cards in their order, in the column NUMBERS
--   looked_up n m      and their slots in that order, in the column SPARE
--   arranged_by n m    the row of n cards put into the order of their numbers
--   arranged m         the row packed, and put into the order of the cards' numbers
use Rattle.std.specs.Prelude.{ℕ, ◌+◌, min, List}
use Rattle.order.specs.declared.board.TheConstants.{CARDS}
use Rattle.memory.specs.declared.column.Column.{Column}
use Rattle.memory.specs.Columns.{cell, written}
use Rattle.memory.specs.Footprints.{at_each}
use Rattle.memory.specs.Options.{given}
use Rattle.row.specs.declared.layout.TheConstants.{IDS, SLOTS}
use Rattle.row.specs.Meaning.{count}
use Rattle.row.specs.Moves.{packed}
use Rattle.row.specs.Lookup.{found}
use Rattle.batch.specs.declared.layout.TheConstants.{SPARE, NUMBERS}
use Rattle.batch.specs.Seating.{reseated}
use Rattle.batch.specs.Sorting.{sorted_part}

unfoldable pub filled : (List ℕ → ℕ → ℕ) → Column → ℕ → List ℕ → ℕ → List ℕ
filled v c f m i = at_each (λ m₁ j. written m₁ c j (v m₁ j)) f m i

unfoldable pub card_at : List ℕ → ℕ → ℕ
card_at m p = cell m IDS (cell m SLOTS p)

abbrev pub slot_of : List ℕ → ℕ → ℕ
slot_of m k = given (found m k) 0 (λ s. s)

unfoldable pub slot_at : List ℕ → ℕ → ℕ
slot_at m i = slot_of m (cell m NUMBERS i)

abbrev pub ordered : ℕ → List ℕ → List ℕ
ordered n m = sorted_part (filled card_at NUMBERS n m 0) NUMBERS.base (NUMBERS.base + n)

abbrev pub looked_up : ℕ → List ℕ → List ℕ
looked_up n m = filled slot_at SPARE n (ordered n m) 0

unfoldable pub arranged_by : ℕ → List ℕ → List ℕ
arranged_by n m = reseated n (looked_up n m) 0

abbrev pub arranged : List ℕ → List ℕ
arranged m = arranged_by (min (count (packed m)) CARDS) (packed m)

-- The row is told, as the code goes.
--
--   cards_from n m p   the cards at the next n taken seats from the seat p on
--   middle m p n       the cards from the place p on, n of them
--   left_to_tell       what is still to come of a row that is told up to a place, and is to be told up to another
--   end_at m j         the place j, or the row's end if that comes first
--   told_part m i j    the cards from the place i on, below j, told, at most TOLD of them
use Rattle.std.specs.Prelude.{ℕ, zero, suc, ◌+◌, ◌-◌, min, cond, List, [], ◌∷◌, Ok, nat_lt}
use Rattle.order.specs.declared.board.TheConstants.{CARDS}
use Rattle.memory.specs.Columns.{cell}
use Rattle.row.specs.declared.layout.TheConstants.{IDS, SLOTS}
use Rattle.row.specs.Meaning.{count}
use Rattle.row.specs.Telling.{next_seat, selected}
use Rattle.keeper.specs.declared.layout.TheConstants.{TOLD}
use Rattle.keeper.specs.declared.event.Act.TheVariants.{Tells}
use Rattle.keeper.specs.declared.pending.Pending.TheVariants.{Done, More}
use Rattle.keeper.specs.Answers.{Answer, noted}

unfoldable pub cards_from : ℕ → List ℕ → ℕ → List ℕ
cards_from zero m p = []
cards_from (suc n) m p = cell m IDS (cell m SLOTS (next_seat m p)) ∷ cards_from n m (next_seat m p + 1)

unfoldable pub middle : List ℕ → ℕ → ℕ → List ℕ
middle m p n = cards_from n m (selected m p)

unfoldable pub left_to_tell : List ℕ → ℕ → ℕ → List ℕ
left_to_tell m i j = cond (nat_lt i j) (noted m (More i j)) (noted m Done)

-- from a place on, so many, up to a place
abbrev pub telling : List ℕ → ℕ → ℕ → ℕ → Answer
telling m i n j = record { act = Ok (Tells i n); memory = left_to_tell m (i + n) j; numbers = middle m i n }

abbrev pub end_at : List ℕ → ℕ → ℕ
end_at m j = min (min j (count m)) CARDS

unfoldable pub told_part : List ℕ → ℕ → ℕ → Answer
told_part m i j = telling m (min i (end_at m j)) (min (end_at m j - min i (end_at m j)) TOLD) (end_at m j)

-- The row put aside, and seated again, as the code goes.
--
--   saved f m p      the slots at f places from p on put aside
--   reseated f m p   f places from p on given to the slots that were put aside for them
use Rattle.std.specs.Prelude.{ℕ, List}
use Rattle.memory.specs.Columns.{cell, written}
use Rattle.memory.specs.Footprints.{at_each}
use Rattle.row.specs.declared.layout.TheConstants.{SLOTS}
use Rattle.row.specs.Moves.{put_at}
use Rattle.batch.specs.declared.layout.TheConstants.{SPARE}

unfoldable pub saved : ℕ → List ℕ → ℕ → List ℕ
saved f m p = at_each (λ m₁ q. written m₁ SPARE q (cell m₁ SLOTS q)) f m p

unfoldable pub reseated : ℕ → List ℕ → ℕ → List ℕ
reseated f m p = at_each (λ m₁ q. put_at m₁ q (cell m₁ SPARE q)) f m p

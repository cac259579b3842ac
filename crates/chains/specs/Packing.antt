-- Cells, and how they are packed.
--
--   encoded x   the number of a cell; what is too large is cut off
--   decoded n   the cell of a number
--   Fits x      nothing of the cell is cut off
use Rattle.std.specs.Prelude.{ℕ, ◌+◌, ◌*◌, ◌/◌, ◌%◌, ◌<◌}
use Rattle.chains.specs.declared.cells.TheConstants.{HELD, LABELS, POINTERS, CELLS}
use Rattle.chains.specs.declared.cells.Cell.{Cell}

unfoldable pub encoded : Cell → ℕ
encoded x = x.next.held % HELD + x.next.label % LABELS * HELD + x.back % CELLS * POINTERS

unfoldable pub decoded : ℕ → Cell
decoded n = record { next = record { held = n % HELD; label = n / HELD % LABELS }; back = n / POINTERS % CELLS }

pub record Fits (x : Cell) : Type 0 where
  pub held : x.next.held < HELD
  pub label : x.next.label < LABELS
  pub back : x.back < CELLS

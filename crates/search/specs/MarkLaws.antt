-- What is so of marks past the last place, in any memory.
--
--   AddingPast   a place past the last one can't be added, and isn't marked
use Rattle.std.specs.Prelude.{◌≡◌, ℕ, ◌≤◌, false, List}
use Rattle.memory.specs.declared.column.Column.{Column}
use Rattle.memory.specs.declared.place_set.TheConstants.{PLACES}
use Rattle.memory.specs.PlaceSets.{marked, fresh, added}

unfoldable pub AddingPast : Type 0
AddingPast = (m : List ℕ) (c : Column) (p : ℕ) → PLACES ≤ p → (fresh m c p ≡ false) × (added m c p ≡ m) × (marked m c p ≡ false)

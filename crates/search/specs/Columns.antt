-- The columns of this crate.
--   columns      all of them
--   searched     those that a search writes
--   sets         those of the two sets of seats
--   FreshMemory  in a memory of zeros no seat is marked
use Rattle.std.specs.Prelude.{◌≡◌, ℕ, false, List, [], ◌∷◌, replicate}
use Rattle.memory.specs.declared.column.TheConstants.{MEMORY}
use Rattle.memory.specs.declared.column.Column.{Column}
use Rattle.memory.specs.PlaceSets.{marked}
use Rattle.memory.specs.PlaceSetLaws.{Summed}
use Rattle.search.specs.declared.layout.TheConstants.{VIA, CHOSEN, FORE, HIND}

abbrev pub columns : List Column
columns = VIA ∷ CHOSEN ∷ FORE.column ∷ HIND.column ∷ []

abbrev pub searched : List Column
searched = VIA ∷ FORE.column ∷ HIND.column ∷ []

abbrev pub sets : List Column
sets = FORE.column ∷ HIND.column ∷ []

unfoldable pub FreshMemory : Type 0
FreshMemory =
    Summed (replicate MEMORY 0) FORE.column × Summed (replicate MEMORY 0) HIND.column × ((q : ℕ) → marked (replicate MEMORY 0) FORE.column q ≡ false)
    × ((q : ℕ) → marked (replicate MEMORY 0) HIND.column q ≡ false)

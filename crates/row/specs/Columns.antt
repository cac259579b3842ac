-- The columns of this crate.
--   columns     all of them
use Rattle.std.specs.Prelude.{List, [], ◌∷◌}
use Rattle.memory.specs.declared.column.Column.{Column}
use Rattle.row.specs.declared.layout.TheConstants.{COUNT, ENDING, FRESH, FREE, IDS, CHAIN, SLOTS, SEATS, TAKEN}

abbrev pub columns : List Column
columns = COUNT ∷ ENDING ∷ FRESH ∷ FREE ∷ IDS ∷ CHAIN ∷ SLOTS ∷ SEATS ∷ TAKEN ∷ []

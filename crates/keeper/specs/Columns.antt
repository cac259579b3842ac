-- The columns of this crate.
--   columns     all of them
use Rattle.std.specs.Prelude.{List, [], ◌∷◌}
use Rattle.memory.specs.declared.column.Column.{Column}
use Rattle.keeper.specs.declared.layout.TheConstants.{PENDING, MORE_FROM, MORE_TO}

abbrev pub columns : List Column
columns = PENDING ∷ MORE_FROM ∷ MORE_TO ∷ []

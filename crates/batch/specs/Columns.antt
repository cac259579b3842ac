-- The columns of this crate, and those that its functions write.
--
--   columns      the columns of this crate
--   all_columns  the columns of all crates
--   seated       where slots take places: those of slots and of seats
--   packing      where the row is packed
--   renewing     where the row is made anew
--   arranging    where it is put into the order of the cards' numbers
--   tidying      both
use Rattle.std.specs.Prelude.{List, [], ◌∷◌, ◌++◌}
use Rattle.memory.specs.declared.column.Column.{Column}
use Rattle.row.specs.Columns.{columns as row_columns}
use Rattle.links.specs.Table.{columns as link_columns}
use Rattle.search.specs.Columns.{columns as search_columns}
use Rattle.keeper.specs.Columns.{columns as keeper_columns}
use Rattle.row.specs.declared.layout.TheConstants.{ENDING, SLOTS, SEATS, TAKEN}
use Rattle.search.specs.declared.layout.TheConstants.{FORE}
use Rattle.batch.specs.declared.layout.TheConstants.{SPARE, WAITS, LEAVES, NUMBERS}

abbrev pub columns : List Column
columns = SPARE ∷ WAITS ∷ LEAVES ∷ NUMBERS ∷ []

abbrev pub all_columns : List Column
all_columns = row_columns ++ (link_columns ++ (search_columns ++ (keeper_columns ++ columns)))

abbrev pub seated : List Column
seated = SLOTS ∷ SEATS ∷ []

abbrev pub packing : List Column
packing = ENDING ∷ SLOTS ∷ SEATS ∷ TAKEN ∷ []

abbrev pub renewing : List Column
renewing = ENDING ∷ SLOTS ∷ SEATS ∷ TAKEN ∷ FORE.column ∷ SPARE ∷ WAITS ∷ LEAVES ∷ []

abbrev pub arranging : List Column
arranging = ENDING ∷ SLOTS ∷ SEATS ∷ TAKEN ∷ SPARE ∷ NUMBERS ∷ []

abbrev pub tidying : List Column
tidying = ENDING ∷ SLOTS ∷ SEATS ∷ TAKEN ∷ FORE.column ∷ SPARE ∷ WAITS ∷ LEAVES ∷ NUMBERS ∷ []

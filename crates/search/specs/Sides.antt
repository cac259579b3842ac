-- The two searches, one forward and one backward, as the code goes.
--
--   table_of d       the chains by which a search goes on
--   marks_of d       the column of the seats that it has come to
--   other d          the other search
--   ahead m d p      the next seat that is marked, in its direction
--   joined d x t     the link by which it comes from x to t
use Rattle.std.specs.Prelude.{ℕ, List, Option}
use Rattle.order.specs.declared.board.Link.{Link}
use Rattle.order.specs.Board.{◌⟶◌}
use Rattle.memory.specs.declared.column.Column.{Column}
use Rattle.memory.specs.PlaceSets.{next_up, next_down}
use Rattle.chains.specs.declared.chain_table.ChainTable.{ChainTable}
use Rattle.links.specs.declared.layout.TheConstants.{OUT, IN}
use Rattle.search.specs.declared.layout.TheConstants.{FORE, HIND}
use Rattle.search.specs.declared.side.Side.{Side}
use Rattle.search.specs.declared.side.Side.TheVariants.{Fore, Hind}

abbrev pub table_of : Side → ChainTable
table_of Fore = OUT
table_of Hind = IN

abbrev pub marks_of : Side → Column
marks_of Fore = FORE.column
marks_of Hind = HIND.column

abbrev pub other : Side → Side
other Fore = Hind
other Hind = Fore

abbrev pub ahead : List ℕ → Side → ℕ → Option ℕ
ahead m Fore p = next_up m FORE.column p
ahead m Hind p = next_down m HIND.column p

abbrev pub joined : Side → ℕ → ℕ → Link
joined Fore x t = x ⟶ t
joined Hind x t = t ⟶ x

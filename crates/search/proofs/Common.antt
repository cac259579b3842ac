-- The words of the specs that many proofs here speak in.
pub use Rattle.memory.specs.Columns.{apart, cell, written}
pub use Rattle.row.specs.declared.layout.TheConstants.{CHAIN, COUNT, ENDING, FREE, FRESH, IDS, SEATS, SEATS_MOST, SLOTS, TAKEN}
pub use Rattle.search.specs.declared.layout.TheConstants.{CHOSEN, FORE, HIND, VIA}
pub use Rattle.memory.specs.PlaceSets.{added, fresh, marked, wiped}
unfoldable pub use Rattle.memory.specs.PlaceSets.{first_mark, next_bit, next_up, tops_up, up_from, word_up}
pub use Rattle.order.specs.declared.board.TheConstants.{CARDS}
pub use Rattle.search.specs.declared.side.Side.{Side}
pub use Rattle.search.specs.Meaning.{Parted, Ready, Trailed, part, slot_board, slot_on}
pub use Rattle.search.specs.Sides.{ahead, joined, marks_of, other, table_of}
pub use Rattle.row.specs.Meaning.{Chains, Freed, IsRow, Seating, Stacked, Standing, bit_set, ending, rank, row_of, taken, used}
unfoldable pub use Rattle.row.specs.Meaning.{amount, in_use, listed}
pub use Rattle.order.specs.Board.{Board, keeps, leads, linked, ◌⟶◌}
pub use Rattle.search.specs.declared.side.Side.TheVariants.{Fore, Hind}
pub use Rattle.order.specs.declared.board.Link.{Link}
pub use Rattle.order.specs.Lists.{has, place}
unfoldable pub use Rattle.order.specs.Lists.{any, distinct, every, filter}
pub use Rattle.memory.specs.PlaceSetLaws.{JustAfter, Least, Summed}
unfoldable pub use Rattle.memory.specs.PlaceSetLaws.{CellsAlone}
pub use Rattle.memory.specs.Footprints.{Small, View, Writes, clear, view}
pub use Rattle.search.specs.Hunt.{Going, Met, Spreading, advanced, front, hunt_on, idle, left_by, met_with, moved, part_of, spread_on, started}
unfoldable pub use Rattle.search.specs.Hunt.{entered, gone_on, hunted, meeting, sees, spreading, turn}
pub use Rattle.search.specs.Columns.{columns, searched, sets}
unfoldable pub use Rattle.search.specs.Columns.{FreshMemory}
pub use Rattle.search.specs.Settle.{Gathered, reseated, sooner}
unfoldable pub use Rattle.search.specs.Settle.{both_first, both_next, chose, dealt, forgotten, gathered, gathers, seated, settled}
pub use Rattle.memory.specs.declared.place_set.TheConstants.{PLACES}
pub use Rattle.memory.specs.declared.column.Column.{Column}
pub use Rattle.search.specs.declared.hunt.Part.{Part}
pub use Rattle.search.specs.declared.hunt.Front.{Front}
pub use Rattle.memory.specs.Options.{Within, given}
pub use Rattle.links.specs.Table.{IsTable}
unfoldable pub use Rattle.links.specs.Table.{edges}
pub use Rattle.chains.specs.declared.cells.Pointer.{Pointer}

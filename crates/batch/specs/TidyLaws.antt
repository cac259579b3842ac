-- What is so of the row that is tidied. Each of the two last names is a statement; its proof is asked for by a function of src/tidy_laws.rt.
--
--   row_made r new      the board with the row new
--   RowTidy r m' new    m' means the board r with the row new, which has the cards as they come by the rule from the order of their numbers on;
--                       this board is fine, so the row keeps all links
--
--   Tidies              of a memory that means a board all cards come, and it means the board with its row tidied
--   TidiesOnly          the memory keeps its size, whatever stands in it
use Rattle.std.specs.Prelude.{◌≡◌, ℕ, true, List, length}
use Rattle.order.specs.Board.{Board, fine}
use Rattle.memory.specs.declared.column.TheConstants.{MEMORY}
use Rattle.keeper.specs.Sized.{KeepsSize}
use Rattle.keeper.specs.Meaning.{Means}
use Rattle.batch.specs.Rule.{Ruled, sorted}
use Rattle.batch.specs.Tidying.{tidied}

abbrev pub row_made : Board → List ℕ → Board
row_made r new = record { row = new; links = r.links }

pub record RowTidy (r : Board) (m' new : List ℕ) : Type 0 where
  pub means : Means m' (row_made r new)
  pub ruled : Ruled r.links (sorted r.row) new
  pub fine_so : fine (row_made r new) ≡ true

abbrev pub Tidies : Type 0
Tidies =
    (m : List ℕ) (r : Board) → length m ≡ MEMORY → Means m r → ((tidied m).all ≡ true) × ((new : List ℕ) × RowTidy r (tidied m).memory new)

abbrev pub TidiesOnly : Type 0
TidiesOnly = (m : List ℕ) → KeepsSize m (tidied m).memory

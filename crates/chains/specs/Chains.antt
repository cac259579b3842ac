-- What the chains of a table are, and when a memory holds them. A chain is the list of its pointers, the newest first: each is an entry with its label.
--
--   InRange F x          x points to an entry of the table
--   Spells F f p xs      from the place p on, the cells spell xs: each cell's pointer is the next of xs, and each entry's cell says which cell holds it
--   HoldsBy F n g chains these chains, one for each key, are held by the numbers g of the table's column, in a memory of n numbers
--   Holds F m chains     the memory holds these chains
--   has h xs             the entry h is in xs
--   front k x chains     x in front of the chain of k
--   emptied k chains     the chain of k emptied
--   out_of h xs          xs without the entry h
use Rattle.std.specs.Prelude.{◌≡◌, ℕ, ◌+◌, ◌<◌, ◌≤◌, Bool, cond, not, List, [], ◌∷◌, length, ◌==◌, filter}
use Rattle.std.specs.List.{list_any}
use Rattle.memory.specs.Columns.{cell}
use Rattle.chains.specs.declared.cells.TheConstants.{HELD, LABELS, CELLS}
use Rattle.chains.specs.declared.cells.Pointer.{Pointer}
use Rattle.chains.specs.declared.cells.Cell.{Cell}
use Rattle.chains.specs.declared.chain_table.ChainTable.{ChainTable}
use Rattle.chains.specs.Packing.{decoded}
use Rattle.chains.specs.Tables.{node}

pub record InRange (F : ChainTable) (x : Pointer) : Type 0 where
  pub entry : 0 < x.held
  pub word : x.held < HELD
  pub label : x.label < LABELS
  pub inside : F.heads + x.held < F.cells.size

abbrev pub Spells : ChainTable → (ℕ → Cell) → ℕ → List Pointer → Type 0
Spells F f p [] = (f p).next.held ≡ 0
Spells F f p (x ∷ xs) = ((f p).next ≡ x) × InRange F x × ((f (node F x.held)).back ≡ p) × Spells F f (node F x.held) xs

pub record HoldsBy (F : ChainTable) (n : ℕ) (g : ℕ → ℕ) (chains : ℕ → List Pointer) : Type 0 where
  pub room : F.cells.base + F.cells.size ≤ n
  pub small : F.cells.size ≤ CELLS
  pub headed : F.heads < F.cells.size
  pub spelled : (k : ℕ) → k < F.heads → Spells F (λ p. decoded (g p)) k (chains k)

abbrev pub Holds : ChainTable → List ℕ → (ℕ → List Pointer) → Type 0
Holds F m chains = HoldsBy F (length m) (cell m F.cells) chains

abbrev pub has : ℕ → List Pointer → Bool
has h xs = list_any (λ x. x.held == h) xs

abbrev pub front : ℕ → Pointer → (ℕ → List Pointer) → ℕ → List Pointer
front k x chains j = cond (j == k) (x ∷ chains j) (chains j)

abbrev pub emptied : ℕ → (ℕ → List Pointer) → ℕ → List Pointer
emptied k chains j = cond (j == k) [] (chains j)

abbrev pub out_of : ℕ → List Pointer → List Pointer
out_of h xs = filter (λ x. not (x.held == h)) xs

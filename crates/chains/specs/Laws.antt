-- What is so of the operations. m is the memory before, m' after.
--
--   Comes F m k x m'   x comes in front of the chain of k, if its entry was in none
--   Goes F m h m'      the entry h, if it was in some chain, is in none, and all else stays
--   GoesOn F m h m'   a walk that has just passed the entry h meets what it would have met
--   Empties F m k m'  the chain of k is empty, the others stay
--   Begins            where the heads are zeros, all chains are empty
--   EachOnce          no entry is twice in the chains that a memory holds
--   Reads F m k f xs   xs is the chain of k, if f steps are enough for all entries
use Rattle.std.specs.Prelude.{◌≡◌, ℕ, ◌+◌, ◌<◌, ◌≤◌, true, false, List, [], ◌∷◌, ◌++◌, map, length, nat_eq}
use Rattle.std.specs.List.{IsDistinct}
use Rattle.chains.specs.declared.cells.TheConstants.{CELLS}
use Rattle.chains.specs.declared.cells.Pointer.{Pointer}
use Rattle.chains.specs.declared.chain_table.ChainTable.{ChainTable}
use Rattle.memory.specs.Columns.{cell}
use Rattle.chains.specs.Tables.{node}
use Rattle.chains.specs.Chains.{InRange, Holds, has, front, emptied, out_of}
use Rattle.chains.specs.Walks.{walked}

unfoldable pub Comes : ChainTable → List ℕ → ℕ → Pointer → List ℕ → Type 0
Comes F m k x m' = (chains : ℕ → List Pointer) → Holds F m chains → k < F.heads → InRange F x → ((j : ℕ) → j < F.heads → has x.held (chains j) ≡ false)
    → Holds F m' (front k x chains)

unfoldable pub Goes : ChainTable → List ℕ → ℕ → List ℕ → Type 0
Goes F m h m' = (chains : ℕ → List Pointer) (k : ℕ) → Holds F m chains → k < F.heads → has h (chains k) ≡ true → Holds F m' (λ j. out_of h (chains j))

unfoldable pub GoesOn : ChainTable → List ℕ → ℕ → List ℕ → Type 0
GoesOn F m h m' = (chains : ℕ → List Pointer) (k f : ℕ) (xs ys : List Pointer) (x : Pointer) → Holds F m chains → k < F.heads → chains k ≡ xs ++ x ∷ ys → x.held ≡ h
    → F.cells.size ≤ F.heads + f + 1 → walked f F m' (node F h) ≡ ys

unfoldable pub Empties : ChainTable → List ℕ → ℕ → List ℕ → Type 0
Empties F m k m' = (chains : ℕ → List Pointer) → Holds F m chains → k < F.heads → Holds F m' (emptied k chains)

unfoldable pub Begins : Type 0
Begins = (F : ChainTable) (m : List ℕ) → F.cells.base + F.cells.size ≤ length m → F.cells.size ≤ CELLS → F.heads < F.cells.size
    → ((k : ℕ) → k < F.heads → cell m F.cells k ≡ 0) → Holds F m (λ k. [])

unfoldable pub EachOnce : Type 0
EachOnce = (F : ChainTable) (m : List ℕ) (chains : ℕ → List Pointer) → Holds F m chains
    → ((k : ℕ) → k < F.heads → IsDistinct nat_eq (map (λ x. x.held) (chains k)))
    × ((j k h : ℕ) → j < F.heads → k < F.heads → has h (chains j) ≡ true → has h (chains k) ≡ true → j ≡ k)

unfoldable pub Reads : ChainTable → List ℕ → ℕ → ℕ → List Pointer → Type 0
Reads F m k f xs = (chains : ℕ → List Pointer) → Holds F m chains → k < F.heads → F.cells.size ≤ F.heads + f + 1 → xs ≡ chains k

-- The operations write to their table's column alone, and the chains of a table depend on its column alone.
use Rattle.std.proofs.Common.{◌≡◌, ℕ, true, List, [], ◌∷◌, sym, ap, subst, subst₂}
use Rattle.memory.specs.declared.column.Column.{Column}
use Rattle.memory.specs.Columns.{cell}
use Rattle.memory.specs.Footprints.{clear, Writes}
use Rattle.memory.proofs.Footprints.{on, put_one}
use Rattle.chains.specs.declared.cells.Pointer.{Pointer}
use Rattle.chains.specs.declared.cells.Cell.{Cell}
use Rattle.chains.specs.declared.chain_table.ChainTable.{ChainTable}
use Rattle.chains.specs.Packing.{encoded, decoded}
use Rattle.chains.specs.Tables.{at, put, pushed, unhooked, cleared}
use Rattle.chains.specs.Chains.{Holds, HoldsBy}
use Rattle.chains.specs.Walks.{walked, walked_by}
use Rattle.chains.proofs.Packing.{encoded_word}
use Rattle.chains.proofs.Walking.{Leads}

-- what is so after something was written that is clear of the table
module _ (F : ChainTable) {fs : List Column} {m n : List ℕ} (w : Writes fs m n) (c : clear fs F.cells ≡ true) where
  column_kept : cell m F.cells ≡ cell n F.cells
  column_kept = λ t p. sym (w.others F.cells p c) t

  pub holds_kept : {chains : ℕ → List Pointer} → Holds F m chains → Holds F n chains
  holds_kept {chains} h = subst₂ (λ (l : ℕ) (g : ℕ → ℕ). HoldsBy F l g chains) (sym w.as_long) column_kept h

  pub leads_kept : (xs : List Pointer) (p : ℕ) → Leads F (at F m) p xs → Leads F (at F n) p xs
  leads_kept xs p s = subst (λ (g : ℕ → ℕ). Leads F (λ q. decoded (g q)) p xs) column_kept s

pub walked_kept : (F : ChainTable) (fs : List Column) → clear fs F.cells ≡ true → (m n : List ℕ) → Writes fs m n → (f p : ℕ)
    → walked f F n p ≡ walked f F m p
walked_kept F fs c m n w f p = ap (λ (g : ℕ → ℕ). walked_by f F g p) (sym (column_kept F w c))

-- what the operations write
module _ (F : ChainTable) (m : List ℕ) where
  pub put_writes : (p : ℕ) (x : Cell) → Writes (F.cells ∷ []) m (put F m p x)
  put_writes p x = put_one m F.cells p (encoded x) (λ s. encoded_word x)

module _ (F : ChainTable) (m : List ℕ) where
  pub pushed_writes : (k : ℕ) (x : Pointer) → Writes (F.cells ∷ []) m (pushed F m k x)
  unfolding pushed
  pushed_writes k x =
      on (F.cells ∷ []) m _ _ (put_writes F m _ _) (on (F.cells ∷ []) _ _ _ (put_writes F _ _ _) (put_writes F _ _ _))

  pub unhooked_writes : (h : ℕ) → Writes (F.cells ∷ []) m (unhooked F m h)
  unfolding unhooked
  unhooked_writes h = on (F.cells ∷ []) m _ _ (put_writes F m _ _) (put_writes F _ _ _)

  pub cleared_writes : (k : ℕ) → Writes (F.cells ∷ []) m (cleared F m k)
  unfolding cleared
  cleared_writes k = put_writes F m k _

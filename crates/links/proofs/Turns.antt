-- The turns of the loop along a chain, against its model.
use Rattle.std.proofs.Common.{◌≡◌, ℕ, zero, suc, ◌+◌, ltb, List, set, Some, None, sym, ap, ◌∙◌, refl, inl, inr}
use Rattle.std.proofs.lemmas.Bool.{cases_Bool}
use Rattle.std.proofs.lemmas.List.{set-get_or}
use Rattle.memory.specs.declared.column.Column.{Column}
use Rattle.memory.specs.Columns.{cell, written}
use Rattle.chains.specs.declared.cells.Pointer.{Pointer}
use Rattle.chains.specs.declared.chain_table.ChainTable.{ChainTable}
use Rattle.chains.specs.Packing.{encoded, decoded}
use Rattle.chains.specs.Tables.{node, unhooked, cleared}
use Rattle.chains.specs.Walks.{met}
use Rattle.links.specs.declared.layout.TheConstants.{ENTRIES}
use Rattle.links.specs.Entries.{freed, dropped, emptied}

module _ (F G : ChainTable) (m : List ℕ) (p : ℕ) where
  pub dropped_none : (f : ℕ) → met F m p ≡ None → dropped f F G m p ≡ m
  unfolding dropped
  dropped_none zero e = refl
  dropped_none (suc f) e = rw e refl

  pub dropped_some : (f g : ℕ) (x : Pointer) → f ≡ suc g → met F m p ≡ Some x
      → dropped f F G m p ≡ dropped g F G (freed (unhooked G m x.held) x.held) (node F x.held)
  unfolding dropped
  dropped_some f g x i e = ap (λ (n : ℕ). dropped n F G m p) i ∙ rw e refl

  pub dropped_end : (f : ℕ) → f ≡ 0 → dropped f F G m p ≡ m
  unfolding dropped
  dropped_end f e = rw e refl

pub ruleset drops = (dropped_none, dropped_some, dropped_end)

-- a chain that has nothing in it is emptied
blank_written : (m : List ℕ) (c : Column) (i : ℕ) → cell m c i ≡ 0 → written m c i 0 ≡ m
unfolding cell written
blank_written m c i e = elim (cases_Bool (ltb i c.size)) [
  | inl l ↦ let z = rw l at e in rw l (ap (set m (c.base + i)) (sym z) ∙ set-get_or m (c.base + i) 0)
  | inr l ↦ rw l refl
]

met_blank : (F : ChainTable) (m : List ℕ) (s : ℕ) → cell m F.cells s ≡ 0 → met F m s ≡ None
unfolding decoded
met_blank F m s e = rw e refl

pub emptied_blank : (F G : ChainTable) (m : List ℕ) (s : ℕ) → cell m F.cells s ≡ 0 → m ≡ emptied F G m s
unfolding emptied cleared encoded
emptied_blank F G m s e = sym (ap (λ (n : List ℕ). cleared F n s) (dropped_none F G m s ENTRIES (met_blank F m s e)) ∙ blank_written m F.cells s e)

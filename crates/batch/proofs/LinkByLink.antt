-- What is done link by link, along a chain, by a step that writes beside the chain's table: it is done for what a walk gives, one after the other.
use Rattle.std.proofs.Common.{◌≡◌, ℕ, zero, suc, true, List, [], ◌∷◌, map, Some, None, Option, refl, ap, ◌∙◌}
use Rattle.std.specs.List.{fold}
use Rattle.memory.specs.declared.column.Column.{Column}
use Rattle.memory.specs.Footprints.{clear, Writes}
use Rattle.memory.specs.Options.{given}
use Rattle.memory.proofs.Footprints.{same, on}
use Rattle.memory.proofs.Options.{given_holds}
use Rattle.chains.specs.declared.cells.Pointer.{Pointer}
use Rattle.chains.specs.declared.chain_table.ChainTable.{ChainTable}
use Rattle.chains.specs.Tables.{node}
use Rattle.chains.specs.Walks.{met, walked, walked_by}
use Rattle.chains.proofs.Framing.{walked_kept}
use Rattle.batch.specs.Along.{along}

-- the labels that a walk gives
abbrev pub labels : ℕ → ChainTable → List ℕ → ℕ → List ℕ
labels f F m p = map (λ x. x.label) (walked f F m p)

module _ (F : ChainTable) (step : List ℕ → ℕ → List ℕ) (fs : List Column) (w : (m : List ℕ) (n : ℕ) → Writes fs m (step m n)) where
  pub along_writes : (f : ℕ) (m : List ℕ) (p : ℕ) → Writes fs m (along F step f m p)
  unfolding along
  along_writes zero m p = same fs m
  along_writes (suc f) m p =
      given_holds (λ _. Unit {0}) (Writes fs m) (met F m p) m _ tt (same fs m) (λ x _. on fs m _ _ (w m x.label) (along_writes f _ (node F x.held)))

  module _ (c : clear fs F.cells ≡ true) where
    then_fold : (f : ℕ) → ((m : List ℕ) (p : ℕ) → along F step f m p ≡ fold step m (labels f F m p)) → (m : List ℕ) (o : Option Pointer) →
        given o m (λ x. along F step f (step m x.label) (node F x.held))
        ≡ fold step m (map (λ x. x.label) (given o [] (λ x. x ∷ walked f F m (node F x.held))))
    then_fold f ih m None = refl
    then_fold f ih m (Some x) =
        ih (step m x.label) (node F x.held)
        ∙ ap (λ (xs : List Pointer). fold step (step m x.label) (map (λ (y : Pointer). y.label) xs))
        (walked_kept F fs c m (step m x.label) (w m x.label) f (node F x.held))

    pub along_fold : (f : ℕ) (m : List ℕ) (p : ℕ) → along F step f m p ≡ fold step m (labels f F m p)
    unfolding along walked_by
    along_fold zero m p = refl
    along_fold (suc f) m p = then_fold f (along_fold f) m (met F m p)

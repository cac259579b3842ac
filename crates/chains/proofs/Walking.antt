-- The steps of a walk.
use Rattle.std.proofs.Common.{◌≡◌, ℕ, zero, suc, ◌-◌, ◌<◌, ◌≤◌, List, [], ◌∷◌, length, Some, None, refl, ap, ◌∙◌, arith}
use Rattle.std.proofs.lemmas.Bool.Decides.{nat_tests}
use Rattle.chains.specs.declared.cells.Pointer.{Pointer}
use Rattle.chains.specs.declared.cells.Cell.{Cell}
use Rattle.chains.specs.declared.chain_table.ChainTable.{ChainTable}
use Rattle.chains.specs.Tables.{node, at}
use Rattle.chains.specs.Chains.{Spells}
use Rattle.chains.specs.Walks.{met, walked, walked_by}

module _ (F : ChainTable) (m : List ℕ) (p : ℕ) where
  pub walked_over : (f : ℕ) → f ≡ 0 → walked f F m p ≡ []
  unfolding walked_by
  walked_over zero e = refl
  walked_over (suc f) e = absurd (omega arith)

  pub walked_stop : (f : ℕ) → met F m p ≡ None → walked f F m p ≡ []
  unfolding walked_by
  walked_stop zero e = refl
  walked_stop (suc f) e = rw e refl

  pub walked_on : (f : ℕ) (x : Pointer) → 0 < f → met F m p ≡ Some x → walked f F m p ≡ x ∷ walked (f - 1) F m (node F x.held)
  unfolding walked_by
  walked_on zero x i e = absurd (omega arith)
  walked_on (suc f) x i e = let j : suc f - 1 ≡ f = omega arith in rw (e, j) refl

pub ruleset walks = (walked_over, walked_stop, walked_on)

-- the pointers alone, from the place p on
abbrev pub Leads : ChainTable → (ℕ → Cell) → ℕ → List Pointer → Type 0
Leads F f p [] = (f p).next.held ≡ 0
Leads F f p (x ∷ xs) = ((f p).next ≡ x) × (0 < x.held) × Leads F f (node F x.held) xs

pub leads : (F : ChainTable) (f : ℕ → Cell) (xs : List Pointer) (p : ℕ) → Spells F f p xs → Leads F f p xs
leads F f [] p s = s
leads F f (x ∷ xs) p s = (s.0, s.1.entry, leads F f xs (node F x.held) s.3)

module _ (F : ChainTable) (m : List ℕ) where
  pub met_none : (p : ℕ) → (at F m p).next.held ≡ 0 → met F m p ≡ None
  met_none p e = rw e refl

  pub met_some : (p : ℕ) (x : Pointer) → (at F m p).next ≡ x → 0 < x.held → met F m p ≡ Some x
  met_some p x e i = rw e (grind (arith, nat_tests))

  -- a walk with enough steps reads what is led to
  pub walked_led : (f : ℕ) (xs : List Pointer) (p : ℕ) → Leads F (at F m) p xs → length xs ≤ f → walked f F m p ≡ xs
  walked_led f [] p s b = walked_stop F m p f (met_none p s)
  walked_led f (x ∷ xs) p s b =
      let i : 0 < f = omega arith in
      walked_on F m p f x i (met_some p x s.0 s.1) ∙ ap (λ (ys : List Pointer). x ∷ ys) (walked_led (f - 1) xs (node F x.held) s.2 (omega arith))

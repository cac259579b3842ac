-- Hash chains, over any pointers: what seeking finds, and what entering and withdrawing leave.
use Rattle.std.proofs.Common.{◌≡◌, ℕ, suc, ◌+◌, ◌<◌, true, false, cond, eqb, List, [], ◌∷◌, sym, refl, ap, ◌∙◌, subst, inl, inr, arith}
use Rattle.std.proofs.lemmas.Bool.{cases_eq, eq-eqb, ne_eqb, or_right, both_ways}
use Rattle.order.specs.Lists.{any, has, distinct}
use Rattle.row.specs.declared.layout.TheConstants.{HEADS}
use Rattle.row.specs.Meaning.{Spells}
use Rattle.order.proofs.Members.{without, without_head, without_tail, has_head, has_tail, has_on, has_at, not_again, distinct_tail}

-- p is no pointer of the slots xs
abbrev pub Free : ℕ → List ℕ → Type 0
Free p xs = (t : ℕ) → has xs t ≡ true → p ≡ HEADS + t → ⊥

-- the pointer that holds s in the chain xs from p on
abbrev pub holder : ℕ → List ℕ → ℕ → ℕ
holder p [] s = p
holder p (x ∷ xs) s = cond (eqb x s) p (holder (HEADS + x) xs s)

holder_here : (p x s : ℕ) (xs : List ℕ) → x ≡ s → holder p (x ∷ xs) s ≡ p
holder_here p x s xs e = rw (eq-eqb x s e)

holder_on : (p x s : ℕ) (xs : List ℕ) → (x ≡ s → ⊥) → holder p (x ∷ xs) s ≡ holder (HEADS + x) xs s
holder_on p x s xs e = rw (ne_eqb x s e)

-- a pointer of no slot of the chain, and not its first, holds none of it
pub holder_apart : (xs : List ℕ) (a s p : ℕ) → (a ≡ p → ⊥) → Free p xs → holder a xs s ≡ p → ⊥
holder_apart [] a s p n f e = n e
holder_apart (x ∷ xs) a s p n f e = elim (cases_eq x s) [
  | inl i ↦ n (sym (holder_here a x s xs i) ∙ e)
  | inr i ↦ holder_apart xs (HEADS + x) s p (λ q. f x (has_head x xs) (sym q)) (λ t h. f t (has_tail x xs t h)) (sym (holder_on a x s xs i) ∙ e)
]

module _ (next next' : ℕ → ℕ) where
  -- the same chain from another pointer
  pub spells_move : (xs : List ℕ) (a p : ℕ) → Spells next a xs → next' p ≡ next a → ((t : ℕ) → has xs t ≡ true → next' (HEADS + t) ≡ next (HEADS + t)) →
      Spells next' p xs
  unfolding any
  spells_move [] a p w e h = e ∙ w
  spells_move (x ∷ xs) a p w e h =
      (e ∙ w.0, spells_move xs (HEADS + x) (HEADS + x) w.1 (h x (let i = eq-eqb x x refl in grind arith)) (λ t i. h t (or_right (eqb t x) _ i)))

  -- s entered first: its pointer holds the chain as it was
  pub spells_entered : (xs : List ℕ) (b s : ℕ) → Spells next b xs → b < HEADS → has xs s ≡ false → next' b ≡ suc s → next' (HEADS + s) ≡ next b →
      ((q : ℕ) → (q ≡ b → ⊥) → (q ≡ HEADS + s → ⊥) → next' q ≡ next q) → Spells next' b (s ∷ xs)
  spells_entered xs b s w l n e₀ e₁ o =
      (e₀, spells_move xs b (HEADS + s) w e₁ (λ t i. o (HEADS + t) (λ q. omega arith) (λ q. both_ways (has xs s) n (has_at xs t s (omega arith) i))))

  -- s withdrawn: what held it holds what it held
  pub spells_withdrawn : (xs : List ℕ) (p s : ℕ) → Spells next p xs → distinct xs ≡ true → has xs s ≡ true → Free p xs →
      next' (holder p xs s) ≡ next (HEADS + s) → ((q : ℕ) → (q ≡ holder p xs s → ⊥) → next' q ≡ next q) → Spells next' p (without s xs)
  unfolding any
  spells_withdrawn [] p s w d h f e o = absurd (both_ways false refl h)
  spells_withdrawn (x ∷ xs) p s w d h f e o = elim (cases_eq x s) [
    | inl i ↦
        let q = holder_here p x s xs i in
        subst (Spells next' p) (sym (without_head x s xs i (rw i at (not_again x xs d))))
        (spells_move xs (HEADS + x) p w.1 (ap next' (sym q) ∙ e ∙ ap (λ (z : ℕ). next (HEADS + z)) (sym i))
        (λ t j. o (HEADS + t) (λ z. f t (has_tail x xs t j) (sym (z ∙ q)))))
    | inr i ↦
        let q = holder_on p x s xs i in
        subst (Spells next' p) (sym (without_tail x s xs i)) (
          o p (λ z. holder_apart xs (HEADS + x) s p (λ j. f x (has_head x xs) (sym j)) (λ t j. f t (has_tail x xs t j)) (sym (z ∙ q))) ∙ w.0,
          spells_withdrawn xs (HEADS + x) s w.1 (distinct_tail x xs d) (has_on x s xs i h)
              (λ t j z. both_ways (has xs x) (not_again x xs d) (has_at xs t x (omega arith) j)) (ap next' (sym q) ∙ e) (λ r n. o r (λ z. n (z ∙ q))),
        )
  ]

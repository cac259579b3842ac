-- A function with other values at some numbers, given by two lists.
use Rattle.std.proofs.Common.{◌≡◌, ℕ, Bool, true, false, cond, eqb, List, [], ◌∷◌, map, length, sym, refl, ap, ◌∙◌, ap₂, inl, inr, arith}
use Rattle.std.proofs.lemmas.Bool.{cases_Bool, eq-eqb, ne_eqb, eqb-true, both_ways, or_parts, or_left, or_right}
use Rattle.order.specs.Lists.{any, filter, has, distinct}
use Rattle.order.proofs.Filters.{has_filter}
use Rattle.order.proofs.Members.{has_head, has_tail, not_again, distinct_tail}
use Rattle.order.proofs.Refill.{refill}
use Rattle.search.proofs.Mapped.{map_same}

-- g with k at p
abbrev pub with_at : (ℕ → ℕ) → ℕ → ℕ → ℕ → ℕ
with_at g p k x = cond (eqb x p) k (g x)

-- g with the ks at the ps, one after another
unfoldable pub exchanged : (ℕ → ℕ) → List ℕ → List ℕ → ℕ → ℕ
exchanged g [] ks x = g x
exchanged g (p ∷ ps) [] x = g x
exchanged g (p ∷ ps) (k ∷ ks) x = exchanged (with_at g p k) ps ks x

pub at_here : (g : ℕ → ℕ) (p k x : ℕ) → x ≡ p → with_at g p k x ≡ k
at_here g p k x e = rw (eq-eqb x p e)

pub at_else : (g : ℕ → ℕ) (p k x : ℕ) → (x ≡ p → ⊥) → with_at g p k x ≡ g x
at_else g p k x e = rw (ne_eqb x p e)

pub exchanged_same : (g h : ℕ → ℕ) (ps ks : List ℕ) → ((x : ℕ) → g x ≡ h x) → (x : ℕ) → exchanged g ps ks x ≡ exchanged h ps ks x
unfolding exchanged
exchanged_same g h [] ks e x = e x
exchanged_same g h (p ∷ ps) [] e x = e x
exchanged_same g h (p ∷ ps) (k ∷ ks) e x = exchanged_same (with_at g p k) (with_at h p k) ps ks (λ y. ap (λ (z : ℕ). cond (eqb y p) k z) (e y)) x

pub exchanged_out : (g : ℕ → ℕ) (ps ks : List ℕ) (x : ℕ) → has ps x ≡ false → exchanged g ps ks x ≡ g x
unfolding exchanged any
exchanged_out g [] ks x h = refl
exchanged_out g (p ∷ ps) [] x h = refl
exchanged_out g (p ∷ ps) (k ∷ ks) x h = let s = or_parts (eqb x p) (has ps x) h in exchanged_out (with_at g p k) ps ks x s.1 ∙ rw s.0

-- it leads from ps to ks, and the other way round it leads back
pub exchanged_in : (g h : ℕ → ℕ) (ps ks : List ℕ) (x : ℕ) → length ks ≡ length ps → distinct ps ≡ true → distinct ks ≡ true → has ps x ≡ true →
    (has ks (exchanged g ps ks x) ≡ true) × (exchanged h ks ps (exchanged g ps ks x) ≡ x)
unfolding exchanged any distinct
exchanged_in g h [] ks x l d e i = absurd (both_ways false refl i)
exchanged_in g h (p ∷ ps) [] x l d e i = absurd (omega arith)
exchanged_in g h (p ∷ ps) (k ∷ ks) x l d e i = elim (cases_Bool (has ps x)) [
  | inl j ↦ let ih = exchanged_in (with_at g p k) (with_at h k p) ps ks x (omega arith) (grind arith) (grind arith) j in (or_right _ _ ih.0, ih.1)
  | inr j ↦
      let q : x ≡ p = eqb-true x p (grind arith) in
      let y : exchanged (with_at g p k) ps ks x ≡ k = exchanged_out (with_at g p k) ps ks x j ∙ at_here g p k x q in
      let z = exchanged_out (with_at h k p) ks ps k (grind arith) ∙ at_here h k p k refl in
      rw y (or_left _ _ (eq-eqb k k refl), z ∙ sym q)
]

-- a list made from such a function
refill_none : (T : ℕ → Bool) (xs : List ℕ) → refill T [] xs ≡ xs
unfolding refill
refill_none T [] = refl
refill_none T (x ∷ xs) = ap (λ ys. x ∷ ys) (refill_none T xs)

exchanged_none : (g : ℕ → ℕ) (ps : List ℕ) (x : ℕ) → exchanged g ps [] x ≡ g x
unfolding exchanged
exchanged_none g [] x = refl
exchanged_none g (p ∷ ps) x = refl

pub exchanged_made : (T M : ℕ → Bool) (g : ℕ → ℕ) (ks xs : List ℕ) → distinct xs ≡ true → ((p : ℕ) → has xs p ≡ true → M p ≡ T (g p)) →
    map (exchanged g (filter M xs) ks) xs ≡ refill T ks (map g xs)
unfolding refill exchanged filter
exchanged_made T M g ks [] d t = refl
exchanged_made T M g [] (x ∷ xs) d t =
    map_same (exchanged g (filter M (x ∷ xs)) []) g (x ∷ xs) (λ p h. exchanged_none g (filter M (x ∷ xs)) p) ∙ sym (refill_none T _)
exchanged_made T M g (k ∷ ks) (x ∷ xs) d t = elim (cases_Bool (M x)) [
  | inl e ↦
      let else_same : (p : ℕ) → has xs p ≡ true → with_at g x k p ≡ g p = λ p h. at_else g x k p (λ i. again p h i) in
      let ih = exchanged_made T M (with_at g x k) ks xs d₁ (λ p h. t p (has_tail x xs p h) ∙ ap T (sym (else_same p h))) in
      let hd = exchanged_out (with_at g x k) (filter M xs) ks x none ∙ at_here g x k x refl in
      let kept : filter M (x ∷ xs) ≡ x ∷ filter M xs = rw e in
      ap (λ (zs : List ℕ). map (exchanged g zs (k ∷ ks)) (x ∷ xs)) kept
      ∙ rw (sym (t x (has_head x xs)) ∙ e) (ap₂ ◌∷◌ hd (ih ∙ ap (refill T ks) (map_same (with_at g x k) g xs else_same)))
  | inr e ↦
      let ih = exchanged_made T M g (k ∷ ks) xs d₁ (λ p h. t p (has_tail x xs p h)) in
      let passed : filter M (x ∷ xs) ≡ filter M xs = rw e in
      ap (λ (zs : List ℕ). map (exchanged g zs (k ∷ ks)) (x ∷ xs)) passed
      ∙ rw (sym (t x (has_head x xs)) ∙ e) (ap₂ ◌∷◌ (exchanged_out g (filter M xs) (k ∷ ks) x none) ih)
]
  where
    d₁ : distinct xs ≡ true
    d₁ = distinct_tail x xs d

    none : has (filter M xs) x ≡ false
    none = let a = not_again x xs d in let f = has_filter M xs x in grind arith

    again : (p : ℕ) → has xs p ≡ true → p ≡ x → ⊥
    again p h i = both_ways (has xs x) (not_again x xs d) (ap (has xs) (sym i) ∙ h)

-- Steps from one number to the next: as many as there are numbers lead to one that comes round again.
use Rattle.std.proofs.Common.{◌≡◌, ℕ, zero, suc, ◌+◌, ◌<◌, ◌≤◌, Bool, true, false, List, [], ◌∷◌, length, sym, refl, ap, ◌∙◌, inl, inr, arith}
use Rattle.std.proofs.lemmas.Bool.{cases_Bool, cases_eq, both_ways}
use Rattle.order.specs.Lists.{any, has, distinct}
use Rattle.order.proofs.Members.{has_on}
use Rattle.batch.specs.Circling.{back}
use Rattle.batch.proofs.Within.{distinct_cons, Within, within_more, few_within}

module _ (next : ℕ → ℕ) where
  back_next : (n s : ℕ) → back next n (next s) ≡ next (back next n s)
  unfolding back
  back_next zero s = refl
  back_next (suc n) s = back_next n (next s)

  -- what comes round again does so from later on too
  turns : (n p s : ℕ) → back next p s ≡ s → back next p (back next n s) ≡ back next n s
  unfolding back
  turns zero p s e = e
  turns (suc n) p s e = turns n p (next s) (back_next p s ∙ ap next e)

  -- among the numbers of a row, which has at most n, so many steps lead to one that comes round again
  module _ (D : ℕ → Bool) (on : (s : ℕ) → D s ≡ true → D (next s) ≡ true) (row : List ℕ) (inside : (s : ℕ) → D s ≡ true → has row s ≡ true) where
    pub stays_inside : (n s : ℕ) → D s ≡ true → D (back next n s) ≡ true
    unfolding back
    stays_inside zero s d = d
    stays_inside (suc n) s d = stays_inside n (next s) (on s d)

    -- ks are those come to before s: from each it is less than as many steps to s
    round_from : (n s : ℕ) (ks : List ℕ) → D s ≡ true → distinct ks ≡ true → Within ks row →
        ((k : ℕ) → has ks k ≡ true → (p : ℕ) × (p < length ks) × (back next p (next k) ≡ s)) → length row ≤ n + length ks →
        (p : ℕ) × (p < n + length ks) × (back next p (next (back next n s)) ≡ back next n s)
    unfolding back
    round_from zero s ks d a w h l = elim (cases_Bool (has ks s)) [
      | inl i ↦ let q = h s i in (q.0, let z = q.1 in omega arith, q.2)
      | inr i ↦ absurd (omega (arith, few_within (s ∷ ks) row (distinct_cons s ks i a) (within_more s ks row (inside s d) w)))
    ]
    round_from (suc n) s ks d a w h l = elim (cases_Bool (has ks s)) [
      | inl i ↦ let q = h s i in (q.0, let z = q.1 in omega arith, turns (suc n) (suc q.0) s q.2)
      | inr i ↦
          let r =
          round_from n (next s) (s ∷ ks) (on s d) (distinct_cons s ks i a) (within_more s ks row (inside s d) w) (λ k j. elim (cases_eq s k) [
            | inl e ↦ (0, omega arith, ap next (sym e))
            | inr e ↦ let q = h k (has_on s k ks e j) in (suc q.0, let z = q.1 in omega arith, back_next q.0 (next k) ∙ ap next q.2)
          ]) (omega arith) in
          (r.0, let z = r.1 in omega arith, r.2)
    ]

    pub comes_round : (n s : ℕ) → length row ≤ n → D s ≡ true → (p : ℕ) × (p < n) × (back next p (next (back next n s)) ≡ back next n s)
    unfolding any distinct
    comes_round n s l d =
        let r = round_from n s [] d refl (λ k h. absurd (both_ways false refl h)) (λ k h. absurd (both_ways false refl h)) (omega arith) in
        (r.0, let z = r.1 in omega arith, r.2)

-- Lists made from a function of the index, `map f (counting a n)`: what they have, where it stands, and what a cut leaves of them.
use Rattle.std.proofs.Common.{◌≡◌, ℕ, zero, suc, ◌+◌, ◌-◌, ◌<◌, ◌≤◌, true, false, not, eqb, map, take, drop, sym, refl, inl, inr, add-zero, arith}
use native.Mathlib.Nat.{sub-zero}
use Rattle.std.specs.List.{range_with_len}
use Rattle.std.proofs.lemmas.Bool.Decides.{nat_tests}
use Rattle.std.proofs.lemmas.Bool.{eqb-true, eq-eqb, ne_eqb, cases_Bool, cases_eq, both_ways, or_right, or_left, and_parts, not-true}
use Rattle.std.proofs.lemmas.List.FromFn.{take-map-range_with_len}
use Rattle.order.specs.Lists.{any, has, place, distinct}

pub made_same : {X : Type 0} (f g : ℕ → X) (a n : ℕ) → ((p : ℕ) → a ≤ p → p < a + n → f p ≡ g p) → map f (range_with_len a n) ≡ map g (range_with_len a n)
made_same f g a zero h = refl
made_same f g a (suc n) h =
    let e = h a (omega arith) (omega arith) in
    let ih = made_same f g (a + 1) n (λ p l u. h p (omega arith) (omega arith)) in
    cc

-- what a made list has
pub made_has : (f : ℕ → ℕ) (a n k : ℕ) → has (map f (range_with_len a n)) k ≡ true → (p : ℕ) × (a ≤ p) × (p < a + n) × (f p ≡ k)
unfolding any
made_has f a zero k h = absurd (both_ways false refl h)
made_has f a (suc n) k h = elim (cases_Bool (eqb k (f a))) [
  | inl e ↦ (a, omega arith, omega arith, sym (eqb-true k (f a) e))
  | inr e ↦ let w = made_has f (a + 1) n k (grind arith) in (w.0, omega arith, omega arith, w.3)
]

pub has_made : (f : ℕ → ℕ) (a n k p : ℕ) → a ≤ p → p < a + n → f p ≡ k → has (map f (range_with_len a n)) k ≡ true
unfolding any
has_made f a zero k p l u e = absurd (omega arith)
has_made f a (suc n) k p l u e = elim (cases_eq p a) [
  | inl q ↦ or_left _ _ (eq-eqb k (f a) (cc))
  | inr q ↦ or_right (eqb k (f a)) _ (has_made f (a + 1) n k p (omega arith) (omega arith) e)
]

-- and has not
pub has_not_made : (f : ℕ → ℕ) (a n k : ℕ) → ((p : ℕ) → a ≤ p → p < a + n → f p ≡ k → ⊥) → has (map f (range_with_len a n)) k ≡ false
has_not_made f a n k h = elim (cases_Bool (has (map f (range_with_len a n)) k)) [
  | inl e ↦ let w = made_has f a n k e in absurd (h w.0 w.1 w.2 w.3)
  | inr e ↦ e
]

-- where it stands
pub place_made : (f : ℕ → ℕ) (a n q k : ℕ) → a ≤ q → q < a + n → f q ≡ k → ((p : ℕ) → a ≤ p → p < q → f p ≡ k → ⊥) →
    place (map f (range_with_len a n)) k ≡ q - a
unfolding place
place_made f a zero q k l u e h = absurd (omega arith)
place_made f a (suc n) q k l u e h = elim (cases_eq q a) [
  | inl s ↦ let i = eq-eqb (f a) k (cc) in grind arith
  | inr s ↦
      let i = ne_eqb (f a) k (h a (omega arith) (omega arith)) in
      let ih = place_made f (a + 1) n q k (omega arith) (omega arith) e (λ p x y. h p (omega arith) y) in
      rw (i, ih) (omega arith)
]

pub place_none : (f : ℕ → ℕ) (a n k : ℕ) → has (map f (range_with_len a n)) k ≡ false → place (map f (range_with_len a n)) k ≡ n
unfolding any place
place_none f a zero k h = refl
place_none f a (suc n) k h = let ih = place_none f (a + 1) n k in grind (arith, nat_tests)

-- no number twice: different indices have different values
pub distinct_made : (f : ℕ → ℕ) (a n : ℕ) → ((p q : ℕ) → a ≤ p → p < q → q < a + n → f p ≡ f q → ⊥) → distinct (map f (range_with_len a n)) ≡ true
unfolding distinct
distinct_made f a zero h = refl
distinct_made f a (suc n) h =
    let no = has_not_made f (a + 1) n (f a) (λ p l u e. h a p (omega arith) (omega arith) (omega arith) (sym e)) in
    let ih = distinct_made f (a + 1) n (λ p q l m u. h p q (omega arith) m (omega arith)) in
    rw (no, ih)

pub made_apart : (f : ℕ → ℕ) (a n p q : ℕ) → distinct (map f (range_with_len a n)) ≡ true → a ≤ p → p < q → q < a + n → f p ≡ f q → ⊥
unfolding distinct
made_apart f a zero p q d l m u e = omega arith
made_apart f a (suc n) p q d l m u e =
    let s = and_parts (not (has (map f (range_with_len (a + 1) n)) (f a))) (distinct (map f (range_with_len (a + 1) n))) d in
    elim (cases_eq p a) [
      | inl i ↦ both_ways _ (not-true _ s.0) (has_made f (a + 1) n (f a) q (omega arith) (omega arith) (cc))
      | inr i ↦ made_apart f (a + 1) n p q s.1 (omega arith) m (omega arith) e
    ]

-- a part of a made list
pub drop_made : {X : Type 0} (f : ℕ → X) (a n p : ℕ) → p ≤ n → drop p (map f (range_with_len a n)) ≡ map f (range_with_len (a + p) (n - p))
drop_made f a n zero l = rw (add-zero, sub-zero)
drop_made f a zero (suc p) l = absurd (omega arith)
drop_made f a (suc n) (suc p) l =
    let ih = drop_made f (a + 1) n p (omega arith) in
    let i : (a + 1) + p ≡ a + suc p = omega arith in
    let j : suc n - suc p ≡ n - p = omega arith in
    rw (j, ← i) ih

pub take_made : {X : Type 0} (f : ℕ → X) (m p n : ℕ) → p + n ≤ m → take n (drop p (map f (range_with_len 0 m))) ≡ map f (range_with_len p n)
take_made f m p n l =
    let d = drop_made f 0 m p (omega arith) in
    let i : 0 + p ≡ p = omega arith in
    rw (d, i) (take-map-range_with_len f p (m - p) n (omega arith))

-- What a list of numbers has, first and further on, and without one of them.
use Rattle.std.proofs.Common.{◌≡◌, ℕ, zero, suc, ◌<◌, ◌≤◌, true, false, not, eqb, List, [], ◌∷◌, length, refl, inl, inr, arith}
use Rattle.std.proofs.lemmas.Bool.Decides.{nat_tests}
use Rattle.std.proofs.lemmas.Bool.{cases_eq, eq-eqb, ne_eqb, and_parts, or_right}
use Rattle.order.specs.Lists.{any, has, distinct, filter}
use Rattle.order.proofs.Filters.{has_filter, distinct_filter}

pub has_head : (x : ℕ) (xs : List ℕ) → has (x ∷ xs) x ≡ true
unfolding any
has_head x xs = let i = eq-eqb x x refl in grind arith

pub has_tail : (x : ℕ) (xs : List ℕ) (t : ℕ) → has xs t ≡ true → has (x ∷ xs) t ≡ true
unfolding any
has_tail x xs t h = or_right (eqb t x) _ h

pub has_on : (x s : ℕ) (xs : List ℕ) → (x ≡ s → ⊥) → has (x ∷ xs) s ≡ true → has xs s ≡ true
unfolding any
has_on x s xs n h = grind (arith, nat_tests)

pub has_at : (xs : List ℕ) (s t : ℕ) → s ≡ t → has xs s ≡ true → has xs t ≡ true
has_at xs s t e h = rw e at h

-- of a list of different numbers: the first isn't there again, and the others are different
pub not_again : (x : ℕ) (xs : List ℕ) → distinct (x ∷ xs) ≡ true → has xs x ≡ false
unfolding distinct
not_again x xs d = let p = (and_parts (not (has xs x)) (distinct xs) d).0 in grind arith

pub distinct_tail : (x : ℕ) (xs : List ℕ) → distinct (x ∷ xs) ≡ true → distinct xs ≡ true
unfolding distinct
distinct_tail x xs d = (and_parts (not (has xs x)) (distinct xs) d).1

-- xs without s
abbrev pub without : ℕ → List ℕ → List ℕ
without s xs = filter (λ j. not (eqb j s)) xs

pub without_none : (s : ℕ) (xs : List ℕ) → has xs s ≡ false → without s xs ≡ xs
unfolding any filter
without_none s [] h = refl
without_none s (x ∷ xs) h = let ih = without_none s xs in grind (arith, nat_tests)

pub without_head : (x s : ℕ) (xs : List ℕ) → x ≡ s → has xs s ≡ false → without s (x ∷ xs) ≡ xs
unfolding filter
without_head x s xs e n = rw (eq-eqb x s e) (without_none s xs n)

pub without_tail : (x s : ℕ) (xs : List ℕ) → (x ≡ s → ⊥) → without s (x ∷ xs) ≡ x ∷ without s xs
unfolding filter
without_tail x s xs e = rw (ne_eqb x s e)

pub length_without : (s : ℕ) (xs : List ℕ) → distinct xs ≡ true → length xs ≤ suc (length (without s xs))
unfolding any distinct filter
length_without s [] d = omega arith
length_without s (x ∷ xs) d = elim (cases_eq x s) [
  | inl e ↦ let n = without_none s xs (let p = (and_parts (not (has xs x)) (distinct xs) d).0 in grind arith) in grind (arith, nat_tests)
  | inr e ↦ let ih = length_without s xs (and_parts (not (has xs x)) (distinct xs) d).1 in grind (arith, nat_tests)
]

-- no more than n different numbers are below n
pub few_below : (n : ℕ) (xs : List ℕ) → distinct xs ≡ true → ((k : ℕ) → has xs k ≡ true → k < n) → length xs ≤ n
unfolding any
few_below zero [] d h = omega arith
few_below zero (x ∷ xs) d h = absurd (let i = h x (let e = eq-eqb x x refl in grind arith) in omega arith)
few_below (suc n) xs d h =
    let ih = few_below n (without n xs) (distinct_filter _ xs d)
    (λ k e. let p = has_filter (λ j. not (eqb j n)) xs k in let i = h k in grind (arith, nat_tests)) in
    omega (arith, length_without n xs d)

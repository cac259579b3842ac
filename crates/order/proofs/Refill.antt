-- A list in which the places of what passes a test are filled anew, one after the other; the rest keeps its place.
use Rattle.std.proofs.Common.{◌≡◌, ℕ, suc, Bool, true, false, cond, not, List, [], ◌∷◌, ◌++◌, length, refl, ap, arith}
use Rattle.std.proofs.lemmas.Bool.{and_parts}
use Rattle.order.specs.Lists.{every, filter, place}

-- the list with ks, one after the other, at the places of what passes T
unfoldable pub refill : (ℕ → Bool) → List ℕ → List ℕ → List ℕ
refill T ks [] = []
refill T [] (x ∷ xs) = x ∷ refill T [] xs
refill T (k ∷ ks) (x ∷ xs) = cond (T x) (k ∷ refill T ks xs) (x ∷ refill T (k ∷ ks) xs)

module _ (T : ℕ → Bool) where
  pub length_refill : (ks xs : List ℕ) → length (refill T ks xs) ≡ length xs
  unfolding refill
  length_refill ks [] = refl
  length_refill [] (x ∷ xs) = ap suc (length_refill [] xs)
  length_refill (k ∷ ks) (x ∷ xs) = let i₁ = length_refill ks xs in let i₂ = length_refill (k ∷ ks) xs in grind arith

  pub others_refill : (ks xs : List ℕ) → every T ks ≡ true → filter (λ k. not (T k)) (refill T ks xs) ≡ filter (λ k. not (T k)) xs
  unfolding refill filter every
  others_refill ks [] e = refl
  others_refill [] (x ∷ xs) e = let i = others_refill [] xs e in grind arith
  others_refill (k ∷ ks) (x ∷ xs) e =
      let i₁ = others_refill ks xs (and_parts (T k) (every T ks) e).1 in
      let i₂ = others_refill (k ∷ ks) xs e in
      let t = (and_parts (T k) (every T ks) e).0 in
      grind arith

  pub filter_refill : (ks xs : List ℕ) → every T ks ≡ true → length ks ≡ length (filter T xs) → filter T (refill T ks xs) ≡ ks
  unfolding refill filter every
  filter_refill [] [] e l = refl
  filter_refill (k ∷ ks) [] e l = absurd (omega arith)
  filter_refill [] (x ∷ xs) e l = let i = filter_refill [] xs e in grind arith
  filter_refill (k ∷ ks) (x ∷ xs) e l =
      let i₁ = filter_refill ks xs (and_parts (T k) (every T ks) e).1 in
      let i₂ = filter_refill (k ∷ ks) xs e in
      let t = (and_parts (T k) (every T ks) e).0 in
      grind arith

  -- what fails the test keeps its place
  pub place_refill : (ks xs : List ℕ) (k : ℕ) → every T ks ≡ true → T k ≡ false → place (refill T ks xs) k ≡ place xs k
  unfolding refill place every
  place_refill ks [] k e n = refl
  place_refill [] (x ∷ xs) k e n = let i = place_refill [] xs k e n in grind arith
  place_refill (j ∷ ks) (x ∷ xs) k e n =
      let i₁ = place_refill ks xs k (and_parts (T j) (every T ks) e).1 n in
      let i₂ = place_refill (j ∷ ks) xs k e n in
      let t = (and_parts (T j) (every T ks) e).0 in
      grind arith

  pub refill_skip : (ks : List ℕ) (x : ℕ) (xs : List ℕ) → T x ≡ false → refill T ks (x ∷ xs) ≡ x ∷ refill T ks xs
  unfolding refill
  refill_skip [] x xs n = refl
  refill_skip (k ∷ ks) x xs n = rw n

  pub refill_append : (ks₁ ks₂ xs ys : List ℕ) → length ks₁ ≡ length (filter T xs) → refill T (ks₁ ++ ks₂) (xs ++ ys) ≡ refill T ks₁ xs ++ refill T ks₂ ys
  unfolding refill filter
  refill_append [] ks₂ [] ys l = refl
  refill_append (k ∷ ks₁) ks₂ [] ys l = absurd (omega arith)
  refill_append [] ks₂ (x ∷ xs) ys l =
      let n : T x ≡ false = grind arith in
      let i = refill_append [] ks₂ xs ys in
      let k = refill_skip ks₂ x (xs ++ ys) n in
      grind arith
  refill_append (k ∷ ks₁) ks₂ (x ∷ xs) ys l =
      let i₁ = refill_append ks₁ ks₂ xs ys in
      let i₂ = refill_append (k ∷ ks₁) ks₂ xs ys in
      grind arith

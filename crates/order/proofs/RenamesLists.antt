-- Lists of cards with other names: f has different names for different cards that D has.
use Rattle.std.proofs.Common.{◌≡◌, ℕ, zero, suc, Bool, true, not, eqb, List, [], ◌∷◌, map, drop, sym, refl, arith}
use Rattle.std.proofs.lemmas.Bool.Decides.{nat_tests}
use Rattle.std.proofs.lemmas.Bool.{and_parts}
use Rattle.order.specs.Lists.{every, filter, has, place, distinct, same}
use Rattle.order.proofs.Filters.{every_filter_more}
use Rattle.order.proofs.RenamesTests.{any_map, filter_map}

pub every_drop : {A : Type 0} (p : A → Bool) (n : ℕ) (xs : List A) → every p xs ≡ true → every p (drop n xs) ≡ true
unfolding every
every_drop p zero xs h = h
every_drop p (suc n) [] h = refl
every_drop p (suc n) (x ∷ xs) h = every_drop p n xs (and_parts (p x) (every p xs) h).1

module _ (f : ℕ → ℕ) (D : ℕ → Bool) (tell : (j k : ℕ) → D j ≡ true → D k ≡ true → f j ≡ f k → j ≡ k) where
  pub eqb_named : (j k : ℕ) → D j ≡ true → D k ≡ true → eqb (f j) (f k) ≡ eqb j k
  eqb_named j k a b = let t = tell j k a b in grind (arith, nat_tests)

  pub has_map : (ks : List ℕ) (k : ℕ) → every D ks ≡ true → D k ≡ true → has (map f ks) (f k) ≡ has ks k
  has_map ks k h d = any_map f D (eqb k) (eqb (f k)) (λ j e. eqb_named k j d e) ks h

  pub place_map : (ks : List ℕ) (k : ℕ) → every D ks ≡ true → D k ≡ true → place (map f ks) (f k) ≡ place ks k
  unfolding place every
  place_map [] k h d = refl
  place_map (j ∷ ks) k h d =
      let p = and_parts (D j) (every D ks) h in
      rw (eqb_named j k p.0 d, place_map ks k p.1 d)

  pub distinct_map : (ks : List ℕ) → every D ks ≡ true → distinct (map f ks) ≡ distinct ks
  unfolding distinct every
  distinct_map [] h = refl
  distinct_map (j ∷ ks) h =
      let p = and_parts (D j) (every D ks) h in
      rw (has_map ks j p.1 p.0, distinct_map ks p.1)

  pub same_map : (js ks : List ℕ) → every D js ≡ true → every D ks ≡ true → same (map f js) (map f ks) ≡ same js ks
  unfolding same every
  same_map [] [] g h = refl
  same_map [] (k ∷ ks) g h = refl
  same_map (j ∷ js) [] g h = refl
  same_map (j ∷ js) (k ∷ ks) g h =
      let p = and_parts (D j) (every D js) g in
      let q = and_parts (D k) (every D ks) h in
      rw (eqb_named j k p.0 q.0, same_map js ks p.1 q.1)

  -- what two tests that agree keep of two lists is the same, or isn't
  pub same_filter_map : (p q : ℕ → Bool) → ((k : ℕ) → D k ≡ true → q (f k) ≡ p k) → (js ks : List ℕ) → every D js ≡ true → every D ks ≡ true →
      same (filter q (map f js)) (filter q (map f ks)) ≡ same (filter p js) (filter p ks)
  same_filter_map p q w js ks g h =
      let s = same_map (filter p js) (filter p ks) (every_filter_more D p D (λ x i _. i) js g) (every_filter_more D p D (λ x i _. i) ks h) in
      rw (filter_map f D p q w js g, filter_map f D p q w ks h) s

  -- a list without one card
  pub without_map : (k : ℕ) (ks : List ℕ) → D k ≡ true → every D ks ≡ true →
      map f (filter (λ j. not (eqb j k)) ks) ≡ filter (λ j. not (eqb j (f k))) (map f ks)
  without_map k ks d h = sym (filter_map f D _ _ (λ j e. rw (eqb_named j k e d)) ks h)

-- Where a number stands in a list: has and place, in lists one behind the other, in the front of a list and in its rest.
use Rattle.std.proofs.Common.{◌≡◌, ℕ, zero, suc, ◌+◌, ◌<◌, ◌≤◌, true, false, ◌||◌, eqb, List, [], ◌∷◌, ◌++◌, length, take, drop, refl, ap, ◌∙◌, inl, inr, arith}
use Rattle.std.proofs.lemmas.Bool.{eqb-true, eq-eqb, cases_Bool, both_ways, or_right}
use Rattle.order.specs.Lists.{any, has, place, distinct}

pub has_append : (xs ys : List ℕ) (k : ℕ) → has (xs ++ ys) k ≡ (has xs k || has ys k)
unfolding any
has_append [] ys k = refl
has_append (x ∷ xs) ys k = let ih = has_append xs ys k in grind arith

pub place_below : (xs : List ℕ) (k : ℕ) → has xs k ≡ true → place xs k < length xs
unfolding any place
place_below [] k h = grind arith
place_below (x ∷ xs) k h = let ih = place_below xs k in grind arith

pub has_from_place : (xs : List ℕ) (k : ℕ) → place xs k < length xs → has xs k ≡ true
unfolding any place
has_from_place [] k h = absurd (omega arith)
has_from_place (x ∷ xs) k h = let ih = has_from_place xs k in grind arith

pub place_same : (xs : List ℕ) (j k : ℕ) → has xs j ≡ true → place xs j ≡ place xs k → j ≡ k
unfolding any place
place_same [] j k h e = grind arith
place_same (x ∷ xs) j k h e = let ih = place_same xs j k in grind arith

pub place_left : (xs ys : List ℕ) (k : ℕ) → has xs k ≡ true → place (xs ++ ys) k ≡ place xs k
unfolding any place
place_left [] ys k h = grind arith
place_left (x ∷ xs) ys k h = let ih = place_left xs ys k in grind arith

pub place_right : (xs ys : List ℕ) (k : ℕ) → has xs k ≡ false → place (xs ++ ys) k ≡ length xs + place ys k
unfolding any place
place_right [] ys k h = omega arith
place_right (x ∷ xs) ys k h = let ih = place_right xs ys k in grind arith

-- the front of a list, and its rest
pub place_take : (n : ℕ) (xs : List ℕ) (k : ℕ) → has (take n xs) k ≡ true → place xs k ≡ place (take n xs) k
unfolding place any
place_take zero xs k h = grind arith
place_take (suc n) [] k h = refl
place_take (suc n) (x ∷ xs) k h = let ih = place_take n xs k in grind arith

pub has_take : (n : ℕ) (xs : List ℕ) (k : ℕ) → has xs k ≡ true → place xs k < n → has (take n xs) k ≡ true
unfolding place any
has_take zero xs k h l = absurd (omega arith)
has_take (suc n) [] k h l = h
has_take (suc n) (x ∷ xs) k h l = let ih = has_take n xs k in grind arith

pub has_from_take : (n : ℕ) (xs : List ℕ) (k : ℕ) → has (take n xs) k ≡ true → has xs k ≡ true
unfolding any
has_from_take zero xs k h = grind arith
has_from_take (suc n) [] k h = h
has_from_take (suc n) (x ∷ xs) k h = let ih = has_from_take n xs k in grind arith

pub has_front : (n : ℕ) (xs : List ℕ) (k : ℕ) → n ≤ place xs k → has (take n xs) k ≡ false
unfolding place any
has_front zero xs k l = refl
has_front (suc n) [] k l = refl
has_front (suc n) (x ∷ xs) k l = let ih = has_front n xs k in grind arith

pub place_drop : (n : ℕ) (xs : List ℕ) (k : ℕ) → n ≤ place xs k → place xs k ≡ n + place (drop n xs) k
unfolding place
place_drop zero xs k l = omega arith
place_drop (suc n) [] k l = absurd (omega arith)
place_drop (suc n) (x ∷ xs) k l = let ih = place_drop n xs k in grind arith

pub has_drop : (n : ℕ) (xs : List ℕ) (k : ℕ) → has xs k ≡ true → n ≤ place xs k → has (drop n xs) k ≡ true
unfolding place any
has_drop zero xs k h l = h
has_drop (suc n) [] k h l = h
has_drop (suc n) (x ∷ xs) k h l = let ih = has_drop n xs k in grind arith

pub has_from_drop : (n : ℕ) (xs : List ℕ) (k : ℕ) → has (drop n xs) k ≡ true → has xs k ≡ true
unfolding any
has_from_drop zero xs k h = h
has_from_drop (suc n) [] k h = h
has_from_drop (suc n) (x ∷ xs) k h = or_right _ _ (has_from_drop n xs k h)

pub behind_from_drop : (n : ℕ) (xs : List ℕ) (k : ℕ) → distinct xs ≡ true → has (drop n xs) k ≡ true → n ≤ place xs k
unfolding place any distinct
behind_from_drop zero xs k d h = omega arith
behind_from_drop (suc n) [] k d h = grind arith
behind_from_drop (suc n) (x ∷ xs) k d h =
    let ih = behind_from_drop n xs k in
    let e = has_from_drop n xs k h in
    grind arith

-- a list that has y, cut at the first y
pub split_at : (M : List ℕ) (y : ℕ) → has M y ≡ true → (P : List ℕ) × (Q : List ℕ) × (M ≡ P ++ y ∷ Q) × (has P y ≡ false)
unfolding any
split_at [] y h = absurd (both_ways false refl h)
split_at (x ∷ M) y h = elim (cases_Bool (eqb y x)) [
  | inl e ↦ ([], M, (let i = eqb-true y x e in grind arith), refl)
  | inr e ↦ let w = split_at M y (grind arith) in (x ∷ w.0, w.1, ap (λ u. x ∷ u) w.2, rw e w.3)
]

pub place_split : (P Q : List ℕ) (y : ℕ) → has P y ≡ false → place (P ++ y ∷ Q) y ≡ length P
unfolding place
place_split P Q y h = place_right P (y ∷ Q) y h ∙ rw (eq-eqb y y refl) (omega arith)

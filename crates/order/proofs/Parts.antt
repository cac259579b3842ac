-- A list of which a part, from one place up to another, is replaced by what a function makes of it.
use Rattle.std.proofs.Common.{◌≡◌, ℕ, ◌+◌, ◌-◌, ◌<◌, ◌≤◌, Bool, true, List, ◌++◌, length, take, drop, sym, ap, ◌∙◌, inl, inr, append_assoc, arith, length-append, length-drop, take-append-drop, length-take}
use Rattle.std.proofs.lemmas.Bool.{cases_Bool}
use Rattle.std.proofs.lemmas.List.{drop-drop, take_at, drop_at, length-take-le}
use Rattle.order.specs.Lists.{filter, has, place}
use Rattle.order.proofs.Places.{has_from_place, place_left, place_right, has_take, has_front, place_drop, has_drop}
use Rattle.order.proofs.Filters.{filter_append}
use Rattle.order.proofs.Ahead.{both_first, both_second, before_behind, before_ahead}

-- the list with g of the part from the place i up to the place j
unfoldable pub with_part : (List ℕ → List ℕ) → List ℕ → ℕ → ℕ → List ℕ
with_part g xs i j = take i xs ++ (g (take (j - i) (drop i xs)) ++ drop j xs)

-- the list in its three parts
pub row_in_parts : (xs : List ℕ) (i j : ℕ) → i ≤ j → with_part (λ ys. ys) xs i j ≡ xs
unfolding with_part
row_in_parts xs i j l =
    let e : i + (j - i) ≡ j = omega arith in
    let d = rw e at (drop-drop (j - i) i xs) in
    rw (← d, take-append-drop (j - i) (drop i xs), take-append-drop i xs)

module _ (g : List ℕ → List ℕ) (xs : List ℕ) (i j : ℕ) (low : i ≤ j) (high : j ≤ length xs) where
  pub take_with_part : take i (with_part g xs i j) ≡ take i xs
  unfolding with_part
  take_with_part = take_at (take i xs) _ i (length-take-le i xs (omega arith))

  pub drop_with_part : ((ys : List ℕ) → length (g ys) ≡ length ys) → drop j (with_part g xs i j) ≡ drop j xs
  unfolding with_part
  drop_with_part e =
      rw (← append_assoc (take i xs) (g (take (j - i) (drop i xs))) (drop j xs))
      (drop_at (take i xs ++ g (take (j - i) (drop i xs))) (drop j xs) j
      (simp (length-append, e, length-take, length-drop) (omega arith)))

  pub filter_with_part : (f : ℕ → Bool) → ((ys : List ℕ) → filter f (g ys) ≡ filter f ys) → filter f (with_part g xs i j) ≡ filter f xs
  unfolding with_part
  filter_with_part f e =
      let s : filter f (take i xs ++ (take (j - i) (drop i xs) ++ drop j xs)) ≡ filter f xs = ap (filter f) (row_in_parts xs i j low) in
      simp (filter_append, e) (simp filter_append at s)

  -- one that stood before another still does, if it does in the part
  pub before_with_part : ((ys : List ℕ) (k : ℕ) → has (g ys) k ≡ has ys k) → (x y : ℕ) →
      ((ys : List ℕ) → has ys x ≡ true → has ys y ≡ true → place ys x < place ys y → place (g ys) x < place (g ys) y) →
      place xs x < place xs y → place (with_part g xs i j) x < place (with_part g xs i j) y
  unfolding with_part
  before_with_part h x y k l =
      let M = take (j - i) (drop i xs) in
      let l' : place (take i xs ++ (M ++ drop j xs)) x < place (take i xs ++ (M ++ drop j xs)) y = rw (row_in_parts xs i j low) l in
      before_behind (take i xs) (M ++ drop j xs) (g M ++ drop j xs) x y l' (λ _ _ s. before_ahead M (g M) (drop j xs) x y (h M) s (k M))

  -- and one of two in the part stands before the other, if g puts it so
  pub ends_with_part : ((ys : List ℕ) (k : ℕ) → has (g ys) k ≡ has ys k) → (x y : ℕ) →
      ((ys : List ℕ) → has ys x ≡ true → has ys y ≡ true → place (g ys) x < place (g ys) y) →
      i ≤ place xs x → i ≤ place xs y → place xs x < j → place xs y < j → place (with_part g xs i j) x < place (with_part g xs i j) y
  unfolding with_part
  ends_with_part h x y k lx ly ux uy =
      let M = take (j - i) (drop i xs) in
      let m : (z : ℕ) → i ≤ place xs z → place xs z < j → has M z ≡ true =
      λ z lz uz. has_take (j - i) (drop i xs) z (has_drop i xs z (has_from_place xs z (omega arith)) lz) (omega (arith, place_drop i xs z lz)) in
      both_second (take i xs) _ x y (has_front i xs x lx) (has_front i xs y ly)
      (both_first (g M) (drop j xs) x y (h M x ∙ m x lx ux) (h M y ∙ m y ly uy) (k M (m x lx ux) (m y ly uy)))

-- what keeps its place in the part keeps it in the list
pub place_with_part : (g : List ℕ → List ℕ) (xs : List ℕ) (i j : ℕ) → i ≤ j → ((ys : List ℕ) → length (g ys) ≡ length ys) →
    ((ys : List ℕ) (k : ℕ) → has (g ys) k ≡ has ys k) →
    (k : ℕ) → ((ys : List ℕ) → place (g ys) k ≡ place ys k) → place (with_part g xs i j) k ≡ place xs k
unfolding with_part
place_with_part g xs i j low ln h k p =
    let M = take (j - i) (drop i xs) in
    let e : place (take i xs ++ (M ++ drop j xs)) k ≡ place xs k = ap (λ zs. place zs k) (row_in_parts xs i j low) in
    elim (cases_Bool (has (take i xs) k)) [
      | inl q ↦ place_left (take i xs) (g M ++ drop j xs) k q ∙ sym (place_left (take i xs) (M ++ drop j xs) k q) ∙ e
      | inr q ↦
          let a₁ = place_right (take i xs) (g M ++ drop j xs) k q in
          let a₂ = place_right (take i xs) (M ++ drop j xs) k q in
          let n = ln M in
          elim (cases_Bool (has M k)) [
            | inl s ↦ omega (arith, a₁, a₂, e, p M, place_left M (drop j xs) k s, place_left (g M) (drop j xs) k (h M k ∙ s))
            | inr s ↦ omega (arith, a₁, a₂, e, n, place_right M (drop j xs) k s, place_right (g M) (drop j xs) k (h M k ∙ s))
          ]
    ]

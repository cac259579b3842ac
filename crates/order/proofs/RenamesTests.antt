-- Tests over a list with other names: what holds of tests that say of a name what they say of what it names.
use Rattle.std.proofs.Common.{◌≡◌, Bool, true, List, [], ◌∷◌, map, refl, inl, inr, arith}
use Rattle.std.proofs.lemmas.Bool.{cases_Bool, and_parts}
use Rattle.order.specs.Lists.{every, any, filter}

module _ {A B : Type 0} (h : A → B) (D p : A → Bool) (q : B → Bool) (w : (x : A) → D x ≡ true → q (h x) ≡ p x) where
  pub every_map : (xs : List A) → every D xs ≡ true → every q (map h xs) ≡ every p xs
  unfolding every
  every_map [] d = refl
  every_map (x ∷ xs) d =
      let s = and_parts (D x) (every D xs) d in
      rw (w x s.0, every_map xs s.1)

  pub any_map : (xs : List A) → every D xs ≡ true → any q (map h xs) ≡ any p xs
  unfolding every any
  any_map [] d = refl
  any_map (x ∷ xs) d =
      let s = and_parts (D x) (every D xs) d in
      rw (w x s.0, any_map xs s.1)

  pub filter_map : (xs : List A) → every D xs ≡ true → filter q (map h xs) ≡ map h (filter p xs)
  unfolding every filter
  filter_map [] d = refl
  filter_map (x ∷ xs) d =
      let s = and_parts (D x) (every D xs) d in
      let e = w x s.0 in
      let ih = filter_map xs s.1 in
      elim (cases_Bool (p x)) [ inl i ↦ grind arith | inr i ↦ grind arith ]

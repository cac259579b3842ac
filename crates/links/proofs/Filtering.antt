-- What is left of a list and which of it pass a test, also of filters behind one another and of lists the other way round.
use Rattle.std.proofs.Common.{◌≡◌, ℕ, ◌+◌, ◌≤◌, Bool, true, false, not, ◌&&◌, ◌||◌, eqb, leb, List, [], ◌∷◌, ◌++◌, map, filter, reverse, refl, append-nil, arith}
use Rattle.std.specs.List.{list_all, list_any}
use Rattle.std.proofs.lemmas.Bool.Decides.{nat_tests}
use mathlib.Core.List.{reverse-cons}
use Rattle.order.specs.Lists.{every, any, filter as kept}
use Rattle.order.proofs.Filters.{filter_append, every_append}

module _ {A : Type 0} where
  pub filter_both : (p q r : A → Bool) (L : List A) → ((x : A) → r x ≡ (p x && q x)) → filter q (filter p L) ≡ filter r L
  filter_both p q r [] e = refl
  filter_both p q r (x ∷ L) e = let ih = filter_both p q r L e in let h = e x in grind arith

  pub filter_absent : (p : A → Bool) (L : List A) → list_any p L ≡ false → filter (λ y. not (p y)) L ≡ L
  filter_absent p [] h = refl
  filter_absent p (x ∷ L) h = let ih = filter_absent p L in grind arith

  pub filter_lacks : (p : A → Bool) (L : List A) → list_any p (filter (λ y. not (p y)) L) ≡ false
  filter_lacks p [] = refl
  filter_lacks p (x ∷ L) = let ih = filter_lacks p L in grind arith

  pub filter_tested : (p q : A → Bool) (L : List A) → list_all q L ≡ true → list_all q (filter p L) ≡ true
  filter_tested p q [] e = refl
  filter_tested p q (x ∷ L) e = let ih = filter_tested p q L in grind arith

  -- numbers that are low
  module _ (number : A → ℕ) (n : ℕ) where
    pub low_lacks : (L : List A) → list_all (λ y. leb (number y) n) L ≡ true → list_any (λ y. eqb (number y) (n + 1)) L ≡ false
    low_lacks [] a = refl
    low_lacks (y ∷ L) a = let ih = low_lacks L in grind (arith, nat_tests)

    pub low_more : (L : List A) → list_all (λ y. leb (number y) n) L ≡ true → list_all (λ y. leb (number y) (n + 1)) L ≡ true
    low_more [] a = refl
    low_more (y ∷ L) a = let ih = low_more L in grind (arith, nat_tests)

    pub low_listed : (e : ℕ) (L : List A) → list_all (λ y. leb (number y) n) L ≡ true → list_any (λ y. eqb (number y) e) L ≡ true → e ≤ n
    low_listed e [] a t = cc
    low_listed e (y ∷ L) a t = let ih = low_listed e L in grind (arith, nat_tests)

  -- the words on lists of the boards, at what lists of entries hold, and at lists the other way round
  pub any_append : (f : A → Bool) (xs ys : List A) → any f (xs ++ ys) ≡ (any f xs || any f ys)
  unfolding any
  any_append f [] ys = refl
  any_append f (x ∷ xs) ys = let ih = any_append f xs ys in grind arith

  pub any_reverse : (f : A → Bool) (xs : List A) → any f (reverse xs) ≡ any f xs
  unfolding any
  any_reverse f [] = refl
  any_reverse f (x ∷ xs) = let ih = any_reverse f xs in let e = reverse-cons x xs in let a = any_append f (reverse xs) (x ∷ []) in grind arith

  pub every_reverse : (f : A → Bool) (xs : List A) → every f (reverse xs) ≡ every f xs
  unfolding every
  every_reverse f [] = refl
  every_reverse f (x ∷ xs) = let ih = every_reverse f xs in let e = reverse-cons x xs in let a = every_append f (reverse xs) (x ∷ []) in grind arith

  pub kept_reverse : (f : A → Bool) (xs : List A) → kept f (reverse xs) ≡ reverse (kept f xs)
  unfolding kept
  kept_reverse f [] = refl
  kept_reverse f (x ∷ xs) =
      let ih = kept_reverse f xs in let e = reverse-cons x xs in let a = filter_append f (reverse xs) (x ∷ []) in
      let r = reverse-cons x (kept f xs) in let n = append-nil (reverse (kept f xs)) in grind arith

  -- those that are left, of which some pass
  pub any_kept : (p q r : A → Bool) → ((x : A) → r x ≡ (p x && q x)) → (xs : List A) → any q (kept p xs) ≡ any r xs
  unfolding any kept
  any_kept p q r e [] = refl
  any_kept p q r e (x ∷ xs) = let ih = any_kept p q r e xs in let h = e x in grind arith

  pub any_less : (p q : A → Bool) (xs : List A) → any q xs ≡ false → any q (kept p xs) ≡ false
  unfolding any kept
  any_less p q [] h = refl
  any_less p q (x ∷ xs) h = let ih = any_less p q xs in grind arith

  pub kept_all : (p : A → Bool) (xs : List A) → any p xs ≡ false → kept (λ y. not (p y)) xs ≡ xs
  unfolding any kept
  kept_all p [] h = refl
  kept_all p (x ∷ xs) h = let ih = kept_all p xs in grind arith

pub any_map : {A B : Type 0} (f : B → Bool) (g : A → B) (xs : List A) → any f (map g xs) ≡ any (λ x. f (g x)) xs
unfolding any
any_map f g [] = refl
any_map f g (x ∷ xs) = let ih = any_map f g xs in grind arith

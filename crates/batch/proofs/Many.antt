-- How many of a list pass a test.
use Rattle.std.proofs.Common.{◌≡◌, ℕ, suc, ◌+◌, Bool, true, cond, not, ◌&&◌, eqb, List, [], ◌∷◌, ◌++◌, map, reverse, length, sym, refl, ap, ◌∙◌, ap₂, inl, inr, arith, length-append}
use mathlib.Core.List.{reverse-cons}
use Rattle.std.proofs.lemmas.Bool.{cases_Bool, and_parts}
use Rattle.std.proofs.lemmas.Bool.Decides.{nat_tests}
use Rattle.order.specs.Lists.{any, every, filter, has}
use Rattle.order.proofs.Filters.{filter_append}

abbrev pub many : {A : Type 0} → (A → Bool) → List A → ℕ
many f xs = length (filter f xs)

abbrev pub one : Bool → ℕ
one t = cond t 1 0

pub many_cons : {A : Type 0} (f : A → Bool) (x : A) (xs : List A) → many f (x ∷ xs) ≡ one (f x) + many f xs
unfolding filter
many_cons f x xs = elim (cases_Bool (f x)) [ inl e ↦ rw e (omega arith) | inr e ↦ rw e (omega arith) ]

pub many_push : {A : Type 0} (f : A → Bool) (xs : List A) (x : A) → many f (xs ++ x ∷ []) ≡ many f xs + one (f x)
unfolding filter
many_push f xs x =
    ap length (filter_append f xs (x ∷ [])) ∙ length-append (filter f xs) (filter f (x ∷ [])) ∙ ap (λ (k : ℕ). many f xs + k) (many_cons f x [] ∙ (omega arith))

pub many_any : {A : Type 0} (f : A → Bool) (xs : List A) → any f xs ≡ not (eqb (many f xs) 0)
unfolding filter any
many_any f [] = refl
many_any f (x ∷ xs) = let ih = many_any f xs in grind (arith, nat_tests)

-- the tests g and h divide what passes f
pub many_parts : {A : Type 0} (f g h : A → Bool) → ((x : A) → one (f x) ≡ one (g x) + one (h x)) → (xs : List A) → many f xs ≡ many g xs + many h xs
unfolding filter
many_parts f g h e [] = refl
many_parts f g h e (x ∷ xs) =
    let ih = many_parts f g h e xs in
    let s = e x in
    omega (arith, many_cons f x xs, many_cons g x xs, many_cons h x xs)

-- two tests that agree on what passes a third
pub many_within : {A : Type 0} (f g q : A → Bool) → ((x : A) → q x ≡ true → f x ≡ g x) → (xs : List A) → every q xs ≡ true → many f xs ≡ many g xs
unfolding filter every
many_within f g q e [] h = refl
many_within f g q e (x ∷ xs) h =
    let p = and_parts (q x) (every q xs) h in
    many_cons f x xs ∙ ap₂ (λ (t : Bool) (k : ℕ). one t + k) (e x p.0) (many_within f g q e xs p.1) ∙ sym (many_cons g x xs)

-- of a list turned round, of a list of values, and of what passes another test
pub many_reverse : {A : Type 0} (f : A → Bool) (xs : List A) → many f (reverse xs) ≡ many f xs
many_reverse f [] = refl
many_reverse f (x ∷ xs) =
    let ih = many_reverse f xs in
    ap (many f) (reverse-cons x xs) ∙ many_push f (reverse xs) x ∙ (omega (arith, many_cons f x xs))

pub many_map : {A B : Type 0} (f : B → Bool) (g : A → B) (xs : List A) → many f (map g xs) ≡ many (λ x. f (g x)) xs
unfolding filter
many_map f g [] = refl
many_map f g (x ∷ xs) = let ih = many_map f g xs in omega (arith, many_cons f (g x) (map g xs), many_cons (λ y. f (g y)) x xs)

pub many_filter : {A : Type 0} (f g : A → Bool) (xs : List A) → many f (filter g xs) ≡ many (λ x. g x && f x) xs
unfolding filter
many_filter f g [] = refl
many_filter f g (x ∷ xs) =
    let ih = many_filter f g xs in
    elim (cases_Bool (g x)) [
      | inl e ↦ elim (cases_Bool (f x)) [ inl k ↦ rw (e, k) (ap suc ih) | inr k ↦ rw (e, k) ih ]
      | inr e ↦ rw e ih
    ]

pub has_reverse : (xs : List ℕ) (k : ℕ) → has (reverse xs) k ≡ has xs k
has_reverse xs k = many_any (eqb k) (reverse xs) ∙ ap (λ (n : ℕ). not (eqb n 0)) (many_reverse (eqb k) xs) ∙ sym (many_any (eqb k) xs)

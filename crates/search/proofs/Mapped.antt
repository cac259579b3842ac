-- What a function makes of a list: what the list of its values has, and what a test of these keeps.
use Rattle.std.proofs.Common.{◌≡◌, ℕ, ◌≤◌, Bool, true, false, not, ◌&&◌, eqb, List, [], ◌∷◌, ◌++◌, map, length, sym, refl, ap, ◌∙◌, inl, inr, arith}
use Rattle.std.proofs.lemmas.Bool.Decides.{nat_tests}
use Rattle.std.proofs.lemmas.Bool.{false_from_ne_true, cases_Bool, eqb-true, eq-eqb, both_ways, and_parts, or_left, or_right}
use Rattle.order.specs.Lists.{any, filter, has, distinct}
use Rattle.order.proofs.Places.{has_append}
use Rattle.order.proofs.Members.{has_head, has_tail, not_again, distinct_tail}

pub map_same : (f g : ℕ → ℕ) (xs : List ℕ) → ((p : ℕ) → has xs p ≡ true → f p ≡ g p) → map f xs ≡ map g xs
map_same f g [] h = refl
map_same f g (x ∷ xs) h =
    let e = h x (has_head x xs) in
    let ih = map_same f g xs (λ p i. h p (has_tail x xs p i)) in
    cc

pub map_has : (g : ℕ → ℕ) (xs : List ℕ) (k : ℕ) → has (map g xs) k ≡ true → (p : ℕ) × (has xs p ≡ true) × (g p ≡ k)
unfolding any
map_has g [] k h = absurd (both_ways false refl h)
map_has g (x ∷ xs) k h = elim (cases_Bool (eqb k (g x))) [
  | inl e ↦ (x, has_head x xs, sym (eqb-true k (g x) e))
  | inr e ↦ let w = map_has g xs k (grind arith) in (w.0, has_tail x xs w.0 w.1, w.2)
]

pub has_map : (g : ℕ → ℕ) (xs : List ℕ) (p k : ℕ) → has xs p ≡ true → g p ≡ k → has (map g xs) k ≡ true
unfolding any
has_map g [] p k h e = absurd (both_ways false refl h)
has_map g (x ∷ xs) p k h e = let ih = has_map g xs p k in grind (arith, nat_tests)

-- different numbers have different values
pub distinct_map : (g : ℕ → ℕ) (xs : List ℕ) → distinct xs ≡ true → ((p q : ℕ) → has xs p ≡ true → has xs q ≡ true → g p ≡ g q → p ≡ q) →
    distinct (map g xs) ≡ true
unfolding distinct
distinct_map g [] d inj = refl
distinct_map g (x ∷ xs) d inj =
    let new = false_from_ne_true _ (λ e.
    let w = map_has g xs (g x) e in
    let s = inj x w.0 (has_head x xs) (has_tail x xs w.0 w.1) (sym w.2) in
    both_ways (has xs x) (not_again x xs d) (ap (has xs) s ∙ w.1)) in
    rw (new, distinct_map g xs (distinct_tail x xs d) (λ p q h k. inj p q (has_tail x xs p h) (has_tail x xs q k)))

pub map_filter : (g : ℕ → ℕ) (A : ℕ → Bool) (xs : List ℕ) → map g (filter (λ p. A (g p)) xs) ≡ filter A (map g xs)
unfolding filter
map_filter g A [] = refl
map_filter g A (x ∷ xs) = let ih = map_filter g A xs in grind arith

pub filter_same : (f g : ℕ → Bool) (xs : List ℕ) → ((p : ℕ) → has xs p ≡ true → f p ≡ g p) → filter f xs ≡ filter g xs
unfolding filter
filter_same f g [] h = refl
filter_same f g (x ∷ xs) h =
    let e = h x (has_head x xs) in
    let ih = filter_same f g xs (λ p i. h p (has_tail x xs p i)) in
    grind arith

pub filter_both : (f g : ℕ → Bool) (xs : List ℕ) → filter g (filter f xs) ≡ filter (λ p. f p && g p) xs
unfolding filter
filter_both f g [] = refl
filter_both f g (x ∷ xs) = let ih = filter_both f g xs in grind arith

pub filter_fewer : (f : ℕ → Bool) (xs : List ℕ) → length (filter f xs) ≤ length xs
unfolding filter
filter_fewer f [] = omega arith
filter_fewer f (x ∷ xs) = let ih = filter_fewer f xs in grind arith

pub distinct_append : (xs ys : List ℕ) → distinct xs ≡ true → distinct ys ≡ true → ((k : ℕ) → has xs k ≡ true → has ys k ≡ false) →
    distinct (xs ++ ys) ≡ true
unfolding distinct any
distinct_append [] ys d e h = e
distinct_append (x ∷ xs) ys d e h =
    let s = and_parts (not (has xs x)) (distinct xs) d in
    let ih = distinct_append xs ys s.1 e (λ k i. h k (or_right (eqb k x) _ i)) in
    let p = has_append xs ys x in
    let q = h x (or_left _ _ (eq-eqb x x refl)) in
    grind arith

-- Lists of different numbers: one all of whose numbers are in another list is no longer; and a list without one of its numbers is shorter by one.
use Rattle.std.proofs.Common.{◌≡◌, ℕ, suc, ◌<◌, ◌≤◌, Bool, true, false, not, eqb, List, [], ◌∷◌, length, refl, inl, inr, arith, sym, ◌∙◌}
use Rattle.std.proofs.lemmas.Bool.Decides.{nat_tests}
use Rattle.std.proofs.lemmas.Bool.{cases_Bool, cases_eq, both_ways, and_from}
use Rattle.order.specs.Lists.{every, any, filter, has, distinct}
use Rattle.order.proofs.Filters.{has_filter}
use Rattle.order.proofs.Members.{has_head, has_tail, has_on, has_at, without_none, not_again, distinct_tail}
use Rattle.batch.specs.Rule.{without}

-- different numbers with one more in front
pub distinct_cons : (x : ℕ) (xs : List ℕ) → has xs x ≡ false → distinct xs ≡ true → distinct (x ∷ xs) ≡ true
unfolding distinct
distinct_cons x xs n d = rw n d

-- what is left without k
pub has_without : (xs : List ℕ) (k j : ℕ) → has xs j ≡ true → (j ≡ k → ⊥) → has (without xs k) j ≡ true
has_without xs k j h n = let e = has_filter (λ i. not (eqb i k)) xs j in grind (arith, nat_tests)

pub without_has : (xs : List ℕ) (k j : ℕ) → has (without xs k) j ≡ true → (has xs j ≡ true) × (j ≡ k → ⊥)
without_has xs k j h = let e = has_filter (λ i. not (eqb i k)) xs j in (grind (arith, nat_tests), λ i. grind (arith, nat_tests))

pub filter_no_longer : {A : Type 0} (f : A → Bool) (xs : List A) → length (filter f xs) ≤ length xs
unfolding filter
filter_no_longer f [] = omega arith
filter_no_longer f (x ∷ xs) = let ih = filter_no_longer f xs in grind (arith, nat_tests)

pub without_shorter : (xs : List ℕ) (k : ℕ) → has xs k ≡ true → length (without xs k) < length xs
unfolding any filter
without_shorter [] k h = grind arith
without_shorter (x ∷ xs) k h = let ih = without_shorter xs k in let n = filter_no_longer (λ i. not (eqb i k)) xs in grind (arith, nat_tests)

-- each number of xs is one of ys
abbrev pub Within : List ℕ → List ℕ → Type 0
Within xs ys = (k : ℕ) → has xs k ≡ true → has ys k ≡ true

pub within_more : (x : ℕ) (xs ys : List ℕ) → has ys x ≡ true → Within xs ys → Within (x ∷ xs) ys
within_more x xs ys h w k i = elim (cases_eq x k) [ inl e ↦ has_at ys x k e h | inr e ↦ w k (has_on x k xs e i) ]

pub within_both : (x : ℕ) (xs ys : List ℕ) → Within xs ys → Within (x ∷ xs) (x ∷ ys)
within_both x xs ys w = within_more x xs (x ∷ ys) (has_head x ys) (λ k h. has_tail x ys k (w k h))

pub within_not : (xs ys : List ℕ) (k : ℕ) → Within xs ys → has ys k ≡ false → has xs k ≡ false
within_not xs ys k w n = elim (cases_Bool (has xs k)) [ inl h ↦ absurd (both_ways (has ys k) n (w k h)) | inr h ↦ h ]

pub few_within : (xs ys : List ℕ) → distinct xs ≡ true → Within xs ys → length xs ≤ length ys
few_within [] ys d h = omega arith
few_within (x ∷ xs) ys d h =
    let s = without_shorter ys x (h x (has_head x xs)) in
    let n = not_again x xs d in
    let ih = few_within xs (without ys x) (distinct_tail x xs d)
    (λ k i. has_without ys x k (h k (has_tail x xs k i)) (λ e. let j = has_at xs k x e i in grind arith)) in
    omega arith

pub length_without : (xs : List ℕ) (k : ℕ) → distinct xs ≡ true → has xs k ≡ true → length xs ≡ suc (length (without xs k))
unfolding any
length_without xs k d h =
    let s = without_shorter xs k h in
    let f = few_within xs (k ∷ without xs k) d (λ j i. let w = has_without xs k j i in grind (arith, nat_tests)) in
    omega arith

-- without its first
pub without_head : (k : ℕ) (ks : List ℕ) → distinct (k ∷ ks) ≡ true → without (k ∷ ks) k ≡ ks
unfolding filter
without_head k ks d = let w = without_none k ks (not_again k ks d) in grind (arith, nat_tests)

-- each passes a test, if what is there passes it
pub every_in : (f : ℕ → Bool) (xs : List ℕ) → ((k : ℕ) → has xs k ≡ true → f k ≡ true) → every f xs ≡ true
unfolding every
every_in f [] h = refl
every_in f (x ∷ xs) h = and_from _ _ (h x (has_head x xs)) (every_in f xs (λ k i. h k (has_tail x xs k i)))

pub as_long : (xs ys : List ℕ) → distinct xs ≡ true → distinct ys ≡ true → ((k : ℕ) → has xs k ≡ has ys k) → length xs ≡ length ys
as_long xs ys d e h = omega (arith, few_within xs ys d (λ k i. sym (h k) ∙ i), few_within ys xs e (λ k i. h k ∙ i))

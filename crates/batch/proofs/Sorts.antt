-- What is sorted has the same numbers, as often, and rises; and there is only one such list.
use Rattle.std.proofs.Common.{◌≡◌, ℕ, zero, suc, ◌+◌, ◌<◌, ◌≤◌, Bool, true, cond, eqb, leb, List, [], ◌∷◌, count_by, sym, refl, ap, ◌∙◌, ap₂, inl, inr, arith}
use Rattle.std.specs.List.{AllByRecursion as All}
use Rattle.std.specs.List.Sorted.{IsPermutation, IsNonDecreasing}
use Rattle.std.proofs.lemmas.Bool.Decides.{nat_tests}
use Rattle.std.proofs.lemmas.Bool.{cases_Bool, cases_lt, leb-true, leb-false, eq-eqb}
use Rattle.std.proofs.ByRecursion.{All-get_or, All-from_get_or, All-weaker, all_shuffled}
use Rattle.std.proofs.lemmas.List.Sums.{sum_by-cons}
use Rattle.std.proofs.lemmas.List.Sorted.{IsNonDecreasingBy-short, IsPermutation-refl, IsPermutation-cons, IsPermutation-swap, IsPermutation-trans, sum_by-IsPermutation}
use Rattle.order.specs.Lists.{every, any, has, distinct}
use Rattle.order.proofs.Filters.{every_has}
use Rattle.batch.specs.Rule.{put_in, sorted}
use Rattle.batch.specs.RuleLaws.{SortedSo}
use Rattle.batch.proofs.Within.{every_in}

-- the same numbers, as often
put_in_shuffles : (k : ℕ) (js : List ℕ) → IsPermutation (k ∷ js) (put_in k js)
unfolding put_in
put_in_shuffles k [] = IsPermutation-refl (k ∷ [])
put_in_shuffles k (j ∷ js) = elim (cases_Bool (leb k j)) [
  | inl e ↦ rw e (IsPermutation-refl (k ∷ j ∷ js))
  | inr e ↦
      rw e
      (IsPermutation-trans (k ∷ j ∷ js) (j ∷ k ∷ js) (j ∷ put_in k js) (IsPermutation-swap (k ∷ j ∷ js) (j ∷ k ∷ js) 0 1 (omega arith) (omega arith) refl)
      (IsPermutation-cons j (k ∷ js) (put_in k js) (put_in_shuffles k js)))
]

pub sorted_shuffles : (ks : List ℕ) → IsPermutation ks (sorted ks)
unfolding sorted
sorted_shuffles [] = IsPermutation-refl []
sorted_shuffles (k ∷ ks) =
    IsPermutation-trans (k ∷ ks) (k ∷ sorted ks) (put_in k (sorted ks)) (IsPermutation-cons k ks (sorted ks) (sorted_shuffles ks)) (put_in_shuffles k (sorted ks))

-- a list rises just if its first is the least, and the others rise
rising_cons : (x : ℕ) (xs : List ℕ) → All (λ y. x ≤ y) xs → IsNonDecreasing xs → IsNonDecreasing (x ∷ xs)
rising_cons x xs a r zero zero d l h = omega arith
rising_cons x xs a r zero (suc j) d l h = All-get_or (λ y. x ≤ y) xs j d (omega arith) a
rising_cons x xs a r (suc i) zero d l h = absurd (omega arith)
rising_cons x xs a r (suc i) (suc j) d l h = r i j d (omega arith) (omega arith)

rising_head : (x : ℕ) (xs : List ℕ) → IsNonDecreasing (x ∷ xs) → All (λ y. x ≤ y) xs
rising_head x xs r = All-from_get_or (λ y. x ≤ y) xs 0 (λ i h. r 0 (suc i) 0 (omega arith) (omega arith))

rising_tail : (x : ℕ) (xs : List ℕ) → IsNonDecreasing (x ∷ xs) → IsNonDecreasing xs
rising_tail x xs r i j d l h = r (suc i) (suc j) d (omega arith) (omega arith)

put_in_rises : (k : ℕ) (js : List ℕ) → IsNonDecreasing js → IsNonDecreasing (put_in k js)
unfolding put_in
put_in_rises k [] r = IsNonDecreasingBy-short (λ x. x) (k ∷ []) (omega arith)
put_in_rises k (j ∷ js) r = elim (cases_Bool (leb k j)) [
  | inl e ↦
      let l = leb-true k j e in
      rw e (rising_cons k (j ∷ js) (l, All-weaker (λ y. j ≤ y) (λ y. k ≤ y) (λ y h. omega arith) js (rising_head j js r)) r)
  | inr e ↦
      let l = leb-false k j e in
      rw e
      (rising_cons j (put_in k js) (all_shuffled (λ y. j ≤ y) (k ∷ js) (put_in k js) (put_in_shuffles k js) (omega arith, rising_head j js r))
      (put_in_rises k js (rising_tail j js r)))
]

pub sorted_rises : (ks : List ℕ) → IsNonDecreasing (sorted ks)
unfolding sorted
sorted_rises [] = IsNonDecreasingBy-short (λ x. x) [] (omega arith)
sorted_rises (k ∷ ks) = put_in_rises k (sorted ks) (sorted_rises ks)

-- how often a number is there
abbrev times : ℕ → List ℕ → ℕ
times k xs = count_by (eqb k) xs

times_cons : (k x : ℕ) (xs : List ℕ) → times k (x ∷ xs) ≡ cond (eqb k x) 1 0 + times k xs
times_cons k x xs = sum_by-cons (λ z. cond (eqb k z) 1 0) x xs

times_shuffled : (k : ℕ) (xs ys : List ℕ) → IsPermutation xs ys → times k ys ≡ times k xs
times_shuffled k xs ys s = sum_by-IsPermutation (λ z. cond (eqb k z) 1 0) xs ys s

times_head : (x : ℕ) (xs : List ℕ) → times x (x ∷ xs) ≡ 1 + times x xs
times_head x xs = times_cons x x xs ∙ rw (eq-eqb x x refl)

times_tail : (k x y : ℕ) (xs ys : List ℕ) → x ≡ y → times k (x ∷ xs) ≡ times k (y ∷ ys) → times k xs ≡ times k ys
times_tail k x y xs ys i e = let q = ap (eqb k) i in let m = times_cons k x xs in let n = times_cons k y ys in grind arith

times_below : (x : ℕ) (ys : List ℕ) → All (λ y. x < y) ys → times x ys ≡ 0
times_below x [] a = refl
times_below x (y ∷ ys) a = let ih = times_below x ys a.1 in let l = a.0 in times_cons x y ys ∙ grind (arith, nat_tests)

-- two lists that rise, with each number as often, are the same
least_first : (x y : ℕ) (xs ys : List ℕ) → IsNonDecreasing (y ∷ ys) → times x (x ∷ xs) ≡ times x (y ∷ ys) → y ≤ x
least_first x y xs ys r e = elim (cases_lt x y) [
  | inl l ↦
      absurd (omega (arith, times_head x xs, times_below x (y ∷ ys) (l, All-weaker (λ z. y ≤ z) (λ z. x < z) (λ z h. omega arith) ys (rising_head y ys r))))
  | inr l ↦ l
]

pub rising_only : (xs ys : List ℕ) → IsNonDecreasing xs → IsNonDecreasing ys → ((k : ℕ) → times k xs ≡ times k ys) → xs ≡ ys
rising_only [] [] r s e = refl
rising_only [] (y ∷ ys) r s e = absurd (omega (arith, e y, times_head y ys))
rising_only (x ∷ xs) [] r s e = absurd (omega (arith, e x, times_head x xs))
rising_only (x ∷ xs) (y ∷ ys) r s e =
    let u = least_first x y xs ys s (e x) in
    let v = least_first y x ys xs r (sym (e y)) in
    let i : x ≡ y = omega arith in
    ap₂ ◌∷◌ i (rising_only xs ys (rising_tail x xs r) (rising_tail y ys s) (λ k. times_tail k x y xs ys i (e k)))

pub sorted_so : SortedSo
sorted_so ks = (
  sorted_shuffles ks,
  sorted_rises ks,
  λ js s r. rising_only js (sorted ks) r (sorted_rises ks) (λ k. times_shuffled k ks js s ∙ sym (times_shuffled k ks (sorted ks) (sorted_shuffles ks))),
)

-- what is there is there, what is different is different, and what holds of each number still does
has_put_in : (k : ℕ) (js : List ℕ) (i : ℕ) → has (put_in k js) i ≡ has (k ∷ js) i
unfolding put_in any
has_put_in k [] i = refl
has_put_in k (j ∷ js) i = let ih = has_put_in k js i in grind arith

pub has_sorted : (ks : List ℕ) (i : ℕ) → has (sorted ks) i ≡ has ks i
unfolding sorted any
has_sorted [] i = refl
has_sorted (k ∷ ks) i = has_put_in k (sorted ks) i ∙ rw (has_sorted ks i)

distinct_put_in : (k : ℕ) (js : List ℕ) → distinct (put_in k js) ≡ distinct (k ∷ js)
unfolding put_in any distinct
distinct_put_in k [] = refl
distinct_put_in k (j ∷ js) = let ih = distinct_put_in k js in let e = has_put_in k js j in grind (arith, nat_tests)

pub distinct_sorted : (ks : List ℕ) → distinct (sorted ks) ≡ distinct ks
unfolding sorted distinct
distinct_sorted [] = refl
distinct_sorted (k ∷ ks) = distinct_put_in k (sorted ks) ∙ rw (has_sorted ks k, distinct_sorted ks)

pub every_sorted : (f : ℕ → Bool) (ks : List ℕ) → every f ks ≡ true → every f (sorted ks) ≡ true
every_sorted f ks h = every_in f (sorted ks) (λ k i. every_has f ks k h (sym (has_sorted ks k) ∙ i))

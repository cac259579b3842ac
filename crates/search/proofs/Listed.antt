-- The numbers that pass a test, from one on, as a list: going from each to the next goes through that list; and such a list in three.
use Rattle.std.proofs.Common.{◌≡◌, ℕ, zero, suc, ◌+◌, ◌<◌, ◌≤◌, Bool, true, false, ◌||◌, eqb, List, [], ◌∷◌, Some, None, Option, sym, refl, ap, ◌∙◌, inl, inr, arith, ◌-◌, ◌++◌, length, ap₂, length-append}
use Rattle.std.specs.List.{range_with_len}
use Rattle.std.proofs.lemmas.Bool.{cases_Bool, cases_eq, cases_lt, eqb-true, both_ways, and_parts, or_left, or_right, or_from, false_from_ne_true}
use Rattle.search.proofs.Common.{any, filter, has, distinct, Least, sooner}
use Rattle.order.proofs.Filters.{has_filter, distinct_filter, filter_append}
use Rattle.memory.proofs.Nearest.{Up, Nearest, one}
use Rattle.order.specs.Lists.{filter, has, distinct}

-- o is the first number from p on that passes f, or there is none
abbrev pub From : (ℕ → Bool) → ℕ → Option ℕ → Type 0
From f p o = Nearest Up f (λ r. p ≤ r) o

-- the list is of all numbers from p on that pass f, upward
abbrev pub Lists : (ℕ → Bool) → ℕ → List ℕ → Type 0
Lists f p [] = (r : ℕ) → p ≤ r → f r ≡ false
Lists f p (q ∷ qs) = ((p ≤ q) × (f q ≡ true) × ((r : ℕ) → p ≤ r → r < q → f r ≡ false)) × Lists f (q + 1) qs

abbrev pub head_of : List ℕ → Option ℕ
head_of [] = None
head_of (q ∷ qs) = Some q

pub from_least : (f g : ℕ → Bool) (o : Option ℕ) → ((r : ℕ) → f r ≡ g r) → Least f o → From g 0 o
from_least f g None e a = λ r l. sym (e r) ∙ a r
from_least f g (Some q) e a = (omega arith, sym (e q) ∙ a.0, λ r l h. sym (e r) ∙ a.1 r h)

-- the first of two tests
abbrev both : (ℕ → Bool) → (ℕ → Bool) → ℕ → Bool
both f g r = f r || g r

pub from_sooner : (f g : ℕ → Bool) (p : ℕ) (o q : Option ℕ) → From f p o → From g p q → From (both f g) p (sooner o q)
from_sooner f g p None None a b = λ r l. or_from (f r) (g r) (a r l) (b r l)
from_sooner f g p None (Some y) a b = (b.0, or_right (f y) (g y) b.1, λ r l h. or_from (f r) (g r) (a r l) (b.2 r l h))
from_sooner f g p (Some x) None a b = (a.0, or_left (f x) (g x) a.1, λ r l h. or_from (f r) (g r) (a.2 r l h) (b r l))
from_sooner f g p (Some x) (Some y) a b = (omega arith, grind arith, λ r l h. or_from (f r) (g r) (a.2 r l (omega arith)) (b.2 r l (omega arith)))

pub from_list : (f : ℕ → Bool) (p : ℕ) (qs : List ℕ) (o : Option ℕ) → Lists f p qs → From f p o → o ≡ head_of qs
from_list f p qs o l a = one Up f (λ r. p ≤ r) o (head_of qs) (grind arith) a (first qs l)
  where
    first : (qs : List ℕ) → Lists f p qs → From f p (head_of qs)
    first [] l = l
    first (q ∷ qs) l = l.0

-- the list, if none but some in a row of numbers pass
pub lists_filter : (f : ℕ → Bool) (p a n : ℕ) → p ≤ a → ((r : ℕ) → p ≤ r → r < a → f r ≡ false) → ((r : ℕ) → a + n ≤ r → f r ≡ false) →
    Lists f p (filter f (range_with_len a n))
unfolding filter
lists_filter f p a zero l before behind = λ r h. elim (cases_lt r a) [ inl i ↦ before r h i | inr i ↦ behind r (omega arith) ]
lists_filter f p a (suc n) l before behind = elim (cases_Bool (f a)) [
  | inl e ↦ rw e ((l, e, before), lists_filter f (a + 1) (a + 1) n (omega arith) (λ r h i. absurd (omega arith)) (λ r h. behind r (omega arith)))
  | inr e ↦
      rw e (lists_filter f p (a + 1) n (omega arith)
      (λ r h i. elim (cases_eq r a) [ inl k ↦ ap f k ∙ e | inr k ↦ before r h (omega arith) ]) (λ r h. behind r (omega arith)))
]

-- what is in such a list
pub counting_has : (a n k : ℕ) → has (range_with_len a n) k ≡ true → (a ≤ k) × (k < a + n)
unfolding any
counting_has a zero k h = absurd (both_ways false refl h)
counting_has a (suc n) k h = elim (cases_Bool (eqb k a)) [
  | inl e ↦ let i = eqb-true k a e in (omega arith, omega arith)
  | inr e ↦ let ih = counting_has (a + 1) n k (grind arith) in (omega arith, omega arith)
]

pub in_filter : (f : ℕ → Bool) (a n k : ℕ) → has (filter f (range_with_len a n)) k ≡ true → (a ≤ k) × (k < a + n) × (f k ≡ true)
in_filter f a n k h =
    let s = and_parts (f k) (has (range_with_len a n) k) (sym (has_filter f (range_with_len a n) k) ∙ h) in
    let c = counting_has a n k s.1 in
    (c.0, c.1, s.0)

pub counting_once : (a n : ℕ) → distinct (range_with_len a n) ≡ true
unfolding distinct
counting_once a zero = refl
counting_once a (suc n) = elim (cases_Bool (has (range_with_len (a + 1) n) a)) [
  | inl e ↦ absurd (let c = counting_has (a + 1) n a e in omega arith)
  | inr e ↦ rw (e, counting_once (a + 1) n)
]

pub filter_once : (f : ℕ → Bool) (a n : ℕ) → distinct (filter f (range_with_len a n)) ≡ true
filter_once f a n = distinct_filter f (range_with_len a n) (counting_once a n)

-- those below an end, in three: those before a part, those in it, and those behind it
range_split : (a n k : ℕ) → range_with_len a (n + k) ≡ range_with_len a n ++ range_with_len (a + n) k
range_split a zero k = ap₂ range_with_len (omega arith) (omega arith)
range_split a (suc n) k =
    let e : suc n + k ≡ suc (n + k) = omega arith in
    let i : a + 1 + n ≡ a + suc n = omega arith in
    ap (range_with_len a) e ∙ ap (λ (xs : List ℕ). a ∷ xs) (rw i at (range_split (a + 1) n k))

-- the part has n numbers, from lo on
module _ (f : ℕ → Bool) (lo n : ℕ) where
  abbrev pub before : List ℕ
  before = filter f (range_with_len 0 lo)

  abbrev pub inner : List ℕ
  inner = filter f (range_with_len lo n)

  abbrev pub behind : ℕ → List ℕ
  behind e = filter f (range_with_len (lo + n) (e - (lo + n)))

  pub in_inner : (p : ℕ) → has inner p ≡ true → (lo ≤ p) × (p < lo + n) × (f p ≡ true)
  in_inner p h = in_filter f lo n p h

  pub inner_once : distinct inner ≡ true
  inner_once = filter_once f lo n

  pub before_out : (p : ℕ) → has before p ≡ true → has inner p ≡ false
  before_out p h = false_from_ne_true _ (λ e. let c = in_filter f 0 lo p h in let d = in_inner p e in omega arith)

  pub behind_out : (e p : ℕ) → has (behind e) p ≡ true → has inner p ≡ false
  behind_out e p h = false_from_ne_true _ (λ i. let c = in_filter f (lo + n) (e - (lo + n)) p h in let d = in_inner p i in omega arith)

  both_parts : before ++ inner ≡ filter f (range_with_len 0 (lo + n))
  both_parts =
      let z : lo ≡ 0 + lo = omega arith in
      sym (filter_append f (range_with_len 0 lo) (range_with_len lo n))
      ∙ ap (filter f) (ap (λ (x : ℕ). range_with_len 0 lo ++ range_with_len x n) z ∙ sym (range_split 0 lo n))

  -- as many as pass below the part's end
  pub part_end : length before + length inner ≡ length (filter f (range_with_len 0 (lo + n)))
  part_end = sym (length-append before inner) ∙ ap length both_parts

  pub in_three : (e : ℕ) → lo + n ≤ e → filter f (range_with_len 0 e) ≡ before ++ (inner ++ behind e)
  in_three e l =
      let k = e - (lo + n) in
      let i : e ≡ lo + (n + k) = omega arith in
      let z : 0 + lo ≡ lo = omega arith in
      ap (filter f) (ap (range_with_len 0) i ∙ range_split 0 lo (n + k) ∙ ap (λ (x : ℕ). range_with_len 0 lo ++ range_with_len x (n + k)) z)
      ∙ filter_append f (range_with_len 0 lo) (range_with_len lo (n + k))
      ∙ ap (λ (xs : List ℕ). before ++ xs) (ap (filter f) (range_split lo n k) ∙ filter_append f (range_with_len lo n) (range_with_len (lo + n) k))

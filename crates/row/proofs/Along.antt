-- Lists by a test, that agree: from a number on, over a gap, at a number that passes.
use Rattle.std.proofs.Common.{◌≡◌, ℕ, zero, suc, ◌+◌, ◌-◌, ◌<◌, ◌≤◌, Bool, true, false, not, ◌&&◌, cond, eqb, ltb, List, map, [], ◌∷◌, ◌++◌, length, get_or, set, sym, refl, ap, ap₂, ◌∙◌, inl, inr, arith}
use Rattle.std.specs.List.{range_with_len}
use Rattle.std.proofs.lemmas.List.FromFn.{length-map-range_with_len}
use Rattle.std.proofs.lemmas.List.{append-nil, set_at}
use Rattle.std.proofs.lemmas.Grind.{common_steps}
use Rattle.std.proofs.lemmas.Bool.{cases_Bool, cases_lt, cases_eq, eq-eqb, ne_eqb}
use Rattle.std.proofs.lemmas.Bool.Decides.{nat_tests}
use Rattle.order.specs.Lists.{any, filter, has, place}
use Rattle.row.specs.Meaning.{listed, amount}
use Rattle.row.proofs.Listing.{rest, listed_cut, length_listed, amount_cut, amount_none, amount_more, amount_le}
use Rattle.order.proofs.Places.{has_append, place_split}

-- two that agree
module _ (r s : ℕ → ℕ) (f g : ℕ → Bool) where
  rest_same : (a k : ℕ) → ((p : ℕ) → a ≤ p → p < a + k → f p ≡ g p) → ((p : ℕ) → a ≤ p → p < a + k → f p ≡ true → r p ≡ s p) → rest r f a k ≡ rest s g a k
  unfolding filter
  rest_same a zero t v = refl
  rest_same a (suc k) t v =
      let ih = rest_same (a + 1) k (λ p l h. t p (omega arith) (omega arith)) (λ p l h. v p (omega arith) (omega arith)) in
      let e = t a (omega arith) (omega arith) in
      elim (cases_Bool (f a)) [
        | inl y ↦ rw (← e, y) (ap₂ (λ (x : ℕ) (xs : List ℕ). x ∷ xs) (v a (omega arith) (omega arith) y) ih)
        | inr y ↦ rw (← e, y) ih
      ]

  pub listed_same : (n : ℕ) → ((p : ℕ) → p < n → f p ≡ g p) → ((p : ℕ) → p < n → f p ≡ true → r p ≡ s p) → listed r f n ≡ listed s g n
  unfolding listed
  listed_same n t v = rest_same 0 n (λ p _ h. t p (omega arith)) (λ p _ h. v p (omega arith))

  -- up to a agree up to b, if their tests and what they give do from a on
  pub listed_along : (a b : ℕ) → a ≤ b → listed r f a ≡ listed s g a →
      ((p : ℕ) → a ≤ p → p < b → f p ≡ g p) → ((p : ℕ) → a ≤ p → p < b → f p ≡ true → r p ≡ s p) → listed r f b ≡ listed s g b
  listed_along a b h e t v =
      let z : b ≡ a + (b - a) = omega arith in
      rw (z, listed_cut r f a (b - a), listed_cut s g a (b - a))
      (ap₂ (λ (xs ys : List ℕ). xs ++ ys) e (rest_same a (b - a) (λ p l u. t p l (omega arith)) (λ p l u. v p l (omega arith))))

-- a gap adds nothing
rest_none : (r : ℕ → ℕ) (f : ℕ → Bool) (a k : ℕ) → ((p : ℕ) → a ≤ p → p < a + k → f p ≡ false) → rest r f a k ≡ []
unfolding filter
rest_none r f a zero h = refl
rest_none r f a (suc k) h = rw (h a (omega arith) (omega arith)) (rest_none r f (a + 1) k (λ p l u. h p (omega arith) (omega arith)))

pub gap_to : (r : ℕ → ℕ) (f : ℕ → Bool) (a b : ℕ) → a ≤ b → ((p : ℕ) → a ≤ p → p < b → f p ≡ false) → listed r f b ≡ listed r f a
gap_to r f a b l h =
    let z : b ≡ a + (b - a) = omega arith in
    rw (z, listed_cut r f a (b - a), rest_none r f a (b - a) (λ p m u. h p m (omega arith))) (append-nil (listed r f a))

pub amount_gap : (f : ℕ → Bool) (a b : ℕ) → a ≤ b → ((p : ℕ) → a ≤ p → p < b → f p ≡ false) → amount f b ≡ amount f a
amount_gap f a b l h = sym (length_listed (λ x. x) f b) ∙ ap length (gap_to (λ x. x) f a b l h) ∙ length_listed (λ x. x) f a

-- all pass
rest_all : (r : ℕ → ℕ) (f : ℕ → Bool) (a n : ℕ) → ((p : ℕ) → p < a + n → f p ≡ true) → rest r f a n ≡ map r (range_with_len a n)
unfolding filter
rest_all r f a zero h = refl
rest_all r f a (suc n) h = rw (h a (omega arith)) (ap (λ (xs : List ℕ). r a ∷ xs) (rest_all r f (a + 1) n (λ p l. h p (omega arith))))

pub listed_all : (r : ℕ → ℕ) (f : ℕ → Bool) (n : ℕ) → ((p : ℕ) → p < n → f p ≡ true) → listed r f n ≡ map r (range_with_len 0 n)
unfolding listed
listed_all r f n h = rest_all r f 0 n (λ p l. h p (omega arith))

pub amount_all : (f : ℕ → Bool) (n : ℕ) → ((p : ℕ) → p < n → f p ≡ true) → amount f n ≡ n
amount_all f n h = sym (length_listed (λ x. x) f n) ∙ ap length (listed_all (λ x. x) f n h) ∙ length-map-range_with_len (λ x. x) 0 n

pub amount_full : (f : ℕ → Bool) (n : ℕ) → amount f n ≡ n → (p : ℕ) → p < n → f p ≡ true
amount_full f zero e p l = absurd (omega arith)
amount_full f (suc n) e p l =
    let a = amount_more f n in let b = amount_le f n in
    let last : f n ≡ true = grind arith in
    elim (cases_eq p n) [ inl i ↦ ap f i ∙ last | inr i ↦ amount_full f n (grind arith) p (omega arith) ]

-- a number that passes
pub listed_there : (r : ℕ → ℕ) (f : ℕ → Bool) (a : ℕ) → f a ≡ true → listed r f (a + 1) ≡ listed r f a ++ r a ∷ []
unfolding filter
listed_there r f a h = listed_cut r f a 1 ∙ rw h

pub listed_split : (r : ℕ → ℕ) (f : ℕ → Bool) (a n : ℕ) → a < n → f a ≡ true → listed r f n ≡ listed r f a ++ r a ∷ rest r f (a + 1) (n - suc a)
unfolding filter
listed_split r f a n l h = let z : n ≡ a + suc (n - suc a) = omega arith in ap (listed r f) z ∙ listed_cut r f a (suc (n - suc a)) ∙ rw h

-- who is in the list, and where
pub rest_not : (r : ℕ → ℕ) (f : ℕ → Bool) (k a n : ℕ) → ((p : ℕ) → a ≤ p → p < a + n → f p ≡ true → r p ≡ k → ⊥) → has (rest r f a n) k ≡ false
unfolding any filter
rest_not r f k a zero h = refl
rest_not r f k a (suc n) h =
    let ih = rest_not r f k (a + 1) n (λ p l u. h p (omega arith) (omega arith)) in
    elim (cases_Bool (f a)) [ inl y ↦ let w = ne_eqb k (r a) (λ e. h a (omega arith) (omega arith) y (sym e)) in rw (y, w) ih | inr y ↦ rw y ih ]

pub has_not : (r : ℕ → ℕ) (f : ℕ → Bool) (k n : ℕ) → ((p : ℕ) → p < n → f p ≡ true → r p ≡ k → ⊥) → has (listed r f n) k ≡ false
unfolding listed
has_not r f k n h = rest_not r f k 0 n (λ p _ l. h p (omega arith))

pub has_there : (r : ℕ → ℕ) (f : ℕ → Bool) (a n : ℕ) → a < n → f a ≡ true → has (listed r f n) (r a) ≡ true
unfolding any
has_there r f a n l h =
    let e = eq-eqb (r a) (r a) refl in
    rw (listed_split r f a n l h, has_append (listed r f a) (r a ∷ rest r f (a + 1) (n - suc a)) (r a)) (grind arith)

pub place_there : (r : ℕ → ℕ) (f : ℕ → Bool) (a n : ℕ) → a < n → f a ≡ true → ((q : ℕ) → f q ≡ true → r q ≡ r a → q ≡ a) →
    place (listed r f n) (r a) ≡ amount f a
place_there r f a n l h one =
    let none = has_not r f (r a) a (λ q u y e. let s = one q y e in omega arith) in
    rw (listed_split r f a n l h) (place_split (listed r f a) _ (r a) none ∙ length_listed r f a)

pub get_there : (r : ℕ → ℕ) (f : ℕ → Bool) (a n : ℕ) → a < n → f a ≡ true → get_or (listed r f n) (amount f a) 0 ≡ r a
get_there r f a n l h = rw (listed_split r f a n l h, ← length_listed r f a) (grind (arith, common_steps))

pub amount_before : (f : ℕ → Bool) (a b : ℕ) → a < b → f a ≡ true → amount f a < amount f b
amount_before f a b l h =
    let z : b ≡ suc a + (b - suc a) = omega arith in
    let c = ap (amount f) z ∙ amount_cut f (suc a) (b - suc a) in let d = amount_more f a in
    grind arith

-- one that doesn't pass any more
pub listed_without : (r : ℕ → ℕ) (f g : ℕ → Bool) (k n : ℕ) →
    ((p : ℕ) → f p ≡ true → g p ≡ not (eqb (r p) k)) → ((p : ℕ) → f p ≡ false → g p ≡ false) → listed r g n ≡ filter (λ j. not (eqb j k)) (listed r f n)
unfolding listed filter
listed_without r f g k n t u = go 0 n
  where
    go : (a n : ℕ) → rest r g a n ≡ filter (λ j. not (eqb j k)) (rest r f a n)
    go a zero = refl
    go a (suc n) = elim (cases_Bool (f a)) [
      | inl y ↦ rw (y, t a y) (elim (cases_eq (r a) k) [
        | inl e ↦ rw (eq-eqb (r a) k e) (go (a + 1) n)
        | inr e ↦ rw (ne_eqb (r a) k e) (ap (λ (xs : List ℕ). r a ∷ xs) (go (a + 1) n))
      ])
      | inr y ↦ rw (y, u a y) (go (a + 1) n)
    ]

pub amount_without : (f g : ℕ → Bool) (a n : ℕ) → f a ≡ true → ((p : ℕ) → g p ≡ (f p && not (eqb p a))) → amount f n ≡ amount g n + cond (ltb a n) 1 0
amount_without f g a zero h t = let x = amount_none f in let y = amount_none g in grind (arith, nat_tests)
amount_without f g a (suc n) h t =
    let ih = amount_without f g a n h t in let x = amount_more f n in let y = amount_more g n in let w = t n in
    elim (cases_eq n a) [ inl e ↦ let i = ap f e ∙ h in grind (arith, nat_tests) | inr e ↦ grind (arith, nat_tests) ]

-- another value at a number that passes
pub listed_set : (r s : ℕ → ℕ) (f : ℕ → Bool) (a n : ℕ) → a < n → f a ≡ true → ((p : ℕ) → (p ≡ a → ⊥) → s p ≡ r p) →
    listed s f n ≡ set (listed r f n) (amount f a) (s a)
listed_set r s f a n l h e =
    let front = listed_same s r f f a (λ p u. refl) (λ p u _. e p (λ i. omega arith)) in
    let back = rest_same s r f f (a + 1) (n - suc a) (λ p b u. refl) (λ p b u _. e p (λ i. omega arith)) in
    listed_split s f a n l h ∙ ap₂ (λ (xs ys : List ℕ). xs ++ s a ∷ ys) front back
    ∙ sym (rw (listed_split r f a n l h) (set_at (listed r f a) (r a) _ (s a) (amount f a) (length_listed r f a)))

-- a number that passes behind so many, if so many pass
pub amount_at : (f : ℕ → Bool) (e n : ℕ) → n < amount f e → (q : ℕ) × (q < e) × (f q ≡ true) × (amount f q ≡ n)
amount_at f zero n l = let z = amount_none f in absurd (omega arith)
amount_at f (suc e) n l =
    let a = amount_more f e in
    elim (cases_lt n (amount f e)) [
      | inl i ↦ let w = amount_at f e n i in (w.0, omega (arith, w.1), w.2, w.3)
      | inr i ↦ let t : f e ≡ true = grind arith in (e, omega arith, t, grind arith)
    ]

-- Lists by a test: cut in two, and how many numbers pass.
use Rattle.std.proofs.Common.{◌≡◌, ℕ, zero, suc, ◌+◌, ◌≤◌, Bool, cond, List, ◌∷◌, ◌++◌, map, length, sym, refl, ap, ◌∙◌, zero-add, length-append, inl, inr, arith}
use Rattle.std.specs.List.{range_with_len}
use Rattle.std.proofs.lemmas.List.{map-append, length-map}
use Rattle.std.proofs.lemmas.Bool.{cases_Bool}
use Rattle.order.specs.Lists.{filter}
use Rattle.order.proofs.Filters.{filter_append}
use Rattle.row.specs.Meaning.{listed, amount}

-- what r gives for those of the k numbers from a on that pass
abbrev pub rest : (ℕ → ℕ) → (ℕ → Bool) → ℕ → ℕ → List ℕ
rest r f a k = map r (filter f (range_with_len a k))

range_cut : (b a k : ℕ) → range_with_len b (a + k) ≡ range_with_len b a ++ range_with_len (b + a) k
range_cut b zero k = let z : 0 + k ≡ k = omega arith in let y : b + 0 ≡ b = omega arith in rw (z, y)
range_cut b (suc a) k =
    let z : suc a + k ≡ suc (a + k) = omega arith in
    let y : b + suc a ≡ b + 1 + a = omega arith in
    rw (z, y) (ap (λ (xs : List ℕ). b ∷ xs) (range_cut (b + 1) a k))

pub listed_cut : (r : ℕ → ℕ) (f : ℕ → Bool) (a k : ℕ) → listed r f (a + k) ≡ listed r f a ++ rest r f a k
unfolding listed
listed_cut r f a k =
    ap (λ (xs : List ℕ). map r (filter f xs)) (range_cut 0 a k) ∙ ap (map r) (filter_append f (range_with_len 0 a) (range_with_len (0 + a) k))
    ∙ map-append r _ _ ∙ ap (λ (b : ℕ). listed r f a ++ rest r f b k) (zero-add a)

pub length_listed : (r : ℕ → ℕ) (f : ℕ → Bool) (n : ℕ) → length (listed r f n) ≡ amount f n
unfolding listed amount
length_listed r f n = length-map (filter f (range_with_len 0 n)) r

pub amount_cut : (f : ℕ → Bool) (a k : ℕ) → amount f (a + k) ≡ amount f a + length (rest (λ x. x) f a k)
amount_cut f a k =
    sym (length_listed (λ x. x) f (a + k)) ∙ ap length (listed_cut (λ x. x) f a k) ∙ length-append (listed (λ x. x) f a) (rest (λ x. x) f a k)
    ∙ ap (λ (n : ℕ). n + length (rest (λ x. x) f a k)) (length_listed (λ x. x) f a)

pub amount_none : (f : ℕ → Bool) → amount f 0 ≡ 0
unfolding amount filter
amount_none f = refl

pub amount_more : (f : ℕ → Bool) (n : ℕ) → amount f (suc n) ≡ amount f n + cond (f n) 1 0
unfolding filter
amount_more f n =
    let z : suc n ≡ n + 1 = omega arith in
    ap (amount f) z ∙ amount_cut f n 1 ∙ elim (cases_Bool (f n)) [ inl y ↦ rw y | inr y ↦ rw y ]

pub amount_le : (f : ℕ → Bool) (n : ℕ) → amount f n ≤ n
amount_le f zero = let e = amount_none f in omega arith
amount_le f (suc n) = let ih = amount_le f n in let e = amount_more f n in grind arith

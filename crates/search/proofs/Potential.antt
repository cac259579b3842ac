-- Fuel: how many links a key has, and what all keys that are left have in all.
use Rattle.std.proofs.Common.{◌≡◌, ℕ, zero, suc, ◌+◌, ◌<◌, ◌≤◌, Bool, true, false, cond, eqb, ltb, List, [], ◌∷◌, length, ⊎_elim, arith}
use Rattle.search.proofs.Common.{Link, filter}
use Rattle.std.proofs.lemmas.Bool.{cases_eq}
use Rattle.std.proofs.lemmas.Bool.Decides.{nat_tests}

-- how many links the key k has
abbrev pub entries : (Link → ℕ) → ℕ → List Link → ℕ
entries g k ls = length (filter (λ l. eqb (g l) k) ls)

-- what the keys below n that aren't passed weigh
unfoldable pub weight : (ℕ → ℕ) → (ℕ → Bool) → ℕ → ℕ
weight v X zero = 0
weight v X (suc n) = weight v X n + cond (X n) 0 (v n)

pub weight_less : (v : ℕ → ℕ) (X Y : ℕ → Bool) (n : ℕ) → ((k : ℕ) → k < n → X k ≡ true → Y k ≡ true) → weight v Y n ≤ weight v X n
unfolding weight
weight_less v X Y zero h = omega arith
weight_less v X Y (suc n) h = let ih = weight_less v X Y n (λ k l. h k (omega arith)) in let t = h n (omega arith) in grind arith

-- one more is passed
pub weight_passed : (v : ℕ → ℕ) (X Y : ℕ → Bool) (n k : ℕ) → ((j : ℕ) → j < n → X j ≡ true → Y j ≡ true) → k < n → X k ≡ false → Y k ≡ true
    → weight v Y n + v k ≤ weight v X n
unfolding weight
weight_passed v X Y zero k h l x y = absurd (omega arith)
weight_passed v X Y (suc n) k h l x y =
    let w = weight_less v X Y n (λ j i. h j (omega arith)) in
    let ih = weight_passed v X Y n k (λ j i. h j (omega arith)) in
    let t = h n (omega arith) in
    ⊎_elim (λ (q : k ≡ n). grind arith) (λ q. grind arith) (cases_eq k n)

-- what a key costs: its links, and the end of its chain
abbrev pub cost : (Link → ℕ) → List Link → ℕ → ℕ
cost g ls k = entries g k ls + 1

-- a link adds to one key's cost
one_more : (u v : ℕ → ℕ) (X : ℕ → Bool) (a n : ℕ) → ((k : ℕ) → u k ≡ v k + cond (eqb a k) 1 0) → weight u X n ≤ weight v X n + cond (ltb a n) 1 0
unfolding weight
one_more u v X a zero h = omega arith
one_more u v X a (suc n) h = let ih = one_more u v X a n h in let e = h n in grind (arith, nat_tests)

ends_only : (g : Link → ℕ) (X : ℕ → Bool) (n : ℕ) → weight (cost g []) X n ≤ n
unfolding weight filter
ends_only g X zero = omega arith
ends_only g X (suc n) = let ih = ends_only g X n in grind arith

pub weight_all : (g : Link → ℕ) (X : ℕ → Bool) (n : ℕ) (ls : List Link) → weight (cost g ls) X n ≤ length ls + n
unfolding filter
weight_all g X n [] = let e = ends_only g X n in omega arith
weight_all g X n (l ∷ ls) =
    let ih = weight_all g X n ls in
    let o = one_more (cost g (l ∷ ls)) (cost g ls) X (g l) n (λ k. grind arith) in
    grind arith

-- Ways along links, and that rounds finds them, no more and no less.
use Rattle.std.proofs.Common.{◌≡◌, ℕ, zero, suc, ◌≤◌, Bool, true, false, cond, ◌&&◌, ◌||◌, eqb, List, [], ◌∷◌, ◌++◌, sym, refl, ◌∙◌, inl, inr, arith}
use Rattle.std.proofs.lemmas.Bool.{both_ways, or_cases, or_right}
use Rattle.order.specs.declared.board.Link.{Link}
use Rattle.order.specs.Lists.{any, has, with_all, flat}
use Rattle.order.specs.Board.{nexts, rounds}
use Rattle.order.proofs.Places.{has_append}

-- one of the links goes from a to b
abbrev pub joins : List Link → ℕ → ℕ → Bool
joins ls a b = any (λ l. eqb l.from a && eqb l.to b) ls

-- a way of n links from a to b
abbrev pub Way : List Link → ℕ → ℕ → ℕ → Type 0
Way ls zero a b = a ≡ b
Way ls (suc n) a b = (c : ℕ) × (joins ls a c ≡ true) × Way ls n c b

pub way_join : (ls : List Link) (m n a b c : ℕ) → Way ls m a b → Way ls n b c → (k : ℕ) × Way ls k a c
way_join ls zero n a b c v w = (n, rw (← v) at w)
way_join ls (suc m) n a b c v w = let z = way_join ls m n v.0 b c v.2 w in (suc z.0, (v.0, v.1, z.1))

-- what one round finds
pub has_with_all : (js ks : List ℕ) (k : ℕ) → has (with_all js ks) k ≡ (has js k || has ks k)
unfolding with_all any
has_with_all [] ks k = refl
has_with_all (j ∷ js) ks k =
    let ih = has_with_all js (cond (has ks j) ks (ks ++ j ∷ [])) k in
    let e = has_append ks (j ∷ []) k in
    grind arith

pub has_nexts : (ls : List Link) (k j : ℕ) → has (nexts ls k) j ≡ joins ls k j
unfolding nexts any
has_nexts [] k j = refl
has_nexts (l ∷ ls) k j = let ih = has_nexts ls k j in grind arith

pub has_flat : (f : ℕ → List ℕ) (xs : List ℕ) (x y : ℕ) → has xs x ≡ true → has (f x) y ≡ true → has (flat f xs) y ≡ true
unfolding flat any
has_flat f [] x y h e = grind arith
has_flat f (z ∷ xs) x y h e =
    let ih = has_flat f xs x y in
    let s = has_append (f z) (flat f xs) y in
    grind arith

pub flat_has : (f : ℕ → List ℕ) (xs : List ℕ) (y : ℕ) → has (flat f xs) y ≡ true → (x : ℕ) × (has xs x ≡ true) × (has (f x) y ≡ true)
unfolding flat any
flat_has f [] y h = absurd (both_ways false refl h)
flat_has f (z ∷ xs) y h =
    elim (or_cases _ _ (sym (has_append (f z) (flat f xs) y) ∙ h)) [
      | inl t ↦ (z, grind arith, t)
      | inr t ↦ let w = flat_has f xs y t in (w.0, or_right _ _ w.1, w.2)
    ]

-- what rounds finds has a way, and what has a way is found
pub rounds_way : (ls : List Link) (n : ℕ) (ks : List ℕ) (y : ℕ) → has (rounds ls n ks) y ≡ true →
    (m : ℕ) × (k : ℕ) × (m ≤ n) × (has ks k ≡ true) × Way ls m k y
unfolding rounds
rounds_way ls zero ks y h = (0, y, omega arith, h, refl)
rounds_way ls (suc n) ks y h =
    let w = rounds_way ls n (with_all (flat (nexts ls) ks) ks) y h in
    elim (or_cases _ _ (sym (has_with_all (flat (nexts ls) ks) ks w.1) ∙ w.3)) [
      | inl t ↦
          let z = flat_has (nexts ls) ks w.1 t in
          (suc w.0, z.0, omega arith, z.1, (w.1, sym (has_nexts ls z.0 w.1) ∙ z.2, w.4))
      | inr t ↦ (w.0, w.1, omega arith, t, w.4)
    ]

pub way_rounds : (ls : List Link) (n : ℕ) (ks : List ℕ) (m k y : ℕ) → m ≤ n → has ks k ≡ true → Way ls m k y → has (rounds ls n ks) y ≡ true
unfolding rounds
way_rounds ls zero ks zero k y l h w = rw w at h
way_rounds ls zero ks (suc m) k y l h w = absurd (omega arith)
way_rounds ls (suc n) ks zero k y l h w =
    way_rounds ls n (with_all (flat (nexts ls) ks) ks) zero k y (omega arith) (has_with_all (flat (nexts ls) ks) ks k ∙ or_right _ _ h) w
way_rounds ls (suc n) ks (suc m) k y l h w =
    let e = has_flat (nexts ls) ks k w.0 h (has_nexts ls k w.0 ∙ w.1) in
    let s = has_with_all (flat (nexts ls) ks) ks w.0 in
    way_rounds ls n (with_all (flat (nexts ls) ks) ks) m w.0 y (omega arith) (grind arith) w.2

-- The binary digits of a number: one of them turned, the lowest and the highest that is set.
use Rattle.std.proofs.Common.{◌≡◌, ℕ, zero, suc, ◌+◌, ◌-◌, ◌*◌, ◌/◌, ◌%◌, ◌^◌, ◌<◌, ◌≤◌, true, false, not, eqb, ◌≢◌, sym, refl, ap, ◌∙◌, subst, ⊎_elim, pow-suc, w64, arith}
use native.Mathlib.Nat.{div-eq_of_lt}
use lib.Bits.{bit_and, bit_xor, and_mask}
use lib.Count.{count_leading_zeros, count_trailing_zeros, leading_top}
use lib.Pow.{mod-mod-pow}
use Rattle.std.specs.Int.{bit_at}
use Rattle.std.proofs.lemmas.Nat.{shr-shr, shr_high, shr_below, pow_pos, field_of}
use Rattle.std.proofs.lemmas.Nat.Bits.{bit_at_xor, bit_at-pow_same, bit_at-pow_other, bit_at-trailing_zeros, ones_shr}
use Rattle.std.proofs.lemmas.Bool.{cases_lt, both_ways}
use Rattle.std.proofs.lemmas.Bool.Decides.{nat_tests}
use Rattle.memory.specs.PlaceSets.{digit}

-- The digits of a number that is shifted down, and of one that is cut off.
pub digit_shr : (w i t : ℕ) → digit (w / 2 ^ i) t ≡ digit w (i + t)
unfolding digit
digit_shr w i t = ap (λ (v : ℕ). eqb (v % 2) 1) (shr-shr w i t)

pub digit_mod : (w n t : ℕ) → t < n → digit (w % 2 ^ n) t ≡ digit w t
unfolding digit
digit_mod w n t h =
    let k : ℕ = n - (t + 1) in
    let e : n ≡ k + 1 + t = omega arith in
    ap (λ (x : ℕ). eqb (w % 2 ^ x / 2 ^ t % 2) 1) e ∙ ap (λ (v : ℕ). eqb (v % 2) 1) (field_of w (k + 1) t)
    ∙ ap (λ (v : ℕ). eqb v 1) (mod-mod-pow (w / 2 ^ t) k 1)

pub digit_zero : (w t : ℕ) → w ≡ 0 → digit w t ≡ false
unfolding digit
digit_zero w t e = ap (λ (v : ℕ). eqb (v / 2 ^ t % 2) 1) e ∙ ap (λ (v : ℕ). eqb (v % 2) 1) (div-eq_of_lt (pow_pos t))

pub digit_above : (w i t : ℕ) → w / 2 ^ i ≡ 0 → i ≤ t → digit w t ≡ false
digit_above w i t e h =
    let k : i + (t - i) ≡ t = omega arith in
    sym (ap (digit w) k) ∙ sym (digit_shr w i (t - i)) ∙ digit_zero (w / 2 ^ i) (t - i) e

-- One digit turned.
xor_one : (d : ℕ) → d < 2 → eqb ((d + 1) % 2) 1 ≡ not (eqb d 1)
xor_one zero h = refl
xor_one (suc zero) h = refl
xor_one (suc (suc d)) h = absurd (omega arith)

pub digit_turned : (w s : ℕ) → digit (bit_xor w (2 ^ s)) s ≡ not (digit w s)
unfolding digit
digit_turned w s =
    ap (λ (n : ℕ). eqb n 1) (bit_at_xor w (2 ^ s) s ∙ ap (λ (n : ℕ). (bit_at w s + n) % 2) (bit_at-pow_same s)) ∙ xor_one (bit_at w s) (omega arith)

pub digit_kept : (w s t : ℕ) → s ≢ t → digit (bit_xor w (2 ^ s)) t ≡ digit w t
unfolding digit
digit_kept w s t ne =
    let e : bit_at (bit_xor w (2 ^ s)) t ≡ bit_at w t = omega (arith, bit_at_xor w (2 ^ s) t, bit_at-pow_other s t (λ i. ne (sym i))) in
    ap (λ (n : ℕ). eqb n 1) e

-- The lowest digit that is set.
abbrev pub Lowest : ℕ → ℕ → ℕ → Type 0
Lowest k v q = (q < k) × (digit v q ≡ true) × ((t : ℕ) → t < q → digit v t ≡ false)

digit_is : (v t : ℕ) → (bit_at v t ≡ 1 → digit v t ≡ true) × (bit_at v t ≡ 0 → digit v t ≡ false)
unfolding digit
digit_is v t = (λ e. grind (arith, nat_tests), λ e. grind (arith, nat_tests))

pub trailing_first : (w i : ℕ) → i < 64 → w < 2 ^ 64 → (w / 2 ^ i ≡ 0 → ⊥) → Lowest (64 - i) (w / 2 ^ i) (count_trailing_zeros 64 (w / 2 ^ i))
trailing_first w i h fits nz =
    let v = w / 2 ^ i in
    let e : 64 - i + i ≡ 64 = omega arith in
    let small : v < 2 ^ (64 - i) = shr_below w (64 - i) i (rw e fits) in
    let z = bit_at-trailing_zeros w64 v (omega arith) (omega arith) in
    let set = (digit_is v (count_trailing_zeros 64 v)).0 z.1 in (
      ⊎_elim (λ l. l)
          (λ l. absurd (both_ways (digit v (count_trailing_zeros 64 v)) (digit_above v (64 - i) (count_trailing_zeros 64 v) (div-eq_of_lt small) l) set))
          (cases_lt (count_trailing_zeros 64 v) (64 - i)),
      set,
      λ t l. (digit_is v t).1 (z.2 t l),
    )

-- The highest digit that is set.
abbrev pub Highest : ℕ → ℕ → Type 0
Highest v q = (digit v q ≡ true) × ((t : ℕ) → q < t → digit v t ≡ false)

digit_top : (v j : ℕ) → 2 ^ j ≤ v → v < 2 ^ suc j → digit v j ≡ true
unfolding digit
digit_top v j lo hi =
    let two : 2 ^ suc j ≡ 2 ^ j * 2 = pow-suc 2 j in
    let rest : v - 2 ^ j < 2 ^ j = omega arith in
    let e : v ≡ 1 * 2 ^ j + (v - 2 ^ j) = omega arith in
    ap (λ (x : ℕ). eqb (x % 2) 1) (ap (λ (x : ℕ). x / 2 ^ j) e ∙ shr_high 1 j (v - 2 ^ j) rest)

pub leading_highest : (v : ℕ) → v < 2 ^ 64 → (v ≡ 0 → ⊥) → Highest v (63 - count_leading_zeros 64 v)
leading_highest v h nz =
    let top = leading_top 64 v (omega arith) h in
    let e : top.0 ≡ 63 - count_leading_zeros 64 v = omega arith in
    subst (Highest v) e (digit_top v top.0 top.2 top.3, λ t l. digit_above v (suc top.0) t (div-eq_of_lt top.3) l)

-- The digits up to t, by a mask.
pub masked : (w t : ℕ) → t < 64 → bit_and w (18446744073709551615 / 2 ^ (63 - t)) ≡ w % 2 ^ (t + 1)
masked w t h =
    let e : 64 - (63 - t) ≡ t + 1 = omega arith in
    ap (bit_and w) (ones_shr 64 (63 - t) (omega arith) ∙ ap (λ (n : ℕ). 2 ^ n - 1) e) ∙ and_mask w (t + 1)

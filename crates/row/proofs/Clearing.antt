-- The lowest set bit of a word is taken away: which bits stay, and how many.
use Rattle.std.proofs.Common.{◌≡◌, ℕ, zero, suc, ◌+◌, ◌-◌, ◌/◌, ◌%◌, ◌^◌, ◌<◌, not, ◌&&◌, eqb, refl, sym, ap, ◌∙◌, inl, inr, arith}
use Rattle.std.proofs.lemmas.Bool.{cases_eq}
use Rattle.std.proofs.lemmas.Bool.Decides.{nat_tests}
use Rattle.std.proofs.lemmas.Nat.{shr-shr}
use native.Mathlib.Numerals.{one-add}
use lib.Bits.{bit_and, and_step, and_self}
use lib.Count.{count_trailing_zeros, ones, ones_step}
use Rattle.row.specs.Meaning.{digit}

abbrev cleared : ℕ → ℕ
cleared b = bit_and b (b - 1)

digit_zeroth : (x : ℕ) → digit x 0 ≡ eqb (x % 2) 1
unfolding digit
digit_zeroth x = ap (λ (y : ℕ). eqb (y % 2) 1) (let e : x / 1 ≡ x = omega arith in e)

digit_half : (x i : ℕ) → digit x (suc i) ≡ digit (x / 2) i
unfolding digit
digit_half x i = ap (λ (y : ℕ). eqb (y % 2) 1) (ap (λ (j : ℕ). x / 2 ^ j) (sym (one-add i)) ∙ sym (shr-shr x 1 i))

eqb_suc : (i t : ℕ) → eqb (suc i) (suc t) ≡ eqb i t
eqb_suc i t = grind (arith, nat_tests)

-- an odd number, and one that isn't
odd_cleared : (b : ℕ) → b % 2 ≡ 1 → (cleared b % 2 ≡ 0) × (cleared b / 2 ≡ b / 2)
odd_cleared b e =
    let h : (b - 1) / 2 ≡ b / 2 = omega arith in
    let s = and_step b (b - 1) in
    let f = ap (bit_and (b / 2)) h ∙ and_self (b / 2) in
    (omega arith, omega arith)

even_cleared : (b : ℕ) → 0 < b → b % 2 ≡ 0 → (cleared b % 2 ≡ 0) × (cleared b / 2 ≡ cleared (b / 2))
even_cleared b p e =
    let h : (b - 1) / 2 ≡ b / 2 - 1 = omega arith in
    let s = and_step b (b - 1) in
    let f = ap (bit_and (b / 2)) h in
    (omega arith, omega arith)

pub digit_cleared : (n b j : ℕ) → 0 < b → b < 2 ^ n → digit (cleared b) j ≡ (digit b j && not (eqb j (count_trailing_zeros n b)))
unfolding count_trailing_zeros
digit_cleared zero b j p l = absurd (omega arith)
digit_cleared (suc n) b zero p l = elim (cases_eq (b % 2) 0) [
  | inl e ↦
      let c = even_cleared b p e in let d = digit_zeroth b in let f = digit_zeroth (cleared b) in
      let x = c.0 in grind (arith, nat_tests)
  | inr ne ↦
      let o : b % 2 ≡ 1 = omega arith in
      let c = odd_cleared b o in let f = digit_zeroth (cleared b) in
      let x = c.0 in rw o (grind (arith, nat_tests))
]
digit_cleared (suc n) b (suc i) p l = elim (cases_eq (b % 2) 0) [
  | inl e ↦
      let c = even_cleared b p e in
      digit_half (cleared b) i ∙ ap (λ (x : ℕ). digit x i) c.1 ∙ digit_cleared n (b / 2) i (omega arith) (omega arith)
      ∙ rw e (let d = digit_half b i in let s = eqb_suc i (count_trailing_zeros n (b / 2)) in grind arith)
  | inr ne ↦
      let o : b % 2 ≡ 1 = omega arith in
      let c = odd_cleared b o in
      rw o (let d = digit_half b i in let f = digit_half (cleared b) i ∙ ap (λ (x : ℕ). digit x i) c.1 in grind (arith, nat_tests))
]

pub ones_cleared : (n b : ℕ) → 0 < b → b < 2 ^ n → ones b ≡ ones (cleared b) + 1
ones_cleared zero b p l = absurd (omega arith)
ones_cleared (suc n) b p l = elim (cases_eq (b % 2) 0) [
  | inl e ↦
      let c = even_cleared b p e in
      let s = ones_step b in let t = ones_step (cleared b) in
      let i = ones_cleared n (b / 2) (omega arith) (omega arith) in
      let o = ap ones c.1 in let z = c.0 in omega arith
  | inr ne ↦
      let q : b % 2 ≡ 1 = omega arith in
      let c = odd_cleared b q in
      let s = ones_step b in let t = ones_step (cleared b) in
      let o = ap ones c.1 in let z = c.0 in omega arith
]

pub some_ones : (b : ℕ) → 0 < ones b → 0 < b
unfolding ones
some_ones zero h = h
some_ones (suc b) h = omega arith

pub no_ones : (b : ℕ) → b < 2 ^ 64 → ones b ≡ 0 → b ≡ 0
no_ones zero l e = refl
no_ones (suc b) l e = let c = ones_cleared 64 (suc b) (omega arith) l in absurd (omega arith)

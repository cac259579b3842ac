-- A set bit of a word is looked for by halves.
use Rattle.std.proofs.Common.{◌≡◌, ℕ, ◌+◌, ◌-◌, ◌*◌, ◌%◌, ◌^◌, ◌<◌, ◌≤◌, true, ◌&&◌, eqb, List, ap, ◌∙◌, add-one, inl, inr, arith}
use Rattle.std.proofs.lemmas.Bool.{cases_Bool, eq-eqb, ne_eqb, and_from}
use native.Mathlib.Nat.{mod-eq_of_lt}
use lib.Bits.{bit_and}
use lib.Count.{ones}
use Rattle.std.proofs.lemmas.Nat.{and_mask, one_shl}
use Rattle.memory.specs.Columns.{cell}
use Rattle.row.specs.declared.layout.TheConstants.{SEATS_MOST, WORDS, TAKEN}
use Rattle.row.specs.Meaning.{digit, taken, rank}
use Rattle.row.specs.Telling.{Between, selected}
use Rattle.row.proofs.Along.{amount_before}
use Rattle.row.proofs.Firsts.{first_is, first_none}
use Rattle.row.proofs.Counting.{ones_more, ones_none, taken_at, rank_in}

pub below_is : (w k : ℕ) → k < 64 → ones (bit_and w (1 * 2 ^ k % 18446744073709551616 - 1)) ≡ ones (w % 2 ^ k)
below_is w k h = ap (λ (x : ℕ). ones (bit_and w (x - 1))) (one_shl k 64 h) ∙ ap ones (and_mask w k)

pub upper : (w n a k : ℕ) → ones (w % 2 ^ (a + k)) ≤ n → Between w n a (k + k) → Between w n (a + k) k
upper w n a k h b =
    let e : a + (k + k) ≡ a + k + k = omega arith in
    let f = ap (λ (x : ℕ). ones (w % 2 ^ x)) e in
    let u = b.1 in
    (h, omega arith)

pub lower : (w n a k : ℕ) → n < ones (w % 2 ^ (a + k)) → Between w n a (k + k) → Between w n a k
lower w n a k h b = (b.0, h)

pub whole : (w n : ℕ) → w < 2 ^ 64 → n < ones w → Between w n 0 64
whole w n fits h = let a = ones_none w in let b = ap ones (mod-eq_of_lt fits) in (omega arith, omega arith)

-- the one that is left is set, and stands behind so many
pub one_left : (w n a : ℕ) → Between w n a 1 → (digit w a ≡ true) × (ones (w % 2 ^ a) ≡ n)
one_left w n a b =
    let m = ones_more w a in
    let e = ap (λ (x : ℕ). ones (w % 2 ^ x)) (add-one a) in
    let l = b.0 in let u = b.1 in
    (grind arith, grind arith)

module _ (m : List ℕ) where
  -- a taken seat is the one that has so many before it
  pub selected_is : (n q : ℕ) → q < SEATS_MOST → taken m q ≡ true → rank m q ≡ n → selected m n ≡ q
  unfolding selected
  selected_is n q h t r =
      first_is (λ p. taken m p && eqb (rank m p) n) SEATS_MOST 0 q (omega arith) (omega arith) (and_from _ _ t (eq-eqb _ _ r))
      (λ p _ k. elim (cases_Bool (taken m p)) [
        | inl y ↦ let x = amount_before (taken m) p q k y in let z = ne_eqb (rank m p) n (λ e. omega arith) in grind arith
        | inr y ↦ grind arith
      ])

  pub selected_here : (word n before at : ℕ) → word < WORDS → before ≡ rank m (word * 64) → before ≤ n → at < 64 →
      Between (cell m TAKEN word) (n - before) at 1 → selected m n ≡ word * 64 + at
  selected_here word n before at h b l u law =
      let w = one_left (cell m TAKEN word) (n - before) at law in
      selected_is n (word * 64 + at) (omega arith) (taken_at m word at u ∙ w.0) (rank_in m word at (omega arith) ∙ omega (arith, w.1))

  -- there is none, if not so many are taken
  pub selected_none : (n : ℕ) → rank m SEATS_MOST ≤ n → selected m n ≡ SEATS_MOST
  unfolding selected
  selected_none n l =
      first_none (λ p. taken m p && eqb (rank m p) n) SEATS_MOST 0
      (λ p _ k. elim (cases_Bool (taken m p)) [
        | inl y ↦ let x = amount_before (taken m) p SEATS_MOST (omega arith) y in let z = ne_eqb (rank m p) n (λ e. omega arith) in grind arith
        | inr y ↦ grind arith
      ])
      ∙ omega arith

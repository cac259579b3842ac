-- The ones of a word are the taken seats of its 64.
use Rattle.std.proofs.Common.{◌≡◌, ℕ, zero, suc, ◌+◌, ◌-◌, ◌*◌, ◌/◌, ◌%◌, ◌^◌, ◌<◌, ◌≤◌, min, Bool, cond, eqb, ltb, List, length, get_or, take, drop, length-drop, inl, inr, sym, refl, ap, ◌∙◌, arith}
use native.Mathlib.Nat.{mod-eq_of_lt}
use lib.Bits.{bit_and}
use lib.Count.{ones, ones_cat}
use Rattle.std.proofs.lemmas.Nat.{mod-pow-add, div-add-mod', and_mask, one_shl, mod_below, pow_pos}
use Rattle.std.proofs.lemmas.Bool.{cases_lt, cond_both}
use Rattle.std.proofs.lemmas.Bool.Decides.{nat_tests}
use Rattle.std.proofs.lemmas.List.{length-take-le, get_or-take, get_or-drop}
use Rattle.memory.specs.Columns.{cell}
use Rattle.row.specs.declared.layout.TheConstants.{SEATS_MOST, WORDS, TAKEN}
use Rattle.row.specs.Meaning.{digit, bit_set, taken, rank, placed, count, ending}
use Rattle.row.proofs.Listing.{amount_cut, amount_more, amount_none, amount_le}
use Rattle.row.proofs.Along.{amount_gap}
use Rattle.row.proofs.Words.{none_past}

ones_bit : (b : ℕ) → b < 2 → ones b ≡ cond (eqb b 1) 1 0
unfolding ones
ones_bit zero h = refl
ones_bit (suc zero) h = refl
ones_bit (suc (suc b)) h = absurd (omega arith)

-- one digit more
pub ones_more : (w k : ℕ) → ones (w % 2 ^ suc k) ≡ ones (w % 2 ^ k) + cond (digit w k) 1 0
unfolding digit
ones_more w k =
    let e : 1 + k ≡ suc k = omega arith in
    let b : w / 2 ^ k % 2 < 2 = omega arith in
    let s = ones_bit (w / 2 ^ k % 2) b in
    let c = ones_cat k (w / 2 ^ k % 2) (w % 2 ^ k) (mod_below w (2 ^ k) (pow_pos k)) in
    ap (λ (n : ℕ). ones (w % 2 ^ n)) (sym e) ∙ ap ones (mod-pow-add w 1 k) ∙ c ∙ omega arith

pub taken_at : (m : List ℕ) (w k : ℕ) → k < 64 → taken m (w * 64 + k) ≡ digit (cell m TAKEN w) k
unfolding bit_set
taken_at m w k h =
    let d : (w * 64 + k) / 64 ≡ w = omega arith in
    let r : (w * 64 + k) % 64 ≡ k = omega arith in
    ap (λ (x : ℕ). digit (cell m TAKEN x) ((w * 64 + k) % 64)) d ∙ ap (digit (cell m TAKEN w)) r

-- the first k seats of a word
pub rank_in : (m : List ℕ) (w k : ℕ) → k ≤ 64 → rank m (w * 64 + k) ≡ rank m (w * 64) + ones (cell m TAKEN w % 2 ^ k)
rank_in m w zero h =
    let e : w * 64 + 0 ≡ w * 64 = omega arith in
    let z : cell m TAKEN w % 2 ^ 0 ≡ 0 = omega arith in
    let o = ones_bit 0 (omega arith) in
    ap (rank m) e ∙ rw z (omega arith)
rank_in m w (suc k) h =
    let e : w * 64 + suc k ≡ suc (w * 64 + k) = omega arith in
    let ih = rank_in m w k (omega arith) in
    let s = amount_more (taken m) (w * 64 + k) in
    let o = ones_more (cell m TAKEN w) k in
    let t = taken_at m w k (omega arith) in
    ap (rank m) e ∙ s ∙ ap (λ (b : Bool). rank m (w * 64 + k) + cond b 1 0) t ∙ omega arith

-- a whole word
pub rank_word : (m : List ℕ) (w : ℕ) → cell m TAKEN w < 2 ^ 64 → rank m ((w + 1) * 64) ≡ rank m (w * 64) + ones (cell m TAKEN w)
rank_word m w h =
    let e : (w + 1) * 64 ≡ w * 64 + 64 = omega arith in
    ap (rank m) e ∙ rank_in m w 64 (omega arith) ∙ ap (λ (n : ℕ). rank m (w * 64) + ones n) (mod-eq_of_lt h)

pub rank_beyond : (m : List ℕ) (p : ℕ) → SEATS_MOST ≤ p → rank m p ≡ rank m SEATS_MOST
rank_beyond m p l = amount_gap (taken m) SEATS_MOST p l (λ r u _. none_past m r u)

pub rank_last : (m : List ℕ) (p : ℕ) → rank m (min p SEATS_MOST) ≡ rank m p
rank_last m p = elim (cases_lt p SEATS_MOST) [
  | inl l ↦ ap (rank m) (omega arith)
  | inr l ↦ let e : min p SEATS_MOST ≡ SEATS_MOST = omega arith in ap (rank m) e ∙ sym (rank_beyond m p l)
]

-- what the code reads of the last word: the digits below the seat's, by a mask
pub rank_part : (m : List ℕ) (p : ℕ) →
    rank m (p / 64 * 64) + ones (bit_and (cell m TAKEN (p / 64)) (1 * 2 ^ (p % 64) % 18446744073709551616 - 1)) ≡ rank m p
rank_part m p =
    let w = cell m TAKEN (p / 64) in
    let e : p / 64 * 64 + p % 64 ≡ p = omega arith in
    let s : 1 * 2 ^ (p % 64) % 18446744073709551616 ≡ 2 ^ (p % 64) = one_shl (p % 64) 64 (omega arith) in
    ap (λ (x : ℕ). rank m (p / 64 * 64) + ones (bit_and w (x - 1))) s ∙ ap (λ (x : ℕ). rank m (p / 64 * 64) + ones x) (and_mask w (p % 64))
    ∙ sym (rank_in m (p / 64) (p % 64) (omega arith)) ∙ ap (rank m) e

pub rank_le : (m : List ℕ) (p : ℕ) → rank m p ≤ p
rank_le m p = amount_le (taken m) p

pub rank_zero : (m : List ℕ) → rank m (0 * 64) ≡ 0
rank_zero m = amount_none (taken m)

-- what is left of a word from a seat on
pub rank_rest : (m : List ℕ) (p : ℕ) → cell m TAKEN (p / 64) < 2 ^ 64 →
    rank m p + ones (cell m TAKEN (p / 64) / 2 ^ (p % 64)) ≡ rank m ((p / 64 + 1) * 64)
rank_rest m p h =
    let w : ℕ = cell m TAKEN (p / 64) in
    let k : ℕ = p % 64 in
    let e : p / 64 * 64 + p % 64 ≡ p = omega arith in
    let c = ones_cat k (w / 2 ^ k) (w % 2 ^ k) (mod_below w (2 ^ k) (pow_pos k)) in
    let o = ap ones (div-add-mod' w (2 ^ k)) in
    let i = rank_in m (p / 64) (p % 64) (omega arith) in
    let r = ap (rank m) e in
    let n = rank_word m (p / 64) h in
    omega arith

pub rank_up : (m : List ℕ) (p q : ℕ) → p ≤ q → rank m p ≤ rank m q
rank_up m p q h = let e : p + (q - p) ≡ q = omega arith in let c = amount_cut (taken m) p (q - p) in let r = ap (rank m) e in omega arith

-- the words from one on, as a slice of the memory
pub words_are : (m : List ℕ) (first end : ℕ) → first ≤ end → end ≤ WORDS → TAKEN.base + TAKEN.size ≤ length m →
    length (take (TAKEN.base + end - (TAKEN.base + first)) (drop (TAKEN.base + first) m)) ≡ end - first
words_are m first end f h l =
    let e : TAKEN.base + end - (TAKEN.base + first) ≡ end - first = omega arith in
    let d = length-drop (TAKEN.base + first) m in
    ap (λ (k : ℕ). length (take k (drop (TAKEN.base + first) m))) e ∙ length-take-le (end - first) (drop (TAKEN.base + first) m) (omega arith)

pub word_is : (m : List ℕ) (first end i : ℕ) → end ≤ WORDS → first + i < end →
    get_or (take (TAKEN.base + end - (TAKEN.base + first)) (drop (TAKEN.base + first) m)) i 0 ≡ cell m TAKEN (first + i)
unfolding cell
word_is m first end i h l =
    let g = get_or-take (TAKEN.base + end - (TAKEN.base + first)) (drop (TAKEN.base + first) m) i 0 (omega arith) in
    let d = get_or-drop (TAKEN.base + first) m i 0 in
    let e : TAKEN.base + first + i ≡ TAKEN.base + (first + i) = omega arith in
    g ∙ d ∙ ap (λ (x : ℕ). get_or m x 0) e ∙ grind (arith, nat_tests)

pub ones_none : (w : ℕ) → ones (w % 2 ^ 0) ≡ 0
ones_none w = let z : w % 2 ^ 0 ≡ 0 = omega arith in ap ones z ∙ ones_bit 0 (omega arith)

-- a place is no more than the seat, or than the cards
pub placed_below : (m : List ℕ) (p b : ℕ) → p < b → count m < b → placed m p < b
unfolding placed
placed_below m p b l k =
    let r = rank_le m p in cond_both (ltb p (ending m / 2)) (rank m p) _ (λ (x : ℕ). x < b) (λ _. omega arith) (λ _. omega arith)

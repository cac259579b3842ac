-- The seats of a word that are still to come: the first of them, what is still to come behind it, and when none is.
use Rattle.std.proofs.Common.{◌≡◌, ℕ, ◌+◌, ◌-◌, ◌*◌, ◌/◌, ◌%◌, ◌^◌, ◌<◌, ◌≤◌, true, false, leb, eqb, List, slice_index, add-zero, sym, ap, ◌∙◌, inl, inr, w64, arith}
use lib.Bits.{bit_and}
use lib.Count.{count_trailing_zeros}
use Rattle.std.specs.Int.{bit_at}
use Rattle.std.proofs.lemmas.Nat.{and_le_l, shr-shr, pow_pos, mod_below}
use Rattle.std.proofs.lemmas.Nat.Bits.{bit_at-trailing_zeros, bit_at_cat_low, bit_at_cat_high, bit_at-zero}
use Rattle.std.proofs.lemmas.Bool.{cases_lt, cases_order}
use Rattle.std.proofs.lemmas.Bool.Decides.{nat_tests}
use Rattle.memory.specs.Columns.{cell}
use Rattle.memory.specs.PlaceSets.{digit as binary}
use Rattle.memory.proofs.Words.{digit_mod}
use Rattle.row.specs.declared.layout.TheConstants.{SEATS_MOST, SLOTS, TAKEN}
use Rattle.row.specs.Meaning.{digit, taken, rank}
use Rattle.row.specs.Laws.{Next}
use Rattle.row.specs.Telling.{next_seat, selected, Coming}
use Rattle.row.proofs.Along.{amount_gap}
use Rattle.row.proofs.Listing.{amount_none}
use Rattle.row.proofs.Counting.{taken_at}
use Rattle.row.proofs.Clearing.{digit_cleared}
use Rattle.row.proofs.Firsts.{next_is, next_holds, next_here}
use Rattle.row.proofs.Halving.{selected_is, selected_none}
use Rattle.row.proofs.Words.{taken_low}

bit_digit : (v t : ℕ) → (bit_at v t ≡ 1 → digit v t ≡ true) × (bit_at v t ≡ 0 → digit v t ≡ false)
unfolding digit
bit_digit v t = (λ e. grind (arith, nat_tests), λ e. grind (arith, nat_tests))

module _ (m : List ℕ) (w p r : ℕ) (C : Coming m w p r) where
  -- the first, and what is behind it
  module _ (some : 0 < r) where
    abbrev t : ℕ
    t = count_trailing_zeros 64 r

    pub lowest : (t < 64) × (bit_at r t ≡ 1) × ((i : ℕ) → i < t → bit_at r i ≡ 0)
    lowest = bit_at-trailing_zeros w64 r some C.0

    first_here : (leb p (w * 64 + t) ≡ true) × (taken m (w * 64 + t) ≡ true)
    first_here = let e = sym (C.1 t lowest.0) ∙ (bit_digit r t).0 lowest.1 in (grind (arith, nat_tests), grind (arith, nat_tests))

    none_before : (s : ℕ) → p ≤ s → w * 64 ≤ s → s < w * 64 + t → taken m s ≡ false
    none_before s a l b =
        let j = s - w * 64 in
        let low = lowest.0 in
        let e : w * 64 + j ≡ s = omega arith in
        let d = sym (C.1 j (omega arith)) ∙ (bit_digit r j).1 (lowest.2 j (omega arith)) in
        rw e at (let k : leb p (w * 64 + j) ≡ true = grind (arith, nat_tests) in let f : taken m (w * 64 + j) ≡ false = grind (arith, nat_tests) in f)

    pub coming_low : w * 64 + t < SEATS_MOST
    coming_low = taken_low m (w * 64 + t) first_here.1

    pub coming_first : w * 64 ≤ p → w * 64 + t ≡ next_seat m p
    coming_first l =
        let k = coming_low in
        let h = first_here.0 in
        next_is m p (w * 64 + t) (record {
          room = omega arith;
          here = λ _. first_here.1;
          first = λ s a b. none_before s a (omega arith) b;
          from = λ _. grind (arith, nat_tests);
        })

    pub coming_behind : Coming m w (w * 64 + t + 1) (bit_and r (r - 1))
    coming_behind = (
      let a = and_le_l r (r - 1) in let b = C.0 in omega arith,
      λ j l.
          let c = digit_cleared 64 r j some C.0 in
          let d = C.1 j l in
          let h = first_here.0 in
          elim (cases_order j t) [
            | inl e ↦ grind (arith, nat_tests)
            | inr (inl b) ↦ let z = (bit_digit r j).1 (lowest.2 j b) in grind (arith, nat_tests)
            | inr (inr b) ↦ grind (arith, nat_tests)
          ],
    )

  -- none is to come any more
  pub coming_none : r ≡ 0 → w * 64 ≤ p → p ≤ w * 64 + 64 → next_seat m p ≡ next_seat m ((w + 1) * 64)
  coming_none z l u =
      let q = next_seat m ((w + 1) * 64) in
      let x = next_holds m ((w + 1) * 64) in
      sym (next_is m p q (record {
        room = x.room;
        here = x.here;
        first = λ s a b. elim (cases_lt s ((w + 1) * 64)) [
          | inl k ↦
              let j = s - w * 64 in
              let e : w * 64 + j ≡ s = omega arith in
              let y = C.1 j (omega arith) in
              let f : digit r j ≡ false = (bit_digit r j).1 (ap (λ (v : ℕ). bit_at v j) z ∙ bit_at-zero j) in
              rw e at (let g : leb p (w * 64 + j) ≡ true = grind (arith, nat_tests) in let h : taken m (w * 64 + j) ≡ false = grind (arith, nat_tests) in h)
          | inr k ↦ x.first s (omega arith) b
        ];
        from = λ i. let y = x.from i in omega arith;
      }))

-- a word from a seat on
low_digit : (w n t : ℕ) → t < n → digit (w % 2 ^ n) t ≡ digit w t
unfolding digit binary
low_digit w n t h = digit_mod w n t h

none_low : (w k j : ℕ) → j < k → digit (w / 2 ^ k * 2 ^ k) j ≡ false
none_low w k j h =
    (bit_digit (w / 2 ^ k * 2 ^ k) j).1
    (ap (λ (v : ℕ). bit_at v j) (sym (add-zero (w / 2 ^ k * 2 ^ k))) ∙ bit_at_cat_low (w / 2 ^ k) k 0 j h ∙ bit_at-zero j)

same_high : (w k j : ℕ) → k ≤ j → digit (w / 2 ^ k * 2 ^ k) j ≡ digit w j
unfolding digit
same_high w k j h =
    let e : k + (j - k) ≡ j = omega arith in
    let c = bit_at_cat_high (w / 2 ^ k) k 0 j (pow_pos k) h in
    ap (λ (v : ℕ). eqb (v / 2 ^ j % 2) 1) (sym (add-zero (w / 2 ^ k * 2 ^ k))) ∙ ap (λ (v : ℕ). eqb v 1) c
    ∙ ap (λ (v : ℕ). eqb (v % 2) 1) (shr-shr w k (j - k)) ∙ ap (λ (i : ℕ). eqb (w / 2 ^ i % 2) 1) e

pub coming_all : (m : List ℕ) (p : ℕ) → Coming m (p / 64) p (cell m TAKEN (p / 64) / 2 ^ (p % 64) * 2 ^ (p % 64) % 2 ^ 64)
coming_all m p = (
  mod_below _ (2 ^ 64) (pow_pos 64),
  λ j l.
      let w = cell m TAKEN (p / 64) in
      let d = low_digit (w / 2 ^ (p % 64) * 2 ^ (p % 64)) 64 j l in
      let t = taken_at m (p / 64) j l in
      elim (cases_lt j (p % 64)) [
        | inl b ↦ let n = none_low w (p % 64) j b in grind (arith, nat_tests)
        | inr b ↦ let n = same_high w (p % 64) j b in grind (arith, nat_tests)
      ],
)

-- the first seat, for the first place
next_self : (m : List ℕ) (q : ℕ) → Next (taken m) 0 q → next_seat m q ≡ q
next_self m q x = elim (cases_lt q SEATS_MOST) [
  | inl l ↦ sym (next_is m q q (next_here m q (x.here l)))
  | inr l ↦
      let y = next_holds m q in
      let a = x.room in let b = y.room in
      elim (cases_lt (next_seat m q) SEATS_MOST) [ inl k ↦ absurd (let f = y.from k in omega arith) | inr k ↦ omega arith ]
]

first_selected : (m : List ℕ) → selected m 0 ≡ next_seat m 0
first_selected m =
    let q = next_seat m 0 in
    let x = next_holds m 0 in
    let none : rank m q ≡ 0 = amount_gap (taken m) 0 q (omega arith) (λ p a b. x.first p a b) ∙ amount_none (taken m) in
    elim (cases_lt q SEATS_MOST) [
      | inl l ↦ selected_is m 0 q l (x.here l) none
      | inr l ↦
          let a = x.room in
          let e : q ≡ SEATS_MOST = omega arith in
          selected_none m 0 (let z : rank m SEATS_MOST ≡ 0 = ap (rank m) (sym e) ∙ none in omega arith) ∙ sym e
    ]

pub first_same : (m : List ℕ) (p : ℕ) → p ≡ 0 → next_seat m 0 ≡ next_seat m (selected m p)
first_same m p e = sym (ap (λ (k : ℕ). next_seat m (selected m k)) e ∙ ap (next_seat m) (first_selected m) ∙ next_self m (next_seat m 0) (next_holds m 0))

-- a seat's slot
pub slot_here : (m : List ℕ) (s : ℕ) → s < SEATS_MOST → cell m SLOTS s ≡ slice_index m (SLOTS.base + s)
unfolding cell
slot_here m s l = grind (arith, nat_tests)

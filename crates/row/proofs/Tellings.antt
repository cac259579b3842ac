-- Seats that are looked for, and cards that are told, one after the other.
use Rattle.std.proofs.Common.{◌≡◌, ℕ, zero, suc, ◌+◌, ◌<◌, ◌≤◌, min, true, List, ◌++◌, map, length, get_or, take, drop, set, sym, refl, ap, ◌∙◌, inl, inr, add-one, length-drop, arith}
use Rattle.std.proofs.lemmas.List.{length-take-le, get_or-take, get_or-drop, take-map, drop-map}
use Rattle.std.proofs.lemmas.Bool.{cases_lt, cond-true, and_from, le-leb}
use Rattle.order.specs.declared.board.TheConstants.{CARDS}
use Rattle.order.proofs.Fronts.{front_more, front_all}
use Rattle.memory.specs.Columns.{cell}
use Rattle.row.specs.declared.layout.TheConstants.{SEATS_MOST, IDS, SLOTS}
use Rattle.row.specs.Meaning.{count, ending, taken, rank, row_of, cards, IsRow}
use Rattle.row.specs.Telling.{next_seat, selected, tellable, tells, told, told_count}
use Rattle.row.specs.Laws.{Next}
use Rattle.row.proofs.Listing.{amount_more}
use Rattle.row.proofs.Along.{amount_gap, amount_at}
use Rattle.row.proofs.Counting.{rank_beyond}
use Rattle.row.proofs.Firsts.{next_holds}
use Rattle.row.proofs.Halving.{selected_is, selected_none}
use Rattle.row.proofs.Seatings.{free_from}
use Rattle.row.proofs.Rows.{seated, slot_is}
use Rattle.row.proofs.Named.{standing, length_slots}
use Rattle.row.proofs.Present.{length_cards, few_cards}

-- past the next taken seat one more is, if there is one
rank_next : (m : List ℕ) (p q : ℕ) → Next (taken m) p q → rank m p < rank m SEATS_MOST →
    (q < SEATS_MOST) × (rank m q ≡ rank m p) × (rank m (q + 1) ≡ rank m p + 1)
rank_next m p q x l = elim (cases_lt q SEATS_MOST) [
  | inl s ↦
      let g = amount_gap (taken m) p q (x.from s) x.first in
      let n = amount_more (taken m) q in
      (s, g, ap (rank m) (add-one q) ∙ rw (n, x.here s, g) refl)
  | inr u ↦ elim (cases_lt p SEATS_MOST) [
    | inl v ↦ let z = amount_gap (taken m) p SEATS_MOST (omega arith) (λ r i j. x.first r i (omega arith)) in absurd (omega arith)
    | inr v ↦ let z = rank_beyond m p v in absurd (omega arith)
  ]
]

module _ (m : List ℕ) (S : IsRow m) where
  rank_all : rank m SEATS_MOST ≡ count m
  rank_all =
      let st = (standing m S).seated in
      amount_gap (taken m) (ending m) SEATS_MOST (omega arith) (λ r l _. free_from st r l) ∙ sym st.counts

  -- the seat of a place
  pub selects : (n : ℕ) → n < length (row_of m) →
      (taken m (selected m n) ≡ true) × (rank m (selected m n) ≡ n) × (get_or (row_of m) n 0 ≡ cell m SLOTS (selected m n))
  selects n l =
      let a = rank_all in let b = length_slots m S in
      let w = amount_at (taken m) SEATS_MOST n (omega arith) in
      let e = selected_is m n w.0 w.1 w.2 w.3 in
      rw e (w.2, w.3, ap (λ (i : ℕ). get_or (row_of m) i 0) (sym w.3) ∙ slot_is m (seated m S) w.0 w.2)

  selected_rank : (p : ℕ) → p ≤ count m → rank m (selected m p) ≡ p
  selected_rank p h =
      let a = rank_all in let b = length_slots m S in
      elim (cases_lt p (count m)) [ inl l ↦ (selects p (omega arith)).1 | inr l ↦ ap (rank m) (selected_none m p (omega arith)) ∙ omega arith ]

  -- cards are told
  module _ (p n : ℕ) (o : List ℕ) (h : p + n ≤ count m) (k : n ≤ length o) where
    abbrev part : List ℕ
    part = take n (drop p (row_of m))

    length_part : length part ≡ n
    length_part = let a = length_slots m S in let d = length-drop p (row_of m) in length-take-le n (drop p (row_of m)) (omega arith)

    tells_rest : (f i s : ℕ) (x : List ℕ) → i + f ≡ n → rank m s ≡ p + i → x ≡ map (cell m IDS) (take i part) ++ drop i o →
        tells f m s i x ≡ map (cell m IDS) part ++ drop (length part) o
    unfolding tells
    tells_rest zero i s x e r t = let l = length_part in front_all (cell m IDS) part o x i (omega arith) (omega arith) t
    tells_rest (suc f) i s x e r t =
        let q = next_seat m s in
        let a = rank_all in
        let w = rank_next m s q (next_holds m s) (omega arith) in
        let l = length_part in
        let y : taken m q ≡ true = (next_holds m s).here w.0 in
        let j : rank m q ≡ p + i = w.1 ∙ r in
        let g : get_or part i 0 ≡ cell m SLOTS q =
        get_or-take n (drop p (row_of m)) i 0 (omega arith) ∙ get_or-drop p (row_of m) i 0 ∙ rw (← j) (slot_is m (seated m S) q y) in
        tells_rest f (i + 1) (q + 1) (set x i (cell m IDS (cell m SLOTS q))) (omega arith) (let z = w.2 in omega arith)
        (ap (λ (z : ℕ). set x i (cell m IDS z)) (sym g) ∙ front_more (cell m IDS) part o x i (omega arith) (omega arith) t)

    tells_all : tells n m (selected m p) 0 o ≡ take n (drop p (cards m)) ++ drop n o
    tells_all =
        tells_rest n 0 (selected m p) o (omega arith) (selected_rank p (omega arith) ∙ omega arith) refl
        ∙ rw (length_part, drop-map (cell m IDS) p (row_of m), take-map (cell m IDS) n (drop p (row_of m)))

    can : tellable m p n o ≡ true
    can = let f = few_cards m S in and_from _ _ (le-leb (p + n) (min (count m) CARDS) (omega arith)) (le-leb n (length o) k)

    pub told_is : told m p n o ≡ take n (drop p (cards m)) ++ drop n o
    unfolding told
    told_is = cond-true (tellable m p n o) (tells n m (selected m p) 0 o) o can ∙ tells_all

    pub count_is : told_count m p n o ≡ n
    unfolding told_count
    count_is = cond-true (tellable m p n o) n 0 can

pub tells_middle : (m : List ℕ) (p n : ℕ) (o : List ℕ) → IsRow m → p + n ≤ length (cards m) → n ≤ length o →
    (told_count m p n o ≡ n) × (told m p n o ≡ take n (drop p (cards m)) ++ drop n o)
tells_middle m p n o S h k =
    let c = length_cards m S in
    let l : p + n ≤ count m = omega arith in
    (count_is m S p n o l k, told_is m S p n o l k)

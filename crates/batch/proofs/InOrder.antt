-- The row was put into the order of the cards' numbers: it is packed, with the cards in that order.
use Rattle.std.proofs.Common.{◌≡◌, ℕ, ◌+◌, ◌≤◌, min, true, List, [], ◌∷◌, map, length, sym, refl, ap, ◌∙◌, ap₂, inl, inr, arith}
use Rattle.std.specs.List.{range_with_len}
use Rattle.std.proofs.lemmas.Bool.{cases_Bool, both_ways}
use Rattle.std.proofs.lemmas.Simd.{map-map}
use Rattle.order.specs.declared.board.TheConstants.{CARDS}
use Rattle.order.specs.Lists.{has, distinct}
use Rattle.order.proofs.Members.{has_head, has_tail}
use Rattle.order.proofs.RenamesLists.{distinct_map}
use Rattle.memory.specs.Columns.{cell, written}
use Rattle.memory.specs.Footprints.{Writes}
use Rattle.memory.proofs.Cells.{cell_apart}
use Rattle.row.specs.declared.layout.TheConstants.{IDS, CHAIN, SLOTS}
use Rattle.row.specs.Meaning.{row_of, cards, used, count, IsRow}
use Rattle.row.specs.Moves.{packed}
use Rattle.row.specs.Laws.{Packed}
use Rattle.row.specs.Theory.{SameRow}
use Rattle.row.proofs.Again.{packs}
use Rattle.row.proofs.Depending.{depends}
use Rattle.row.proofs.Framing.{packed_writes}
use Rattle.row.proofs.Named.{one_slot, has_used}
use Rattle.row.proofs.Present.{apart, finds, found_there, has_card}
use Rattle.search.proofs.Mapped.{map_has, has_map}
use Rattle.batch.specs.declared.layout.TheConstants.{SPARE, NUMBERS}
use Rattle.batch.specs.Dense.{Dense}
use Rattle.batch.specs.Rule.{sorted}
use Rattle.batch.specs.Arranging.{filled, card_at, slot_of, slot_at, ordered, looked_up, arranged_by, arranged}
use Rattle.batch.specs.ArrangeLaws.{InOrder, Arranges}
use Rattle.batch.proofs.Denseness.{dense_packed, few, row_is, dense_kept}
use Rattle.batch.proofs.LookUps.{found_alike}
use Rattle.batch.proofs.PartSorted.{cells_sorted}
use Rattle.batch.proofs.Reseating.{RowSeated, cards_by, row_seated}
use Rattle.batch.proofs.Saving.{filled_are}
use Rattle.batch.proofs.Sorts.{has_sorted, distinct_sorted}
use Rattle.batch.proofs.Within.{every_in}
use Rattle.batch.proofs.Writing.{listed_writes, ordered_writes, looked_up_writes, arranged_writes}

-- the slots of the cards in the order of their numbers
module _ (m : List ℕ) (S : IsRow m) where
  abbrev ks : List ℕ
  ks = sorted (cards m)

  abbrev slots : List ℕ
  slots = map (slot_of m) ks

  one_slot_of : (k : ℕ) → has ks k ≡ true → (used m (slot_of m k) ≡ true) × (cell m IDS (slot_of m k) ≡ k)
  one_slot_of k h = let w = (finds m k S).2 (sym (has_sorted (cards m) k) ∙ h) in rw w.1 (w.2, w.3)

  slot_there : (s : ℕ) → has slots s ≡ true → used m s ≡ true
  slot_there s h = let w = map_has (slot_of m) ks s h in ap (used m) (sym w.2) ∙ (one_slot_of w.0 w.1).0

  cards_of : (js : List ℕ) → ((k : ℕ) → has js k ≡ true → has ks k ≡ true) → map (cell m IDS) (map (slot_of m) js) ≡ js
  cards_of [] h = refl
  cards_of (j ∷ js) h = ap₂ ◌∷◌ (one_slot_of j (h j (has_head j js))).1 (cards_of js (λ k i. h k (has_tail j js k i)))

  order_cards : map (cell m IDS) slots ≡ ks
  order_cards = cards_of ks (λ k h. h)

  order_once : distinct slots ≡ true
  order_once =
      sym (distinct_map (cell m IDS) (used m) (one_slot m S) slots (every_in (used m) slots slot_there)) ∙ ap distinct order_cards ∙ distinct_sorted (cards m)
      ∙ apart m S

  order_same : (s : ℕ) → has slots s ≡ has (row_of m) s
  order_same s = elim (cases_Bool (used m s)) [
    | inl u ↦
        has_map (slot_of m) ks (cell m IDS s) s (has_sorted (cards m) (cell m IDS s) ∙ has_card m S s u) (rw (found_there m S s u) refl) ∙ sym (has_used m S s ∙ u)
    | inr u ↦ elim (cases_Bool (has slots s)) [
      | inl h ↦ absurd (both_ways (used m s) u (slot_there s h))
      | inr h ↦ h ∙ sym (has_used m S s ∙ u)
    ]
  ]

-- the numbers and the slots don't depend on the columns to which they are written
card_apart : (m : List ℕ) (i p k : ℕ) → card_at (written m NUMBERS i k) p ≡ card_at m p
unfolding card_at
card_apart m i p k = cell_apart m NUMBERS IDS i _ k refl ∙ ap (cell m IDS) (cell_apart m NUMBERS SLOTS i p k refl)

slot_apart : (m : List ℕ) (i j k : ℕ) → slot_at (written m SPARE i k) j ≡ slot_at m j
unfolding slot_at
slot_apart m i j k =
    let m₁ = written m SPARE i k in
    ap (slot_of m₁) (cell_apart m SPARE NUMBERS i j k refl)
    ∙ rw (found_alike m m₁ (λ t. cell_apart m SPARE IDS i t k refl) (λ t. cell_apart m SPARE CHAIN i t k refl) (cell m NUMBERS j)) refl

module _ (m₀ : List ℕ) (long : NUMBERS.base + NUMBERS.size ≤ length m₀) (S : IsRow m₀) where
  -- the row packed, its numbers listed in their order, and their slots looked up
  abbrev m : List ℕ
  m = packed m₀

  P : Packed m₀ m
  P = packs m₀ S

  D : Dense m
  D = dense_packed m₀ m P

  abbrev n : ℕ
  n = count m

  abbrev m₁ : List ℕ
  m₁ = ordered n m

  abbrev m₂ : List ℕ
  m₂ = looked_up n m

  o : Writes (NUMBERS ∷ []) m m₁
  o = ordered_writes m n (few m D)

  p : Writes (SPARE ∷ []) m₁ m₂
  p = looked_up_writes m n (few m D)

  R₁ : SameRow m m₁
  R₁ = depends (NUMBERS ∷ []) m m₁ refl o

  R₂ : SameRow m₁ m₂
  R₂ = depends (SPARE ∷ []) m₁ m₂ refl p

  S₁ : IsRow m₁
  S₁ = R₁.is_row D.is_row

  long₁ : NUMBERS.base + NUMBERS.size ≤ length m
  long₁ = omega (arith, long, (packed_writes m₀).as_long)

  numbers_are : map (cell m₁ NUMBERS) (range_with_len 0 n) ≡ sorted (cards m₁)
  unfolding card_at
  numbers_are =
      cells_sorted NUMBERS n (few m D) (filled card_at NUMBERS n m 0) (omega (arith, long₁, (listed_writes m n (few m D)).as_long))
      ∙ ap sorted (filled_are card_at NUMBERS card_apart n m long₁ (few m D) ∙ sym (map-map (cell m IDS) (cell m SLOTS) (range_with_len 0 n))
      ∙ ap (map (cell m IDS)) (sym (row_is m D)) ∙ sym R₁.same_cards)

  slots_are : map (cell m₂ SPARE) (range_with_len 0 n) ≡ slots m₁ S₁
  unfolding slot_at
  slots_are =
      filled_are slot_at SPARE slot_apart n m₁ (omega (arith, long₁, o.as_long)) (few m D)
      ∙ sym (map-map (slot_of m₁) (cell m₁ NUMBERS) (range_with_len 0 n)) ∙ ap (map (slot_of m₁)) numbers_are

  seated : RowSeated m₂ (arranged_by n m) (slots m₁ S₁)
  unfolding arranged_by
  seated =
      row_seated m₂ (dense_kept _ m₁ m₂ refl p (dense_kept _ m m₁ refl o D)) n (sym (R₂.same_count ∙ R₁.same_count)) (slots m₁ S₁) slots_are
      (order_once m₁ S₁) (λ s. order_same m₁ S₁ s ∙ ap (λ (xs : List ℕ). has xs s) (sym R₂.same_row))

  cards_so : cards (arranged_by n m) ≡ sorted (cards m)
  cards_so =
      cards_by m₁ (arranged_by n m) (λ j. seated.wrote.others IDS j refl ∙ p.others IDS j refl)
      ∙ ap (map (cell m₁ IDS)) seated.row_is ∙ order_cards m₁ S₁ ∙ ap sorted R₁.same_cards

  in_order : InOrder m₀ (arranged m₀)
  in_order =
      let e : min n CARDS ≡ n = omega (arith, few m D) in
      record {
        wrote = arranged_writes m₀;
        dense = rw e seated.dense;
        cards_are = rw e (cards_so ∙ ap sorted P.same_cards);
        same_used = λ s. rw e (seated.same_used s ∙ R₂.same_used s ∙ R₁.same_used s ∙ P.same_used s);
      }

pub arranges : Arranges
arranges m long S = in_order m long S

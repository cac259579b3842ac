-- A row whose slots took other seats is a row again, of the same cards.
use Rattle.std.proofs.Common.{◌≡◌, ℕ, ◌+◌, ◌-◌, ◌*◌, ◌<◌, ◌≤◌, Bool, true, false, cond, eqb, ltb, leb, List, map, sym, refl, ap, ◌∙◌, inl, inr, arith}
use Rattle.std.proofs.lemmas.Bool.{cases_Bool, cases_lt, cond_both, eqb-true, leb-true, leb-false, ltb-true, ltb-false, lt-ltb, le-ltb}
use Rattle.order.specs.declared.board.TheConstants.{CARDS}
use Rattle.memory.specs.Columns.{cell}
use Rattle.row.specs.declared.layout.TheConstants.{SEATS_MOST, SPARE, COUNT, FRESH, FREE, IDS, CHAIN, SLOTS, SEATS}
use Rattle.row.specs.Meaning.{count, ending, taken, row_of, cards, used, IsRow}
use Rattle.row.specs.Moves.{compacted, roomy, tidied, packed}
use Rattle.row.specs.Laws.{gaps, room_turns, tidy_turns, Packed}
use Rattle.row.proofs.Along.{amount_all, amount_full, listed_all}
use Rattle.row.proofs.Freeing.{freed_same}
use Rattle.row.proofs.Framing.{column_same, compacted_writes}
use Rattle.row.proofs.Seatings.{free_from}
use Rattle.row.proofs.Rows.{seated}
use Rattle.row.proofs.Packs.{compacts}
use Rattle.row.proofs.Named.{place_ranked, standing, used_seat}

-- what a row has in common with itself on other seats
pub record Same (m n : List ℕ) : Type 0 where
  pub is_row : IsRow n
  pub same_row : row_of n ≡ row_of m
  pub same_cards : cards n ≡ cards m
  pub same_used : (s : ℕ) → used n s ≡ used m s
  pub same_count : count n ≡ count m
  pub same_ids : (t : ℕ) → cell n IDS t ≡ cell m IDS t

same_itself : (m : List ℕ) → IsRow m → Same m m
same_itself m S = record { is_row = S; same_row = refl; same_cards = refl; same_used = λ s. refl; same_count = refl; same_ids = λ t. refl }

same_compacted : (m : List ℕ) → IsRow m → Same m (compacted m)
same_compacted m S =
    let st = standing m S in
    let k = (compacts m (seated m S)).0 in
    let w = compacted_writes m in
    let ids = column_same w IDS refl in
    let u : used (compacted m) ≡ used m = λ t s. k.same_used s t in
    record {
      is_row = record {
        long = k.keeps.long;
        stands = record {
          seated = k.keeps.stands;
          one_slot = rw (u, ids) st.one_slot;
          chains = rw (u, ids, column_same w CHAIN refl) st.chains;
          freed = rw (u, w.others COUNT 0 refl, w.others FRESH 0 refl, w.others FREE 0 refl) (freed_same k.stays st.freed);
        };
      };
      same_row = k.same;
      same_cards = rw ids (ap (map (cell m IDS)) k.same);
      same_used = k.same_used;
      same_count = w.others COUNT 0 refl;
      same_ids = λ t. w.others IDS t refl;
    }

compacted_tight : (m : List ℕ) → IsRow m → ending (compacted m) ≡ count (compacted m)
compacted_tight m S = (compacts m (seated m S)).1

-- a row with no gaps
packed_by : (m n : List ℕ) → Same m n → ending n ≡ count n → Packed m n
packed_by m n g tight =
    let st = (standing n g.is_row).seated in
    let all : (p : ℕ) → p < count n → taken n p ≡ true = λ p l. let c = st.counts in amount_full (taken n) (ending n) (omega arith) p (omega arith) in
    record {
      is_row = g.is_row;
      same_row = g.same_row;
      same_cards = g.same_cards;
      same_used = g.same_used;
      same_count = g.same_count;
      tight = tight;
      full = λ p. elim (cases_lt p (count n)) [
        | inl l ↦ all p l ∙ sym (lt-ltb p (count n) l)
        | inr l ↦ free_from st p (omega arith) ∙ sym (le-ltb p (count n) l)
      ];
      dense = rw tight (listed_all (cell n SLOTS) (taken n) (count n) all);
      seats_are = λ s u.
          let b = st.below (cell n SEATS s) (used_seat n g.is_row s u).0 in
          sym (place_ranked n g.is_row s u ∙ amount_all (taken n) (cell n SEATS s) (λ p l. all p (omega arith)));
    }

pub packs : (m : List ℕ) → IsRow m → Packed m (packed m)
unfolding packed
packs m S =
    cond_both (eqb (ending m) (count m)) m (compacted m) (Packed m) (λ e. packed_by m m (same_itself m S) (eqb-true _ _ e))
    (λ _. packed_by m (compacted m) (same_compacted m S) (compacted_tight m S))

-- what making room and tidying leave, and that those who went pay for it
module _ (m : List ℕ) (S : IsRow m) where
  same_choice : (b : Bool) → Same m (cond b (compacted m) m)
  same_choice true = same_compacted m S
  same_choice false = same_itself m S

  pub same_roomy : Same m (roomy m)
  unfolding roomy
  same_roomy = same_choice (leb SEATS_MOST (ending m))

  pub same_tidied : Same m (tidied m)
  unfolding tidied
  same_tidied = same_choice (ltb (count m) (ending m - count m - SPARE))

  pub roomy_so : count m < CARDS →
      (ending (roomy m) < SEATS_MOST) × (ending m ≤ 2 * count m + SPARE → ending (roomy m) ≤ 2 * count m + SPARE)
      × (room_turns m + 2 * gaps (roomy m) ≤ 2 * gaps m)
  unfolding roomy room_turns
  roomy_so l =
      let a = compacted_tight m S in let c = (same_compacted m S).same_count in
      elim (cases_Bool (leb SEATS_MOST (ending m))) [
        | inl y ↦ let f = leb-true _ _ y in rw y (omega arith, (λ h. omega arith), omega arith)
        | inr y ↦ let f = leb-false _ _ y in rw y (omega arith, (λ h. h), omega arith)
      ]

  pub tidied_so : (ending (tidied m) ≤ 2 * count (tidied m) + SPARE) × (tidy_turns (count m) (ending m) + 2 * gaps (tidied m) ≤ 2 * gaps m)
  unfolding tidied tidy_turns
  tidied_so =
      let a = compacted_tight m S in let c = (same_compacted m S).same_count in
      elim (cases_Bool (ltb (count m) (ending m - count m - SPARE))) [
        | inl y ↦ let f = ltb-true _ _ y in rw y (omega arith, omega arith)
        | inr y ↦ let f = ltb-false _ _ y in rw y (omega arith, omega arith)
      ]

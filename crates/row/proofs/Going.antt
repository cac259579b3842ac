-- A card that goes leaves the others in their order.
use Rattle.std.proofs.Common.{◌≡◌, ℕ, suc, ◌+◌, ◌-◌, ◌<◌, ◌≤◌, true, false, not, ◌&&◌, eqb, List, [], ◌∷◌, length, Ok, refl, ap, ◌∙◌, add-one, inl, inr, arith}
use Rattle.std.proofs.lemmas.Bool.{cases_eq, eq-eqb, ne_eqb}
use Rattle.order.specs.declared.board.TheConstants.{CARDS}
use Rattle.order.specs.declared.board.Refusal.TheVariants.{Missing}
use Rattle.order.specs.Lists.{has, filter}
use Rattle.order.specs.Outcomes.{refused}
use Rattle.order.proofs.Members.{has_head, has_tail}
use Rattle.order.proofs.RenamesLists.{without_map}
use Rattle.memory.specs.declared.column.Column.{Column}
use Rattle.memory.specs.Columns.{cell, written}
use Rattle.memory.specs.Footprints.{Writes, clear}
use Rattle.memory.proofs.Cells.{length_written, cell_same, cell_other, cell_apart}
use Rattle.row.specs.declared.layout.TheConstants.{HEADS, COUNT, ENDING, FRESH, FREE, IDS, CHAIN, SLOTS, SEATS, TAKEN}
use Rattle.row.specs.Lookup.{bucket, entry, withdrawn}
use Rattle.row.specs.Meaning.{count, ending, free, taken, row_of, cards, used, IsRow}
use Rattle.row.specs.Moves.{unmarked, slot_freed, left, tidied, gone}
use Rattle.row.specs.Laws.{tidy_turns, Gone}
use Rattle.row.proofs.Turning.{taken_unmarked}
use Rattle.row.proofs.Framing.{column_same, written_same, leaving, unmarked_writes, withdrawn_writes, left_writes}
use Rattle.row.proofs.Seatings.{Leaves, left_row, left_seating, left_some, left_used}
use Rattle.row.proofs.Chaining.{holder}
use Rattle.row.proofs.Hashing.{bucket_below, withdrawn_chains, withdrawn_one}
use Rattle.row.proofs.Freeing.{freed_push}
use Rattle.row.proofs.Rows.{seated, room}
use Rattle.row.proofs.Named.{standing, long_row, row_used, used_below, used_seat, one_slot}
use Rattle.row.proofs.Present.{chain_below, card_slot, sought_there, sought_absent}
use Rattle.row.proofs.Again.{same_tidied, tidied_so}

holder_below : (xs : List ℕ) (p s : ℕ) → p < HEADS + CARDS → ((t : ℕ) → has xs t ≡ true → t < CARDS) → holder p xs s < HEADS + CARDS
holder_below [] p s l h = l
holder_below (x ∷ xs) p s l h = elim (cases_eq x s) [
  | inl e ↦ rw (eq-eqb x s e) l
  | inr e ↦ rw (ne_eqb x s e) (holder_below xs (HEADS + x) s (let b = h x (has_head x xs) in omega arith) (λ t i. h t (has_tail x xs t i)))
]

module _ (m : List ℕ) (S : IsRow m) (s : ℕ) (u : used m s ≡ true) where
  abbrev h : ℕ
  h = holder (bucket (cell m IDS s)) ((standing m S).chains.of (bucket (cell m IDS s))) s

  -- its entry is taken out of its chain
  abbrev w : List ℕ
  w = withdrawn m (entry h s)

  -- its seat is free
  abbrev f : List ℕ
  f = unmarked w (cell w SEATS s)

  abbrev m' : List ℕ
  m' = left w s

  low : s < CARDS
  low = used_below m S s u

  from_w : Writes leaving w m'
  from_w = left_writes w s low

  to_w : Writes (CHAIN ∷ []) m w
  to_w = withdrawn_writes m (entry h s)

  same : (d : Column) → clear leaving d ≡ true → clear (CHAIN ∷ []) d ≡ true → cell m' d ≡ cell m d
  same d i j = column_same from_w d i ∙ column_same to_w d j

  long_w : TAKEN.base + TAKEN.size ≤ length w
  long_w = let l = to_w.as_long in let r = long_row m S in omega arith

  -- the columns that are written, behind the seat's mark
  f_same : (d : Column) → clear (TAKEN ∷ []) d ≡ true → clear (CHAIN ∷ []) d ≡ true → cell f d ≡ cell m d
  f_same d i j = column_same (unmarked_writes w (cell w SEATS s)) d i ∙ column_same to_w d j

  long_f : TAKEN.base + TAKEN.size ≤ length f
  long_f = let l = (unmarked_writes w (cell w SEATS s)).as_long in let r = long_w in omega arith

  count_left : count m' ≡ count m - 1
  unfolding left slot_freed
  count_left =
      let g = written f SEATS s (free f) in
      let l = length_written f SEATS s (free f) in let l' = length_written g FREE 0 (s + 1) in let r = long_f in
      cell_same (slot_freed f s) COUNT 0 (count w - 1) (omega arith) (omega arith) ∙ ap (λ (c : ℕ). c - 1) (to_w.others COUNT 0 refl)

  free_left : free m' ≡ suc s
  unfolding left slot_freed
  free_left =
      let g = written f SEATS s (free f) in
      let l = length_written f SEATS s (free f) in let r = long_f in
      cell_apart (slot_freed f s) COUNT FREE 0 0 (count w - 1) refl ∙ cell_same g FREE 0 (s + 1) (omega arith) (omega arith) ∙ add-one s

  seats_left : cell m' SEATS ≡ cell (written f SEATS s (free f)) SEATS
  unfolding left slot_freed
  seats_left = written_same (slot_freed f s) COUNT SEATS 0 (count w - 1) refl ∙ written_same (written f SEATS s (free f)) FREE SEATS 0 (s + 1) refl

  seat_left : cell m' SEATS s ≡ free m
  seat_left = rw (seats_left, ← f_same FREE refl refl) (cell_same f SEATS s (free f) low (let r = long_f in let l = low in omega arith))

  seats_else : (t : ℕ) → (t ≡ s → ⊥) → cell m' SEATS t ≡ cell m SEATS t
  seats_else t ne = rw (seats_left, ← f_same SEATS refl refl) (cell_other f SEATS s t (free f) ne)

  words_left : cell m' TAKEN ≡ cell f TAKEN
  unfolding left slot_freed
  words_left =
      written_same (slot_freed f s) COUNT TAKEN 0 (count w - 1) refl ∙ written_same (written f SEATS s (free f)) FREE TAKEN 0 (s + 1) refl
      ∙ written_same f SEATS TAKEN s (free f) refl

  leaves : Leaves (cell m SEATS s) s (cell m SLOTS) (cell m SEATS) (cell m' SEATS) (taken m) (taken m')
  leaves =
      let e = to_w.others SEATS s refl in
      let r = room m (seated m S) (cell m SEATS s) (used_seat m S s u).0 in
      record {
        there = (used_seat m S s u).0;
        slot_at = (used_seat m S s u).1;
        seat_else = seats_else;
        held = rw (words_left, ← column_same to_w TAKEN refl, ← e) (taken_unmarked w (cell w SEATS s) (omega arith) long_w);
      }

  next_here : cell w CHAIN h ≡ cell m CHAIN (HEADS + s)
  unfolding withdrawn
  next_here =
      let b = bucket_below (cell m IDS s) in
      let l = long_row m S in
      let d =
      holder_below ((standing m S).chains.of (bucket (cell m IDS s))) (bucket (cell m IDS s)) s (omega arith)
      (λ t x. chain_below m S (bucket (cell m IDS s)) t b x) in
      cell_same m CHAIN h (cell m CHAIN (HEADS + s)) d (omega arith)

  next_else : (q : ℕ) → (q ≡ h → ⊥) → cell w CHAIN q ≡ cell m CHAIN q
  unfolding withdrawn
  next_else q ne = cell_other m CHAIN h q (cell m CHAIN (HEADS + s)) ne

  -- so there is a row without it
  used_without : (t : ℕ) → used m' t ≡ (used m t && not (eqb t s))
  used_without t = rw (same SLOTS refl refl) (left_used (standing m S).seated leaves t)

  row_left : row_of m' ≡ filter (λ j. not (eqb j s)) (row_of m)
  row_left = rw (same SLOTS refl refl, same ENDING refl refl) (left_row (standing m S).seated leaves)

  left_is_row : IsRow m'
  left_is_row =
      let st = standing m S in
      record {
        long = let l = from_w.as_long in let r = long_w in omega arith;
        stands = rw (count_left, same ENDING refl refl, same FRESH refl refl, free_left, same IDS refl refl, column_same from_w CHAIN refl) record {
          seated = rw (same SLOTS refl refl) (left_seating st.seated leaves);
          one_slot = withdrawn_one st.chains u next_here next_else used_without st.one_slot;
          chains = withdrawn_chains st.chains u next_here next_else used_without;
          freed = freed_push st.freed u (left_some st.seated leaves) seat_left seats_else used_without;
        };
      }

  gone_law : Gone m (cell m IDS s) s (tidied m')
  gone_law =
      let t = same_tidied m' left_is_row in
      let q = tidied_so m' left_is_row in
      record {
        is_row = t.is_row;
        cards_are = t.same_cards ∙ rw (same IDS refl refl, row_left) (without_map (cell m IDS) (used m) (one_slot m S) s (row_of m) u (row_used m S));
        slots_are = t.same_row ∙ row_left;
        was_card = refl;
        same_cards = λ x. t.same_ids x ∙ ap (λ (c : ℕ → ℕ). c x) (same IDS refl refl);
        was_used = u;
        spare = q.0;
        paid =
            let c = ap (λ (x : ℕ). tidy_turns x (ending m')) count_left in
            let e : ending m' ≡ ending m = rw (same ENDING refl refl) in
            let d = ap (tidy_turns (count m - 1)) e in
            let a = q.1 in let b = count_left in
            omega arith;
      }

pub goes_filters : (m : List ℕ) (k : ℕ) → IsRow m →
    (has (cards m) k ≡ false → gone m k ≡ refused m Missing)
    × (has (cards m) k ≡ true → (s : ℕ) × ((gone m k).answer ≡ Ok s) × Gone m k s (gone m k).memory)
unfolding gone
goes_filters m k S = (
  (λ n. rw (sought_absent m S k n)),
  (λ i. let v = card_slot m S k i in rw (← v.2, sought_there m S v.0 v.1) (v.0, refl, gone_law m S v.0 v.1)),
)

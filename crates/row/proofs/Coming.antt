-- A card that comes is last.
use Rattle.std.proofs.Common.{◌≡◌, ℕ, ◌+◌, ◌<◌, ◌≤◌, Bool, true, false, cond, ◌||◌, eqb, List, [], ◌∷◌, ◌++◌, map, length, Some, Ok, sym, refl, ap, ◌∙◌, add-one, inl, inr, arith}
use Rattle.std.proofs.lemmas.Bool.{cases_Bool, and_parts, lt-ltb, le-ltb, both_ways}
use Rattle.std.proofs.lemmas.List.{map_push}
use Rattle.order.specs.declared.board.TheConstants.{CARDS}
use Rattle.order.specs.declared.board.Refusal.TheVariants.{Exists, Full}
use Rattle.order.specs.Lists.{every, has}
use Rattle.order.specs.Outcomes.{refused}
use Rattle.memory.specs.declared.column.Column.{Column}
use Rattle.memory.specs.Columns.{cell, written, apart}
use Rattle.memory.specs.Footprints.{Writes, clear}
use Rattle.memory.proofs.Cells.{length_written, cell_same, cell_other, cell_apart}
use Rattle.memory.proofs.Footprints.{less, put}
use Rattle.row.specs.declared.layout.TheConstants.{SEATS_MOST, HEADS, COUNT, ENDING, FRESH, FREE, IDS, CHAIN, SLOTS, SEATS, TAKEN}
use Rattle.row.specs.Lookup.{bucket, found, entered}
use Rattle.row.specs.Meaning.{count, ending, fresh, free, taken, row_of, cards, used, IsRow}
use Rattle.row.specs.Moves.{seated_at, roomy, slot_for, slot_taken, joined, arrived, came}
use Rattle.row.specs.Laws.{Came}
use Rattle.row.proofs.Framing.{column_same, written_same, packing, slot_low, slot_taken_writes, seated_writes, joined_writes}
use Rattle.row.proofs.Seatings.{Takes, takes_row, takes_seating, takes_used, free_from}
use Rattle.row.proofs.Hashing.{bucket_below, Enters, entered_chains, entered_one}
use Rattle.row.proofs.Freeing.{next_slot, next_free, freed_pop}
use Rattle.row.proofs.Rows.{seated, ending_written, nowhere, seated_takes}
use Rattle.row.proofs.Named.{standing, long_row, row_used}
use Rattle.row.proofs.Present.{length_cards, card_slot, found_there, found_absent, has_card}
use Rattle.row.proofs.Again.{Same, same_roomy, roomy_so}

-- two names of what passes a test
map_where : (f g : ℕ → ℕ) (D : ℕ → Bool) → ((t : ℕ) → D t ≡ true → f t ≡ g t) → (xs : List ℕ) → every D xs ≡ true → map f xs ≡ map g xs
unfolding every
map_where f g D h [] e = refl
map_where f g D h (x ∷ xs) e =
    let p = and_parts (D x) (every D xs) e in
    let i = h x p.0 in
    let ih = map_where f g D h xs p.1 in
    cc

-- the slot is taken from the free ones
module _ (m : List ℕ) (s : ℕ) (long : TAKEN.base + TAKEN.size ≤ length m) where
  fresh_taken : fresh (slot_taken m s) ≡ cond (eqb (free m) 0) (s + 1) (fresh m)
  unfolding slot_taken
  fresh_taken = elim (cases_Bool (eqb (free m) 0)) [
    | inl y ↦ rw y (cell_same m FRESH 0 (s + 1) (omega arith) (omega arith))
    | inr y ↦ rw y (cell_apart m FREE FRESH 0 0 (cell m SEATS s) refl)
  ]

  free_taken : free (slot_taken m s) ≡ cond (eqb (free m) 0) (free m) (cell m SEATS s)
  unfolding slot_taken
  free_taken = elim (cases_Bool (eqb (free m) 0)) [
    | inl y ↦ rw y (cell_apart m FRESH FREE 0 0 (s + 1) refl)
    | inr y ↦ rw y (cell_same m FREE 0 (cell m SEATS s) (omega arith) (omega arith))
  ]

-- and given to the card
module _ (m : List ℕ) (s k : ℕ) where
  length_entered : length (entered m s k) ≡ length m
  unfolding entered
  length_entered = length_written _ CHAIN (bucket k) (s + 1) ∙ length_written _ CHAIN (HEADS + s) (cell m CHAIN (bucket k)) ∙ length_written m IDS s k

  entered_same : (d : Column) → apart IDS d ≡ true → apart CHAIN d ≡ true → cell (entered m s k) d ≡ cell m d
  unfolding entered
  entered_same d a b =
      written_same _ CHAIN d (bucket k) (s + 1) b ∙ written_same _ CHAIN d (HEADS + s) (cell m CHAIN (bucket k)) b ∙ written_same m IDS d s k a

  enters : TAKEN.base + TAKEN.size ≤ length m → s < CARDS → Enters s k (cell m IDS) (cell m CHAIN) (cell (entered m s k) IDS) (cell (entered m s k) CHAIN)
  unfolding entered
  enters long low =
      let x = written m IDS s k in
      let v = cell m CHAIN (bucket k) in
      let y = written x CHAIN (HEADS + s) v in
      let b = bucket_below k in
      let l = length_written m IDS s k in let l' = length_written x CHAIN (HEADS + s) v in
      let ids = written_same y CHAIN IDS (bucket k) (s + 1) refl ∙ written_same x CHAIN IDS (HEADS + s) v refl in
      record {
        id_here = rw ids (cell_same m IDS s k low (omega arith));
        id_else = λ t ne. rw ids (cell_other m IDS s t k ne);
        next_head = cell_same y CHAIN (bucket k) (s + 1) (omega arith) (omega arith) ∙ add-one s;
        next_here = cell_other y CHAIN (bucket k) (HEADS + s) (s + 1) (λ e. omega arith) ∙ cell_same x CHAIN (HEADS + s) v (omega arith) (omega arith);
        next_else = λ q n o. cell_other y CHAIN (bucket k) q (s + 1) n ∙ cell_other x CHAIN (HEADS + s) q v o ∙ cell_apart m IDS CHAIN s q k refl;
      }

-- and seated behind all, in a row in which there is room
module _ (m : List ℕ) (k : ℕ) (S : IsRow m) (new : has (cards m) k ≡ false) (fits : count m < CARDS) where
  abbrev r : List ℕ
  r = roomy m

  abbrev s : ℕ
  s = slot_for r

  abbrev a : List ℕ
  a = slot_taken r s

  abbrev b : List ℕ
  b = entered a s k

  abbrev m' : List ℕ
  m' = arrived r (count m) k

  g : Same m r
  g = same_roomy m S

  room : ending r < SEATS_MOST
  room = (roomy_so m S fits).0

  long : TAKEN.base + TAKEN.size ≤ length r
  long = long_row r g.is_row

  w : Writes (FRESH ∷ FREE ∷ []) r a
  w = slot_taken_writes r s (slot_low r)

  -- what stands before the seat is taken, and behind
  b_same : (d : Column) → clear (FRESH ∷ FREE ∷ []) d ≡ true → apart IDS d ≡ true → apart CHAIN d ≡ true → cell b d ≡ cell r d
  b_same d h i j = entered_same a s k d i j ∙ column_same w d h

  end_b : ending b ≡ ending r
  end_b = rw (b_same ENDING refl refl refl)

  long_b : TAKEN.base + TAKEN.size ≤ length b
  long_b = let l = length_entered a s k in let l' = w.as_long in let x = long in omega arith

  w' : Writes (COUNT ∷ packing) b m'
  unfolding arrived
  w' = put _ _ _ COUNT 0 (count m + 1) refl (λ _. omega arith) (less _ _ _ _ refl (joined_writes b s (slot_low r)))

  m'_same : (d : Column) → apart COUNT d ≡ true → apart ENDING d ≡ true → cell m' d ≡ cell (seated_at b (ending b) s) d
  unfolding arrived joined
  m'_same d i j = written_same _ COUNT d 0 (count m + 1) i ∙ written_same _ ENDING d 0 (ending b + 1) j

  long_c : TAKEN.base + TAKEN.size ≤ length (seated_at b (ending b) s)
  long_c =
      let v = seated_writes b (ending b) s (λ _. omega arith) (λ _. let l = slot_low r in omega arith) in
      let l = v.as_long in let x = long_b in omega arith

  count_m' : count m' ≡ count r + 1
  unfolding arrived joined
  count_m' =
      let l = length_written (seated_at b (ending b) s) ENDING 0 (ending b + 1) in
      cell_same (joined b s) COUNT 0 (count m + 1) (omega arith) (let x = long_c in omega arith) ∙ ap (λ (n : ℕ). n + 1) (sym g.same_count)

  end_m' : ending m' ≡ ending r + 1
  unfolding arrived joined
  end_m' =
      let x = cell_apart (joined b s) COUNT ENDING 0 0 (count m + 1) refl in
      let y = ending_written (seated_at b (ending b) s) (ending b + 1) long_c (let z = end_b in let l = room in omega arith) in
      let z = end_b in
      omega arith

  takes : Takes (ending r) s (cell r SLOTS) (cell r SEATS) (cell m' SLOTS) (cell m' SEATS) (taken r) (taken m')
  takes =
      rw (m'_same SLOTS refl refl, m'_same SEATS refl refl, m'_same TAKEN refl refl)
      (rw (← b_same SLOTS refl refl refl, ← b_same SEATS refl refl refl, ← b_same TAKEN refl refl refl, ← b_same ENDING refl refl refl)
      (seated_takes b (ending b) s long_b (let z = end_b in let l = room in omega arith) (slot_low r)))

  slot_is_next : s ≡ next_slot (fresh r) (free r)
  unfolding slot_for
  slot_is_next = refl

  was_free : used r s ≡ false
  was_free = next_free (standing r g.is_row).freed (let c = g.same_count in omega arith) slot_is_next

  unused : (p : ℕ) → taken r p ≡ true → cell r SLOTS p ≡ s → ⊥
  unused = nowhere r (seated r g.is_row) s was_free

  free_end : taken r (ending r) ≡ false
  free_end = free_from (standing r g.is_row).seated (ending r) (omega arith)

  used_is : (t : ℕ) → used m' t ≡ (eqb t s || used r t)
  used_is = takes_used (standing r g.is_row).seated takes unused free_end

  -- the cards
  m'_enters : Enters s k (cell r IDS) (cell r CHAIN) (cell m' IDS) (cell m' CHAIN)
  m'_enters =
      rw (column_same w' IDS refl, column_same w' CHAIN refl, ← column_same w IDS refl, ← column_same w CHAIN refl)
      (enters a s k (let l = w.as_long in let x = long in omega arith) (slot_low r))

  fresh_card : (t : ℕ) → used r t ≡ true → cell r IDS t ≡ k → ⊥
  fresh_card t u i = both_ways (has (cards m) k) new (rw (← g.same_cards, ← i) (has_card r g.is_row t u))

  pub came_law : Came m k s m'
  came_law =
      let st = standing r g.is_row in
      let e = end_m' in let c = count_m' in let q = roomy_so m S fits in let h = g.same_count in
      let same : (t : ℕ) → used r t ≡ true → cell m' IDS t ≡ cell r IDS t =
      λ t u. m'_enters.id_else t (λ z. both_ways (used r s) was_free (ap (used r) (sym z) ∙ u)) in
      let row : row_of m' ≡ row_of r ++ s ∷ [] = rw e (takes_row st.seated takes unused free_end) in
      record {
        is_row = record {
          long = let l = w'.as_long in let x = long_b in omega arith;
          stands = rw (c, e) record {
            seated = takes_seating st.seated takes unused free_end (ending r + 1) (omega arith) (omega arith);
            one_slot = entered_one st.chains m'_enters was_free used_is fresh_card st.one_slot;
            chains = entered_chains st.chains m'_enters was_free used_is;
            freed = freed_pop st.freed (omega arith) slot_is_next
                (w'.others FRESH 0 refl ∙ ap (λ (x : ℕ → ℕ). x 0) (entered_same a s k FRESH refl refl) ∙ fresh_taken r s long)
                (w'.others FREE 0 refl ∙ ap (λ (x : ℕ → ℕ). x 0) (entered_same a s k FREE refl refl) ∙ free_taken r s long) takes.seat_else used_is;
          };
        };
        cards_are =
            ap (map (cell m' IDS)) row ∙ map_push (cell m' IDS) (row_of r) s
            ∙ rw (m'_enters.id_here, map_where (cell m' IDS) (cell r IDS) (used r) same (row_of r) (row_used r g.is_row), g.same_cards);
        slots_are = rw (row, g.same_row);
        is_card = m'_enters.id_here;
        same_cards = λ t u. same t (g.same_used t ∙ u) ∙ g.same_ids t;
        was_free = sym (g.same_used s) ∙ was_free;
        spare = λ x. let y = q.1 x in omega arith;
        paid = let y = q.2 in omega arith;
      }

pub comes_appends : (m : List ℕ) (k : ℕ) → IsRow m →
    (has (cards m) k ≡ true → came m k ≡ refused m Exists)
    × (has (cards m) k ≡ false → CARDS ≤ length (cards m) → came m k ≡ refused m Full)
    × (has (cards m) k ≡ false → length (cards m) < CARDS → (s : ℕ) × ((came m k).answer ≡ Ok s) × Came m k s (came m k).memory)
unfolding came
comes_appends m k S =
    let c = length_cards m S in (
      (λ h. let w = card_slot m S k h in let f : found m k ≡ Some w.0 = ap (found m) (sym w.2) ∙ found_there m S w.0 w.1 in rw f),
      (λ n l. rw (found_absent m S k n, le-ltb (count m) CARDS (omega arith))),
      (λ n l. rw (found_absent m S k n, lt-ltb (count m) CARDS (omega arith)) (slot_for (roomy m), refl, came_law m k S n (omega arith))),
    )

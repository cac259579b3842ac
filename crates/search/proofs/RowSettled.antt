-- After a search that came to its end, settling makes the firm row.
use Rattle.std.proofs.Common.{◌≡◌, ℕ, suc, ◌+◌, ◌-◌, ◌^◌, ◌<◌, ◌≤◌, min, Bool, true, false, ◌&&◌, ◌||◌, List, [], ◌∷◌, ◌++◌, map, length, sym, refl, ap, ◌∙◌, subst, ap₂, arith, length-append}
use Rattle.std.specs.List.{range_with_len}
use Rattle.std.proofs.lemmas.List.{length-map}
use Rattle.std.proofs.lemmas.Bool.{or_left}
use Rattle.std.proofs.lemmas.Bool.Decides.{nat_tests}
use Rattle.order.proofs.Places.{has_append}
use Rattle.search.proofs.Common.{CARDS, filter, has, place, Board, leads, keeps, Column, cell, clear, View, view, Writes, Summed, CellsAlone, SEATS_MOST}
use Rattle.search.proofs.Common.{COUNT, ENDING, FRESH, FREE, IDS, CHAIN, SLOTS, SEATS, TAKEN, ending, listed, amount, bit_set, in_use, taken, rank, row_of}
use Rattle.search.proofs.Common.{used, Standing, IsRow, FORE, HIND, CHOSEN, columns, searched, sets, slot_board, slot_on, part, Ready, Parted, Gathered}
use Rattle.search.proofs.Common.{gathers, both_first, dealt, forgotten, chose, settled}
use Rattle.order.specs.Reordering.{with_link, firm}
use Rattle.order.proofs.Parts.{with_part}
use Rattle.order.proofs.Refilled.{either, refilled}
use Rattle.order.proofs.Climbs.{Fine, fine_parts}
use Rattle.order.proofs.Allowed.{Open, sides_apart}
use Rattle.order.proofs.Firm.{firm_row, firm_row_is, firm_is, firm_keeps}
use Rattle.memory.proofs.Alone.{cells_alone}
use Rattle.memory.proofs.Footprints.{kept, less, after}
use Rattle.row.proofs.Listing.{amount_more}
use Rattle.row.proofs.Along.{amount_before}
use Rattle.row.proofs.Seatings.{one_seat}
use Rattle.row.proofs.Named.{used_seat, has_slot, place_ranked}
use Rattle.row.proofs.Present.{few_cards}
use Rattle.links.proofs.Keeping.{table_kept, edges_kept}
use Rattle.search.specs.SettleLaws.{Unmarked, Settled, Settles}
use Rattle.search.proofs.Listed.{Lists, lists_filter, counting_has, before, inner, behind, in_inner, inner_once, before_out, behind_out, part_end}
use Rattle.search.proofs.Listed.{in_three}
use Rattle.search.proofs.Mapped.{map_filter, filter_same, filter_both, filter_fewer}
use Rattle.search.proofs.Gathering.{Marking, marking_kept, wrote, wrote_append, writes_wrote, wrote_reads, gathers_list, put, put_slots, put_places}
use Rattle.search.proofs.Gathering.{writes_put, deals}
use Rattle.search.proofs.Exchanged.{exchanged, exchanged_same}
use Rattle.search.proofs.Seating.{Rearranges, used_same, standing_again}
use Rattle.search.proofs.Reordered.{those, fill, rearranges, row_is}
use Rattle.search.proofs.SettleFrames.{writes_forgotten, forgets_all}

module _ (m m₁ : List ℕ) (a b : ℕ) (R : Ready m) (ua : used m a ≡ true) (ub : used m b ≡ true) (back : cell m SEATS b < cell m SEATS a)
    (P : Parted m m₁ a b) where
  abbrev r : Board
  r = slot_board m

  f : Fine r
  f = fine_parts r R.fine_so

  open_so : Open r a b
  open_so = record { there = (has_slot m R.is_row a ua, has_slot m R.is_row b ub); no_way = P.no_round }

  abbrev slot : ℕ → ℕ
  slot = cell m SLOTS

  abbrev A : ℕ → Bool
  A k = leads r k a

  abbrev B : ℕ → Bool
  B k = leads r b k

  apart_so : (k : ℕ) → B k ≡ true → A k ≡ false
  apart_so = sides_apart r f a b open_so

  -- the part: n seats from lo on, of which Q are taken
  abbrev lo : ℕ
  lo = cell m SEATS b

  abbrev hi : ℕ
  hi = cell m SEATS a

  abbrev n : ℕ
  n = suc hi - lo

  abbrev Q : List ℕ
  Q = inner (taken m) lo n

  -- all taken seats
  abbrev seats : List ℕ
  seats = filter (taken m) (range_with_len 0 (ending m))

  seats_are : seats ≡ before (taken m) lo n ++ (Q ++ behind (taken m) lo n (ending m))
  seats_are = in_three (taken m) lo n (ending m) (let e = R.is_row.stands.seated.below hi (used_seat m R.is_row a ua).0 in omega arith)

  rank_behind : rank m lo + length Q ≡ suc (rank m hi)
  unfolding amount
  rank_behind =
      let e : lo + n ≡ suc hi = omega arith in
      let w = amount_more (taken m) hi in
      let t = (used_seat m R.is_row a ua).0 in
      part_end (taken m) lo n ∙ ap (λ (x : ℕ). length (filter (taken m) (range_with_len 0 x))) e ∙ w ∙ rw t (omega arith)

  few_Q : length Q ≤ CARDS
  unfolding amount
  few_Q =
      let c = few_cards m R.is_row in
      let s = R.is_row.stands.seated.counts ∙ ap length seats_are ∙ length-append (before (taken m) lo n) (Q ++ behind (taken m) lo n (ending m)) in
      let q = length-append Q (behind (taken m) lo n (ending m)) in
      omega arith

  -- what is marked: of the taken seats of the part those whose slot passes a test
  abbrev marks : (ℕ → Bool) → ℕ → Bool
  marks T p = taken m p && (part m a b p && T (slot_on m p))

  marked_seats : (T : ℕ → Bool) → Lists (marks T) 0 (filter (λ p. T (slot p)) Q)
  marked_seats T =
      subst (Lists (marks T) 0)
      (filter_same (marks T) (λ p. taken m p && T (slot p)) (range_with_len lo n) (λ p h. let c = counting_has lo n p h in grind (arith, nat_tests))
      ∙ sym (filter_both (taken m) (λ p. T (slot p)) (range_with_len lo n)))
      (lists_filter (marks T) 0 lo n (omega arith) (λ p x y. grind (arith, nat_tests)) (λ p x. grind (arith, nat_tests)))

  abbrev ps : List ℕ
  ps = those slot A B Q apart_so

  abbrev ks : List ℕ
  ks = fill slot A B Q apart_so

  rearranged : Rearranges (taken m) slot ps ks
  rearranged =
      rearranges slot A B Q apart_so (taken m) (λ p h. (in_inner (taken m) lo n p h).2) (inner_once (taken m) lo n)
      (λ p q h i e. one_seat R.is_row.stands.seated p q (in_inner (taken m) lo n p h).2 (in_inner (taken m) lo n q i).2 e)

  seat_low : (p : ℕ) → has ps p ≡ true → p < SEATS_MOST
  seat_low p h = let e = R.is_row.stands.seated.below p (rearranged.seats_held p h) in omega arith

  slot_low : (s : ℕ) → has ks s ≡ true → s < CARDS
  slot_low s h =
      let w = rearranged.from s h in
      let l = R.is_row.stands.seated.low w.0 (rearranged.seats_held w.0 w.1) in
      let e = w.2 in omega arith

  few_ps : length ps ≤ CARDS
  unfolding those
  few_ps = let l = filter_fewer (λ p. either B A (slot p)) Q in let q = few_Q in omega arith

  ps_listed : Lists (λ p. marks A p || marks B p) 0 ps
  unfolding those
  ps_listed = subst (λ (T : ℕ → Bool). Lists T 0 (filter (λ p. either B A (slot p)) Q)) (λ t p. same_marks p t) (marked_seats (either B A))
    where
      same_marks : (p : ℕ) → marks (either B A) p ≡ (marks A p || marks B p)
      same_marks p = grind arith

  -- what is gathered, and where it is put
  abbrev qsA : List ℕ
  qsA = filter (λ p. A (slot p)) Q

  abbrev qsB : List ℕ
  qsB = filter (λ p. B (slot p)) Q

  ks_is : map slot qsA ++ map slot qsB ≡ ks
  unfolding fill
  ks_is = ap₂ ◌++◌ (map_filter slot A Q) (map_filter slot B Q)

  hind_marks : Marking m₁ HIND.column (marks A)
  hind_marks = record { summed = P.hind_summed; marks = P.hind_is }

  fore_marks : Marking m₁ FORE.column (marks B)
  fore_marks = record { summed = P.fore_summed; marks = P.fore_is }

  abbrev m₂ : List ℕ
  m₂ = wrote m₁ 0 ks

  small_ks : (s : ℕ) → has ks s ≡ true → s < 2 ^ 64
  small_ks s h = let l = slot_low s h in omega arith

  small_hind : (s : ℕ) → has (map slot qsA) s ≡ true → s < 2 ^ 64
  small_hind s h =
      small_ks s (ap (λ (xs : List ℕ). has xs s) (sym ks_is) ∙ has_append (map slot qsA) (map slot qsB) s ∙ or_left (has (map slot qsA) s) _ h)

  wrote_ks : Writes (CHOSEN ∷ []) m₁ m₂
  wrote_ks = writes_wrote m₁ 0 ks small_ks

  chose_is : chose m₁ ≡ m₂
  unfolding chose
  chose_is =
      let kA = map slot qsA in
      let kB = map slot qsB in
      let w = wrote m₁ 0 kA in
      let few = few_Q in
      let g₁ = gathers_list HIND.column refl (marks A) slot m₁ qsA 0 hind_marks (λ p. P.kept.others SLOTS p refl) (marked_seats A)
      (let l = filter_fewer (λ p. A (slot p)) Q in omega arith) in
      let ww = writes_wrote m₁ 0 kA small_hind in
      let fw = marking_kept (CHOSEN ∷ []) m₁ w FORE.column (marks B) ww refl fore_marks in
      let g₂ = gathers_list FORE.column refl (marks B) slot w qsB (0 + length qsA) fw (λ p. ww.others SLOTS p refl ∙ P.kept.others SLOTS p refl) (marked_seats B)
      (let l = filter_fewer (λ p. B (slot p)) Q in omega arith) in
      ap (λ (g : Gathered). (gathers g.memory FORE.column g.end).memory) g₁ ∙ ap (λ (g : Gathered). g.memory) g₂
      ∙ sym (wrote_append m₁ 0 (0 + length qsA) kA kB (ap (λ (x : ℕ). 0 + x) (length-map qsA slot))) ∙ ap (wrote m₁ 0) ks_is

  abbrev m₃ : List ℕ
  m₃ = put m₂ ps ks

  room : CHOSEN.base + CHOSEN.size ≤ length m₁
  room = let l = P.hind_summed.lies in omega arith

  dealt_is : dealt CARDS m₂ (both_first m₂) 0 ≡ m₃
  dealt_is =
      deals (marks A) (marks B) m₂ ps ks
      (marking_kept (CHOSEN ∷ []) m₁ m₂ HIND.column (marks A) wrote_ks refl hind_marks)
      (marking_kept (CHOSEN ∷ []) m₁ m₂ FORE.column (marks B) wrote_ks refl fore_marks)
      ps_listed
      (wrote_reads m₁ 0 ks room (let e = rearranged.as_many in let l = few_ps in omega arith))
      rearranged.as_many few_ps

  put_ks : Writes (SLOTS ∷ SEATS ∷ []) m₂ m₃
  put_ks = writes_put m₂ ps ks (λ p h. let l = seat_low p h in omega arith) small_ks

  abbrev m' : List ℕ
  m' = settled m₁

  settled_is : m' ≡ forgotten m₃
  unfolding settled
  settled_is = ap (λ (x : List ℕ). forgotten (dealt CARDS x (both_first x) 0)) chose_is ∙ ap forgotten dealt_is

  -- what is written
  abbrev written_columns : List Column
  written_columns = SLOTS ∷ SEATS ∷ columns

  wrote_so : Writes written_columns m m'
  wrote_so =
      rw settled_is
      (after written_columns sets m m₃ (forgotten m₃) refl (writes_forgotten m₃)
      (after written_columns (SLOTS ∷ SEATS ∷ []) m m₂ m₃ refl put_ks
      (after written_columns (CHOSEN ∷ []) m m₁ m₂ refl wrote_ks (less written_columns searched m m₁ refl P.kept))))

  -- the columns after it
  cell_put : (d : Column) (j : ℕ) → clear sets d ≡ true → cell m' d j ≡ cell m₃ d j
  cell_put d j x = ap (λ (z : List ℕ). cell z d j) settled_is ∙ (writes_forgotten m₃).others d j x

  length_m₂ : SEATS.base + SEATS.size ≤ length m₂
  length_m₂ = let e = wrote_ks.as_long in let l = room in omega arith

  slots_are : (p : ℕ) → cell m' SLOTS p ≡ exchanged slot ps ks p
  slots_are p =
      cell_put SLOTS p refl ∙ put_slots m₂ ps ks length_m₂ seat_low p
      ∙ exchanged_same (cell m₂ SLOTS) slot ps ks (λ x. wrote_ks.others SLOTS x refl ∙ P.kept.others SLOTS x refl) p

  seats_same : (s : ℕ) → cell m' SEATS s ≡ exchanged (cell m SEATS) ks ps s
  seats_same s =
      cell_put SEATS s refl ∙ put_places m₂ ps ks length_m₂ slot_low s
      ∙ exchanged_same (cell m₂ SEATS) (cell m SEATS) ks ps (λ x. wrote_ks.others SEATS x refl ∙ P.kept.others SEATS x refl) s

  -- what isn't written
  abbrev others : List Column
  others = COUNT ∷ ENDING ∷ FRESH ∷ FREE ∷ IDS ∷ CHAIN ∷ TAKEN ∷ []

  as_before : (V : View → Type 0) → V (view others m) → V (view others m')
  as_before V p = kept written_columns others refl m m' wrote_so V p

  row_again : IsRow m'
  row_again = record {
    long = let e = wrote_so.as_long in let l = R.is_row.long in omega arith;
    stands =
        as_before (λ v. Standing (v.at COUNT 0) (min (v.at ENDING 0) SEATS_MOST) (v.at FRESH 0) (v.at FREE 0) (v.at IDS) (v.at CHAIN)
        (cell m' SLOTS) (cell m' SEATS) (bit_set (v.at TAKEN)))
        (standing_again _ _ _ _ ps ks _ _ slot _ (taken m) R.is_row.stands rearranged _ _ slots_are seats_same);
  }

  row_so : row_of m' ≡ with_part (refilled B A) (row_of m) (rank m lo) (suc (rank m hi))
  unfolding listed amount
  row_so =
      as_before (λ v. map (cell m' SLOTS) (filter (bit_set (v.at TAKEN)) (range_with_len 0 (min (v.at ENDING 0) SEATS_MOST)))
      ≡ with_part (refilled B A) (row_of m) (rank m lo) (suc (rank m hi)))
      (ap (λ (g : ℕ → ℕ). map g (filter (taken m) (range_with_len 0 (ending m)))) (λ t p. slots_are p t)
      ∙ ap (map (exchanged slot ps ks)) seats_are
      ∙ row_is slot A B Q apart_so (before (taken m) lo n) (behind (taken m) lo n (ending m)) (rank m lo) (suc (rank m hi)) (inner_once (taken m) lo n)
      (before_out (taken m) lo n) (behind_out (taken m) lo n (ending m)) refl rank_behind
      ∙ ap (λ (xs : List ℕ). with_part (refilled B A) (map slot xs) (rank m lo) (suc (rank m hi))) (sym seats_are))

  -- that is the firm row
  back_row : place (row_of m) b < place (row_of m) a
  back_row =
      let x = place_ranked m R.is_row a ua in
      let y = place_ranked m R.is_row b ub in
      let z = amount_before (taken m) lo hi back (used_seat m R.is_row b ub).0 in
      omega arith

  firm_so : row_of m' ≡ firm_row r f a b open_so back_row
  firm_so =
      row_so ∙ ap₂ (λ (x y : ℕ). with_part (refilled B A) (row_of m) x (suc y)) (sym (place_ranked m R.is_row b ub)) (sym (place_ranked m R.is_row a ua))
      ∙ sym (firm_row_is r f a b open_so back_row)

  summed_m₃ : (c : Column) → clear (CHOSEN ∷ []) c ≡ true → clear (SLOTS ∷ SEATS ∷ []) c ≡ true → Summed m₁ c → Summed m₃ c
  unfolding CellsAlone
  summed_m₃ c x y s =
      (cells_alone m₁ m₃ c (λ i. put_ks.others c i y ∙ wrote_ks.others c i x)).1 (let l = s.lies in rw (put_ks.as_long, wrote_ks.as_long) l) s

  pub settled_so : Settled m m' a b
  settled_so = record {
    is_row = row_again;
    is_table = table_kept written_columns refl m m' wrote_so R.is_table;
    unmarked =
        subst Unmarked (sym settled_is)
        (forgets_all m₃ (summed_m₃ FORE.column refl refl P.fore_summed) (summed_m₃ HIND.column refl refl P.hind_summed));
    wrote = wrote_so;
    same_edges = edges_kept written_columns refl m m' wrote_so;
    same_used = λ s.
        as_before (λ v. in_use (cell m' SLOTS) (cell m' SEATS) (bit_set (v.at TAKEN)) s ≡ used m s)
        (used_same _ _ _ _ ps ks _ _ slot _ (taken m) R.is_row.stands rearranged _ _ slots_are seats_same s);
    same_taken = λ p. as_before (λ v. bit_set (v.at TAKEN) p ≡ taken m p) refl;
    is_firm = ap (λ (x : List ℕ). firm r a b x) firm_so ∙ firm_is r f a b open_so back_row;
    keeps_links = ap (λ (x : List ℕ). keeps x (with_link r a b)) firm_so ∙ firm_keeps r f a b open_so back_row;
  }

pub settles : (m₁ m' : List ℕ) → m' ≡ settled m₁ → Settles m₁ m'
unfolding Settles
settles m₁ m' e m a b R ua ub back P = rw e (settled_so m m₁ a b R ua ub back P)

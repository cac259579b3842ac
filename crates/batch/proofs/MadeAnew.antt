-- The row made anew, from a sound memory on: all cards come that come by the rule, one after another.
use Rattle.std.proofs.Common.{◌≡◌, ℕ, zero, suc, ◌+◌, ◌<◌, ◌≤◌, min, true, false, ◌&&◌, eqb, ltb, List, [], ◌∷◌, map, length, Some, None, Option, sym, refl, ap, ◌∙◌, subst, ap₂, inl, inr, arith}
use Rattle.std.specs.List.{range_with_len}
use Rattle.std.proofs.lemmas.Bool.{cases_lt, lt-ltb, le-ltb, and_parts}
use Rattle.order.specs.declared.board.TheConstants.{CARDS}
use Rattle.order.specs.declared.board.Link.{Link}
use Rattle.order.specs.Lists.{any, filter, has, distinct}
use Rattle.order.proofs.Filters.{distinct_filter, every_at}
use Rattle.memory.specs.Columns.{cell}
use Rattle.memory.specs.Footprints.{Writes}
use Rattle.memory.specs.Options.{given}
use Rattle.memory.specs.PlaceSets.{marked, first_mark}
use Rattle.memory.specs.PlaceSetLaws.{Summed, Least}
use Rattle.memory.proofs.Footprints.{less}
use Rattle.memory.proofs.Upward.{first_of_all}
use Rattle.row.specs.declared.layout.TheConstants.{COUNT}
use Rattle.row.specs.Meaning.{row_of, count, IsRow}
use Rattle.row.specs.Moves.{packed}
use Rattle.row.specs.Laws.{Packed}
use Rattle.row.proofs.Again.{packs}
use Rattle.row.proofs.Depending.{depends}
use Rattle.row.proofs.Framing.{packed_writes}
use Rattle.row.proofs.Named.{used_below, has_used, has_slot, length_slots}
use Rattle.links.specs.Table.{edges, IsTable}
use Rattle.links.proofs.Keeping.{table_kept, edges_kept}
use Rattle.search.specs.declared.layout.TheConstants.{FORE}
use Rattle.search.specs.Meaning.{slot_on}
use Rattle.search.proofs.Listed.{head_of, from_least, from_list, lists_filter}
use Rattle.batch.specs.declared.layout.TheConstants.{SPARE, LEAVES}
use Rattle.batch.specs.Columns.{packing}
use Rattle.batch.specs.Renewing.{cleared, counts, frees, prepared, drawn, Renewed, renewing, drawn_all, renewed}
use Rattle.batch.specs.RenewLaws.{MadeAnew, Renews}
use Rattle.batch.specs.Rule.{first_free, without, by_rule, anew}
use Rattle.batch.specs.RuleLaws.{within_row}
use Rattle.batch.proofs.Counting.{to_it, Counted, counts_so}
use Rattle.batch.proofs.Denseness.{dense_packed, few, row_is, row_once, slot_used, dense_kept}
use Rattle.batch.proofs.Drawing.{into, where_left, Drawing, is_free, draws}
use Rattle.batch.proofs.Freeing.{Tidy, Waiting, waiting_same, marks_alone, frees_all}
use Rattle.batch.proofs.Lefts.{part_whole, first_by_place}
use Rattle.batch.proofs.Many.{many_any, many_within}
use Rattle.batch.proofs.Within.{length_without}
use Rattle.batch.proofs.Writing.{freed_all_writes, own, renewed_writes}

module _ (m : List ℕ) (T : Tidy m) where
  abbrev ls : List Link
  ls = edges m

  -- the first mark is at the first card that doesn't wait
  module _ (left n : List ℕ) (D : Drawing m T left n) where
    least : Least (marked n FORE.column) (first_mark n FORE.column)
    least = first_of_all n FORE.column D.waiting.summed

    free_is : first_free ls left left ≡ given (first_mark n FORE.column) None (λ p. Some (slot_on m p))
    free_is =
        let M = marked n FORE.column in
        let first : first_mark n FORE.column ≡ head_of (filter M (range_with_len 0 (count m))) =
        from_list M 0 _ (first_mark n FORE.column)
        (lists_filter M 0 0 (count m) (omega arith) (λ r a b. absurd (omega arith)) (λ p l. D.waiting.marks_are p ∙ rw (le-ltb p (count m) (omega arith)) refl))
        (from_least M M (first_mark n FORE.column) (λ r. refl) least) in
        ap (first_free ls left) (D.part ∙ ap (filter (has left)) (row_is m T.dense))
        ∙ first_by_place ls left (slot_on m) M 0 (count m) (λ p l u.
        let w = many_any (λ (y : Link). eqb y.to (slot_on m p) && has left y.from) ls in
        D.waiting.marks_are p ∙ rw (lt-ltb p (count m) (omega arith), w) (grind arith))
        ∙ rw first refl

  -- what is so when no more come: xs came, after i others
  record Came (n : List ℕ) (i : ℕ) (xs : List ℕ) (y : Renewed) : Type 0 where
    as_many : y.came ≡ i + length xs
    wrote : map (cell y.memory SPARE) (range_with_len i (length xs)) ≡ xs
    kept : (j : ℕ) → j < i → cell y.memory SPARE j ≡ cell n SPARE j
    writes : Writes own m y.memory
    summed : Summed y.memory FORE.column
    none : (p : ℕ) → marked y.memory FORE.column p ≡ false

  came_none : (left n : List ℕ) (D : Drawing m T left n) (i : ℕ) → ((p : ℕ) → marked n FORE.column p ≡ false) → Came n i [] (record { memory = n; came = i })
  came_none left n D i h = record {
    as_many = omega arith;
    wrote = refl;
    kept = λ j l. refl;
    writes = D.waiting.wrote;
    summed = D.waiting.summed;
    none = h;
  }

  -- one more comes, or none; the rest is so
  by_mark : (f : ℕ) → ((left n : List ℕ) (i : ℕ) → Drawing m T left n → length left ≡ f → i + f ≤ CARDS → Came n i (by_rule f ls left) (renewing f n i)) →
      (left n : List ℕ) (i : ℕ) → Drawing m T left n → length left ≡ suc f → i + suc f ≤ CARDS → (o : Option ℕ) → first_mark n FORE.column ≡ o →
      Came n i (given (given o None (λ p. Some (slot_on m p))) [] (λ k. k ∷ by_rule f ls (without left k)))
      (given o (record { memory = n; came = i }) (λ p. renewing f (drawn n p i) (i + 1)))
  by_mark f rest left n i D l h None e = came_none left n D i (subst (Least (marked n FORE.column)) e (least left n D))
  by_mark f rest left n i D l h (Some p) e =
      let mark : marked n FORE.column p ≡ true = (subst (Least (marked n FORE.column)) e (least left n D)).0 in
      let w = draws m T left n D p mark i in
      let once : distinct left ≡ true = ap distinct D.part ∙ distinct_filter (has left) (row_of m) (row_once m T.dense.is_row) in
      let fewer = length_without left (slot_on m p) once (is_free m T left n D p mark).1 in
      let y = rest (without left (slot_on m p)) (drawn n p i) (i + 1) w.next (omega arith) (omega arith) in
      record {
        as_many = omega (arith, y.as_many);
        wrote = ap₂ ◌∷◌ (y.kept i (omega arith) ∙ w.here (omega arith)) y.wrote;
        kept = λ j b. y.kept j (omega arith) ∙ w.others j (λ z. omega arith);
        writes = y.writes;
        summed = y.summed;
        none = y.none;
      }

  comes : (f : ℕ) (left n : List ℕ) (i : ℕ) → Drawing m T left n → length left ≡ f → i + f ≤ CARDS → Came n i (by_rule f ls left) (renewing f n i)
  unfolding by_rule renewing any
  comes zero [] n i D l h = came_none [] n D i (λ p. D.waiting.marks_are p ∙ grind arith)
  comes zero (k ∷ left) n i D l h = absurd (omega arith)
  comes (suc f) left n i D l h = rw (free_is left n D) (by_mark f (comes f) left n i D l h (first_mark n FORE.column) refl)

module _ (m : List ℕ) (long : LEAVES.base + LEAVES.size ≤ length m) (S : IsRow m) (Tb : IsTable m) (summed : Summed m FORE.column)
    (none : (p : ℕ) → marked m FORE.column p ≡ false) (within : within_row (row_of m) (edges m)) where
  -- the row packed
  abbrev m₁ : List ℕ
  m₁ = packed m

  P : Packed m m₁
  P = packs m S

  w₁ : Writes packing m m₁
  w₁ = packed_writes m

  edges₁ : edges m₁ ≡ edges m
  edges₁ = edges_kept packing refl m m₁ w₁

  tidy : Tidy m₁
  tidy = record {
    dense = dense_packed m m₁ P;
    long = omega (arith, w₁.as_long, long);
    is_table = table_kept packing refl m m₁ w₁ Tb;
    within = rw (P.same_row, edges₁) within;
  }

  abbrev row : List ℕ
  row = row_of m₁

  -- its links counted
  abbrev n : List ℕ
  n = counts (cleared m₁)

  counted : Counted m₁ tidy.is_table n
  counted = counts_so m₁ tidy.is_table tidy.long

  waiting : Waiting m₁ tidy (λ p. false) (into m₁ tidy row) n
  waiting =
      let a = marks_alone m n (counted.wrote.as_long ∙ w₁.as_long) (λ j. counted.wrote.others FORE.column j refl ∙ w₁.others FORE.column j refl) summed in
      record {
        wrote = less _ _ m₁ n refl counted.wrote;
        summed = a.0;
        awaits_are = λ s h.
            counted.ins s h
            ∙ many_within (to_it s) (λ (y : Link). eqb y.to s && has row y.from) (λ (y : Link). has row y.from && has row y.to)
            (λ y h. rw (and_parts (has row y.from) (has row y.to) h).0 (grind arith)) (edges m₁) tidy.within;
        marks_are = λ p. a.1 p ∙ none p;
      }

  -- and marked what waits for none
  everywhere : (p : ℕ) → ltb p (count m₁) ≡ where_left m₁ tidy row p
  everywhere p = elim (cases_lt p (count m₁)) [
    | inl l ↦ rw (lt-ltb p (count m₁) l) (sym (has_slot m₁ tidy.dense.is_row (slot_on m₁ p) (slot_used m₁ tidy.dense p l)))
    | inr l ↦ rw (le-ltb p (count m₁) l)
  ]

  drawing : Drawing m₁ tidy row (prepared m)
  unfolding prepared
  drawing = record {
    waiting = waiting_same m₁ tidy _ _ _ _ (frees n) everywhere (λ s. refl) (frees_all m₁ tidy (into m₁ tidy row) n waiting);
    leaves_are = λ s h.
        (freed_all_writes (min (count n) CARDS) n 0).others LEAVES s refl
        ∙ counted.outs s (used_below m₁ tidy.dense.is_row s (sym (has_used m₁ tidy.dense.is_row s) ∙ h));
    part = part_whole row;
    ahead = λ a b j h. (and_parts (has row a) (has row b) (every_at (λ a b. has row a && has row b) (edges m₁) a b tidy.within j)).1;
  }

  -- all come
  came : Came m₁ tidy (prepared m) 0 (anew (edges m₁) row) (renewed m)
  unfolding renewed drawn_all
  came =
      let c = drawing.waiting.wrote.others COUNT 0 refl in
      let l = length_slots m₁ tidy.dense.is_row in
      let b = few m₁ tidy.dense in
      let z : min (count (prepared m)) CARDS ≡ length row = omega arith in
      rw z (comes m₁ tidy (length row) row (prepared m) 0 drawing refl (omega arith))

  abbrev m' : List ℕ
  m' = (renewed m).memory

  made_anew : MadeAnew m m' (renewed m).came
  made_anew =
      let w = came.writes in
      let s = depends own m₁ m' refl w in
      let many_came : (renewed m).came ≡ length (anew (edges m₁) row) = omega (arith, came.as_many) in
      let same : anew (edges m₁) row ≡ anew (edges m) (row_of m) = ap₂ anew edges₁ P.same_row in
      record {
        wrote = renewed_writes m;
        dense = dense_kept own m₁ m' refl w tidy.dense;
        is_table = table_kept own refl m₁ m' w tidy.is_table;
        same_row = s.same_row ∙ P.same_row;
        same_cards = s.same_cards ∙ P.same_cards;
        same_used = λ t. s.same_used t ∙ P.same_used t;
        same_edges = edges_kept own refl m₁ m' w ∙ edges₁;
        fore_summed = came.summed;
        fore_none = came.none;
        as_many = many_came ∙ ap length same;
        come = ap (λ (k : ℕ). map (cell m' SPARE) (range_with_len 0 k)) many_came ∙ came.wrote ∙ same;
      }

pub renews : Renews
renews m long S Tb summed none within = made_anew m long S Tb summed none within

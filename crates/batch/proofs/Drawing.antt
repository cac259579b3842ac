-- One card comes in the memory: its mark is taken away, it is noted, and its links are followed; and what is left then, and what waits.
use Rattle.std.proofs.Common.{◌≡◌, ℕ, ◌+◌, ◌<◌, Bool, true, false, not, ◌&&◌, eqb, ltb, List, [], ◌∷◌, map, reverse, length, sym, refl, ap, ◌∙◌, inl, inr, lit≤, arith}
use lib.ListN.{length-map}
use Rattle.std.specs.List.{fold}
use Rattle.std.proofs.lemmas.List.{length-reverse}
use Rattle.std.proofs.lemmas.Bool.{cases_Bool, cases_eq, cases_lt, both_ways, eq-eqb, ne_eqb, eqb-true, lt-ltb, le-ltb, ltb-true, and_parts, and_from}
use Rattle.std.proofs.lemmas.Bool.Decides.{nat_tests}
use Rattle.order.specs.declared.board.TheConstants.{CARDS}
use Rattle.order.specs.declared.board.Link.{Link}
use Rattle.order.specs.Lists.{every, any, filter, has}
use Rattle.order.proofs.Filters.{has_filter}
use Rattle.order.proofs.Ways.{joins}
use Rattle.memory.specs.Columns.{cell, written}
use Rattle.memory.specs.Footprints.{Writes}
use Rattle.memory.specs.PlaceSets.{marked, removed}
use Rattle.memory.proofs.Adding.{removing}
use Rattle.memory.proofs.Alone.{writes_removed}
use Rattle.memory.proofs.Cells.{length_written, cell_same, cell_other, cell_apart}
use Rattle.memory.proofs.Footprints.{after, put_one}
use Rattle.chains.specs.declared.cells.Pointer.{Pointer}
use Rattle.chains.specs.Tables.{at}
use Rattle.chains.specs.Walks.{walked}
use Rattle.chains.proofs.Walking.{leads, walked_led}
use Rattle.row.specs.declared.layout.TheConstants.{SLOTS, SEATS}
use Rattle.row.specs.Meaning.{row_of, used, count}
use Rattle.row.proofs.Named.{has_used}
use Rattle.links.specs.declared.layout.TheConstants.{ENTRIES, OUT}
use Rattle.links.specs.Table.{edges, part}
use Rattle.links.proofs.Giving.{out_gives}
use Rattle.links.proofs.Keeping.{out_walked}
use Rattle.links.proofs.Telling.{walked_is}
use Rattle.search.specs.declared.layout.TheConstants.{FORE}
use Rattle.search.specs.Meaning.{slot_on}
use Rattle.batch.specs.declared.layout.TheConstants.{SPARE, WAITS, LEAVES}
use Rattle.batch.specs.Renewing.{lessened, released, let_go, drawn}
use Rattle.batch.specs.Rule.{waits, without}
use Rattle.batch.proofs.Counting.{from_it}
use Rattle.batch.proofs.Denseness.{slot_at, slot_one, used_place}
use Rattle.batch.proofs.Freeing.{Tidy, Waiting, waiting_same, marks_alone, walks}
use Rattle.batch.proofs.Lefts.{Part, part_has, part_without}
use Rattle.batch.proofs.LinkByLink.{labels, along_writes, along_fold}
use Rattle.batch.proofs.Many.{many, many_any, many_parts, many_reverse, many_map, many_filter, has_reverse}
use Rattle.batch.proofs.RuleRows.{waits_from}
use Rattle.batch.proofs.Within.{has_without, without_has, every_in}
use Rattle.batch.proofs.Writing.{marking, lessening, lessened_writes, own}

-- what the links out of s go into
abbrev ends_of : List Link → ℕ → List ℕ
ends_of ls s = map (λ y. y.to) (filter (from_it s) ls)

ends_has : (ls : List Link) (s t : ℕ) → has (ends_of ls s) t ≡ joins ls s t
unfolding any filter
ends_has [] s t = refl
ends_has (l ∷ ls) s t = let ih = ends_has ls s t in grind (arith, nat_tests)

module _ (m : List ℕ) (T : Tidy m) where
  abbrev ls : List Link
  ls = edges m

  -- the links into t from what is left
  abbrev pub into : List ℕ → ℕ → ℕ
  into left t = many (λ (y : Link). eqb y.to t && has left y.from) ls

  -- the places of what is left
  abbrev pub where_left : List ℕ → ℕ → Bool
  where_left left p = ltb p (count m) && has left (slot_on m p)

  pub record Drawing (left n : List ℕ) : Type 0 where
    pub waiting : Waiting m T (where_left left) (into left) n
    pub leaves_are : (s : ℕ) → has left s ≡ true → cell n LEAVES s ≡ many (from_it s) ls
    pub part : Part (row_of m) left
    pub ahead : (a b : ℕ) → joins ls a b ≡ true → has left a ≡ true → has left b ≡ true

  -- the slot at a marked place comes
  module _ (left n : List ℕ) (D : Drawing left n) (p : ℕ) (mark : marked n FORE.column p ≡ true) where
    abbrev s : ℕ
    s = slot_on m p

    pub is_free : (p < count m) × (has left s ≡ true) × (into left s ≡ 0)
    is_free =
        let a = and_parts (where_left left p) (eqb (into left s) 0) (sym (D.waiting.marks_are p) ∙ mark) in
        let b = and_parts (ltb p (count m)) (has left s) a.0 in
        (ltb-true p (count m) b.0, b.1, eqb-true (into left s) 0 a.1)

    low : s < CARDS
    low = (slot_at m T.dense p is_free.0).0

    abbrev left' : List ℕ
    left' = without left s

    -- a link from what is left goes into what is left
    ahead' : (a b : ℕ) → joins ls a b ≡ true → has left a ≡ true → has left' b ≡ true
    ahead' a b j h =
        let no_wait : waits ls left s ≡ false = many_any (λ (y : Link). eqb y.to s && has left y.from) ls ∙ rw is_free.2 refl in
        has_without left s b (D.ahead a b j h) (λ e. both_ways (waits ls left s) no_wait (waits_from ls left a s (ap (joins ls a) (sym e) ∙ j) h))

    -- what the slot's links take away from waiting, the newest first
    abbrev ts : List ℕ
    ts = reverse (ends_of ls s)

    abbrev gone : ℕ → ℕ
    gone t = many (λ u. eqb u t) ts

    into_parts : (t : ℕ) → into left t ≡ into left' t + gone t
    into_parts t =
        many_parts (λ (y : Link). eqb y.to t && has left y.from) (λ (y : Link). eqb y.to t && has left' y.from) (λ (y : Link). eqb y.from s && eqb y.to t)
        (λ y.
        let w = has_filter (λ i. not (eqb i s)) left y.from in
        elim (cases_Bool (eqb y.from s)) [
          | inl e ↦ rw (w, e, ap (has left) (eqb-true y.from s e) ∙ is_free.1) (grind (arith, nat_tests))
          | inr e ↦ rw (w, e) (omega arith)
        ]) ls
        ∙ ap (λ (x : ℕ). into left' t + x) (sym (many_reverse (λ u. eqb u t) (ends_of ls s)
        ∙ many_map (λ u. eqb u t) (λ (y : Link). y.to) (filter (from_it s) ls) ∙ many_filter (λ (y : Link). eqb y.to t) (from_it s) ls))

    -- they go into what is left then
    goes : every (λ t. used m t && where_left left' (cell m SEATS t)) ts ≡ true
    goes = every_in _ ts (λ t h.
        let l = ahead' s t (sym (has_reverse (ends_of ls s) t ∙ ends_has ls s t) ∙ h) is_free.1 in
        let u = sym (has_used m T.dense.is_row t) ∙ part_has (row_of m) left t D.part (without_has left s t l).0 in
        let a = used_place m T.dense t u in
        and_from _ _ u (and_from _ _ (lt-ltb (cell m SEATS t) (count m) a.0) (ap (has left') a.1 ∙ l)))

    -- a place less is marked
    place_less : (x : ℕ) → (where_left left x && not (eqb x p)) ≡ where_left left' x
    place_less x =
        let w = has_filter (λ i. not (eqb i s)) left (slot_on m x) in
        elim (cases_lt x (count m)) [
          | inl l ↦ elim (cases_eq x p) [
            | inl e ↦ rw (w, eq-eqb x p e, eq-eqb (slot_on m x) s (ap (slot_on m) e)) (grind arith)
            | inr e ↦ rw (w, ne_eqb x p e, ne_eqb (slot_on m x) s (λ z. e (slot_one m T.dense x p l is_free.0 z))) (grind arith)
          ]
          | inr l ↦ rw (le-ltb x (count m) l)
        ]

    inside : (q : ℕ) → where_left left' q ≡ true → q < count m
    inside q h = ltb-true q (count m) (and_parts (ltb q (count m)) (has left' (slot_on m q)) h).0

    -- the memory when the slot has come, after i others, and before its links are followed
    module _ (i : ℕ) where
      abbrev n₁ : List ℕ
      n₁ = removed n FORE.column p

      abbrev n₂ : List ℕ
      n₂ = written n₁ SPARE i s

      abbrev n₃ : List ℕ
      n₃ = written n₂ LEAVES s 0

      unmarked : Writes marking n n₁
      unmarked = writes_removed FORE.column n p

      wrote_n₃ : Writes own m n₃
      wrote_n₃ =
          after _ _ m n₂ n₃ refl (put_one n₂ LEAVES s 0 (λ z. omega arith))
          (after _ _ m n₁ n₂ refl (put_one n₁ SPARE i s (λ z. omega (arith, low))) (after _ _ m n n₁ refl unmarked D.waiting.wrote))

      waiting_n₃ : Waiting m T (where_left left') (λ t. into left' t + gone t) n₃
      waiting_n₃ =
          let r = removing n FORE.column p D.waiting.summed in
          let a = marks_alone n₁ n₃ (length_written n₂ LEAVES s 0 ∙ length_written n₁ SPARE i s)
          (λ j. cell_apart n₂ LEAVES FORE.column s j 0 refl ∙ cell_apart n₁ SPARE FORE.column i j s refl) r.0 in
          waiting_same m T _ _ _ _ n₃ place_less into_parts (record {
            wrote = wrote_n₃;
            summed = a.0;
            awaits_are = λ t h.
                cell_apart n₂ LEAVES WAITS s t 0 refl ∙ cell_apart n₁ SPARE WAITS i t s refl ∙ unmarked.others WAITS t refl ∙ D.waiting.awaits_are t h;
            marks_are = λ x. a.1 x ∙ r.1 x ∙ rw (D.waiting.marks_are x) (grind arith);
          })

      -- its links are followed, as many as were counted
      turns : cell n₂ LEAVES s ≡ length ts
      turns =
          cell_apart n₁ SPARE LEAVES i s s refl ∙ unmarked.others LEAVES s refl ∙ D.leaves_are s is_free.1
          ∙ sym (length-reverse (ends_of ls s) ∙ length-map (filter (from_it s) ls) (λ (y : Link). y.to))

      labels_so : labels (length ts) OUT n₃ s ≡ ts
      labels_so =
          let t = T.is_table.table.table.outs in
          let xs = part (λ x. x.from) (λ x. x.to) T.is_table.table.entries s in
          let w : walked ENTRIES OUT m s ≡ xs = walked_is OUT m (part (λ x. x.from) (λ x. x.to) T.is_table.table.entries) s t low (lit≤ tt) in
          let g : map (λ (x : Pointer). x.label) xs ≡ ts = rw w at (out_gives m T.is_table s low) in
          ap (map (λ (x : Pointer). x.label)) (out_walked own refl m n₃ wrote_n₃ (length ts) s
          ∙ walked_led OUT m (length ts) xs s (leads OUT (at OUT m) xs s (t.spelled s low)) (omega (arith, ap length g, length-map xs (λ (x : Pointer). x.label)))) ∙ g

      pub record Drawn (k : List ℕ) : Type 0 where
        pub next : Drawing left' k
        pub here : i < CARDS → cell k SPARE i ≡ s
        pub others : (j : ℕ) → (j ≡ i → ⊥) → cell k SPARE j ≡ cell n SPARE j

      pub draws : Drawn (drawn n p i)
      unfolding drawn let_go
      draws =
          let k = released (length ts) n₃ s in
          let e : drawn n p i ≡ k =
          ap (λ (x : ℕ). let_go (written n₁ SPARE i x) x) (D.waiting.wrote.others SLOTS p refl) ∙ ap (λ (f : ℕ). released f n₃ s) turns in
          let f : fold lessened n₃ ts ≡ k = sym (along_fold OUT lessened lessening lessened_writes refl (length ts) n₃ s ∙ ap (fold lessened n₃) labels_so) in
          let w = along_writes OUT lessened lessening lessened_writes (length ts) n₃ s in
          rw e (record {
            next = record {
              waiting = rw (← f) (walks m T (where_left left') inside ts (into left') n₃ goes waiting_n₃);
              leaves_are = λ t h.
                  let a = without_has left s t h in
                  w.others LEAVES t refl ∙ cell_other n₂ LEAVES s t 0 a.1 ∙ cell_apart n₁ SPARE LEAVES i t s refl ∙ unmarked.others LEAVES t refl
                  ∙ D.leaves_are t a.0;
              part = part_without (row_of m) left s D.part;
              ahead = λ a b j h. ahead' a b j (without_has left s a h).0;
            };
            here = λ h.
                w.others SPARE i refl ∙ cell_apart n₂ LEAVES SPARE s i 0 refl
                ∙ cell_same n₁ SPARE i s h (omega (arith, unmarked.as_long, D.waiting.wrote.as_long, T.long));
            others = λ j d. w.others SPARE j refl ∙ cell_apart n₂ LEAVES SPARE s j 0 refl ∙ cell_other n₁ SPARE i j s d ∙ unmarked.others SPARE j refl;
          })

-- Cards come into a memory of zeros, and links are put in: it holds them in their order, or one of them is refused.
use Rattle.std.proofs.Common.{◌≡◌, ℕ, zero, suc, ◌+◌, ◌^◌, ◌<◌, ◌≤◌, true, false, ◌&&◌, ltb, List, [], ◌∷◌, ◌++◌, map, length, get_or, replicate, Some, None, Option, sym, refl, ap, ap₂, ◌∙◌, subst, inl, inr, append_assoc, length-append, arith}
use lib.ListN.{length-map, length-replicate}
use Rattle.std.proofs.lemmas.List.{append-nil, map-append}
use Rattle.std.proofs.lemmas.Bool.{cases_Bool, cases_lt, le-leb, lt-leb, cond_both, and_parts}
use Rattle.order.specs.declared.board.TheConstants.{CARDS, LINKS}
use Rattle.order.specs.declared.board.Link.{Link}
use Rattle.order.specs.declared.board.Refusal.{Refusal}
use Rattle.order.specs.declared.board.Refusal.TheVariants.{Exists, Full}
use Rattle.order.specs.Lists.{every, has}
use Rattle.order.specs.Board.{◌⟶◌}
use Rattle.order.specs.Outcomes.{Outcome, refused}
use Rattle.order.specs.Renaming.{named}
use Rattle.order.proofs.Filters.{every_more}
use Rattle.order.proofs.RenamesLinks.{more_known}
use Rattle.memory.specs.declared.column.TheConstants.{MEMORY}
use Rattle.memory.specs.declared.column.Column.{Column}
use Rattle.memory.specs.Columns.{cell, written, apart}
use Rattle.memory.specs.Footprints.{within, Writes}
use Rattle.memory.specs.PlaceSets.{marked}
use Rattle.memory.specs.PlaceSetLaws.{Summed}
use Rattle.memory.proofs.Cells.{length_written, cell_apart}
use Rattle.memory.proofs.Footprints.{clear_within, view_same}
use Rattle.memory.proofs.NoPlaces.{zeros_of}
use Rattle.memory.proofs.Options.{given_holds}
use Rattle.row.specs.declared.layout.TheConstants.{HEADS, COUNT, IDS, CHAIN}
use Rattle.row.specs.Columns.{columns as row_columns}
use Rattle.row.specs.Lookup.{bucket, found, entered}
use Rattle.row.specs.Meaning.{used, cards, count, IsRow}
use Rattle.row.specs.Moves.{slot_for, slot_taken, roomy, arrived, came}
use Rattle.row.specs.Theory.{SameRow}
use Rattle.row.proofs.Beginning.{begins}
use Rattle.row.proofs.Coming.{comes_appends}
use Rattle.row.proofs.Depending.{depends}
use Rattle.row.proofs.Framing.{roomy_writes, slot_taken_writes, joined_writes}
use Rattle.row.proofs.Named.{used_below}
use Rattle.row.proofs.Present.{finds}
use Rattle.links.specs.declared.layout.TheConstants.{ENTRIES}
use Rattle.links.specs.Entries.{inserted}
use Rattle.links.specs.Laws.{Begins as LinksBegin}
use Rattle.links.specs.Table.{columns as link_columns, edges, IsTable, TableIn}
use Rattle.links.proofs.Beginning.{begins as links_begin}
use Rattle.links.proofs.Keeping.{edges_kept}
use Rattle.links.proofs.Operating.{inserts_table, inserts_edges}
use Rattle.links.proofs.Writing.{inserted_writes}
use Rattle.search.specs.declared.layout.TheConstants.{FORE}
use Rattle.keeper.specs.Linking.{slots_found}
use Rattle.batch.specs.Loading.{Loaded, refusal_of, cards_come, put_one, put_all, links_come, loaded}
use Rattle.batch.specs.AnewLaws.{cards_refusal, links_refusal, row_refusal}
use Rattle.batch.proofs.Freeing.{marks_alone}
use Rattle.batch.proofs.LookUps.{all_found_is}

abbrev zeros : List ℕ
zeros = replicate MEMORY 0

small_zeros : (n i : ℕ) → get_or {A = ℕ} (replicate n 0) i 0 < 2 ^ 64
small_zeros zero i = omega arith
small_zeros (suc n) zero = omega arith
small_zeros (suc n) (suc i) = small_zeros n i

-- Beside the row stand zeros. A card's number may be large, so what it leaves is told by the way back to zeros, which are small.
abbrev Back : List ℕ → Type 0
Back n = Writes row_columns n zeros

back_put : (n : List ℕ) (c : Column) (i v : ℕ) → within (c ∷ []) row_columns ≡ true → Back n → Back (written n c i v)
back_put n c i v h b = record {
  as_long = b.as_long ∙ sym (length_written n c i v);
  others = λ d j e. b.others d j e ∙ sym (cell_apart n c d i j v (and_parts (apart c d) true (clear_within (c ∷ []) row_columns d h e)).0);
  small = λ _. small_zeros MEMORY;
}

back_after : (fs : List Column) (n k : List ℕ) → within fs row_columns ≡ true → Writes fs n k → Back n → Back k
back_after fs n k h w b = record {
  as_long = b.as_long ∙ sym w.as_long;
  others = λ d j e. b.others d j e ∙ sym (w.others d j (clear_within fs row_columns d h e));
  small = λ _. small_zeros MEMORY;
}

slot_low : (m : List ℕ) → slot_for m < CARDS
unfolding slot_for
slot_low m = omega arith

back_came : (n : List ℕ) (k : ℕ) → Back n → Back (came n k).memory
unfolding came arrived entered
back_came n k b =
    let r = roomy n in
    let s = slot_for r in
    given_holds (λ _. Unit {0}) (λ (o : Outcome). Back o.memory) (found n k) _ (λ _. refused n Exists) tt
    (cond_both (ltb (count n) CARDS) _ (refused n Full) (λ (o : Outcome). Back o.memory)
    (λ _.
    let taken = back_after _ r _ refl (slot_taken_writes r s (slot_low r)) (back_after _ n r refl (roomy_writes n) b) in
    let entered = back_put _ CHAIN (bucket k) (s + 1) refl (back_put _ CHAIN (HEADS + s) (cell (slot_taken r s) CHAIN (bucket k)) refl (back_put _ IDS s k refl taken)) in
    back_put _ COUNT 0 (count n + 1) refl (back_after _ _ _ refl (joined_writes _ s (slot_low r)) entered))
    (λ _. b)) (λ _ _. b)

-- the memory holds the cards, in this order, and nothing else
record Brought (m row : List ℕ) : Type 0 where
  back : Back m
  is_row : IsRow m
  cards_are : cards m ≡ row

-- the cards ks come behind those of the row
record Come (row ks : List ℕ) (x : Loaded) : Type 0 where
  refused_so : x.refused ≡ cards_refusal row ks
  holds : cards_refusal row ks ≡ None → Brought x.memory (row ++ ks)

-- one card is refused
stops : (m row ks : List ℕ) (k : ℕ) (e : Refusal) → came m k ≡ refused m e → cards_refusal row (k ∷ ks) ≡ Some e → Come row (k ∷ ks) (cards_come m (k ∷ ks))
unfolding cards_come
stops m row ks k e c r = record { refused_so = rw c (sym r); holds = λ n. cc }

come : (ks m row : List ℕ) → Brought m row → Come row ks (cards_come m ks)
unfolding cards_come cards_refusal
come [] m row B = record { refused_so = refl; holds = λ _. subst (Brought m) (sym (append-nil row)) B }
come (k ∷ ks) m row B =
    let q = B.cards_are in
    let law = comes_appends m k B.is_row in
    let h : has (cards m) k ≡ has row k = ap (λ (xs : List ℕ). has xs k) q in
    elim (cases_Bool (has row k)) [
      | inl t ↦ stops m row ks k Exists (law.0 (h ∙ t)) (rw t)
      | inr t ↦ elim (cases_lt (length row) CARDS) [
        | inl l ↦
            let w = law.2 (h ∙ t) (omega (arith, ap length q)) in
            let v = come ks (came m k).memory (row ++ k ∷ [])
            (record { back = back_came m k B.back; is_row = w.2.is_row; cards_are = w.2.cards_are ∙ ap (λ (xs : List ℕ). xs ++ k ∷ []) q }) in
            let r : cards_refusal row (k ∷ ks) ≡ cards_refusal (row ++ k ∷ []) ks = rw (t, lt-leb CARDS (length row) l) in
            rw (ap refusal_of w.1)
            (record { refused_so = v.refused_so ∙ sym r; holds = λ z. subst (Brought _) (append_assoc row (k ∷ []) ks) (v.holds (sym r ∙ z)) })
        | inr l ↦ stops m row ks k Full (law.1 (h ∙ t) (omega (arith, ap length q))) (rw (t, le-leb CARDS (length row) l))
      ]
    ]

-- the memory holds the cards, in this order, and no place is marked
pub record Fresh (m row : List ℕ) : Type 0 where
  pub long : length m ≡ MEMORY
  pub is_row : IsRow m
  pub is_table : IsTable m
  pub summed : Summed m FORE.column
  pub none : (p : ℕ) → marked m FORE.column p ≡ false
  pub cards_are : cards m ≡ row

-- the marks of a memory that has the same cells for them
marks_same : (m m' : List ℕ) → length m' ≡ length m → ((i : ℕ) → cell m' FORE.column i ≡ cell m FORE.column i) → Summed m FORE.column →
    ((p : ℕ) → marked m FORE.column p ≡ false) → Summed m' FORE.column × ((p : ℕ) → marked m' FORE.column p ≡ false)
marks_same m m' l e s z = let a = marks_alone m m' l e s in (a.0, λ p. a.1 p ∙ z p)

brought_fresh : (m row : List ℕ) → Brought m row → Fresh m row × (edges m ≡ [])
unfolding LinksBegin
brought_fresh m row B =
    let t = links_begin.1 MEMORY (omega arith) in
    let s = zeros_of MEMORY FORE.column (omega arith) (omega arith) in
    let a = marks_same zeros m (sym B.back.as_long) (λ i. sym (B.back.others FORE.column i refl)) s.0 s.1 in (
      record {
        long = sym B.back.as_long ∙ length-replicate {A = ℕ} MEMORY 0;
        is_row = B.is_row;
        is_table = record { table = subst TableIn (view_same row_columns link_columns refl m zeros B.back) t.0.table };
        summed = a.0;
        none = a.1;
        cards_are = B.cards_are;
      },
      sym (edges_kept row_columns refl m zeros B.back) ∙ t.1,
    )

-- the memory holds the cards and the links
pub record Holding (m row : List ℕ) (ls : List Link) : Type 0 where
  pub fresh : Fresh m row
  pub links_are : map (named (cell m IDS)) (edges m) ≡ ls
  pub ends : every (λ l. used m l.from && used m l.to) (edges m) ≡ true

-- one link more, between two cards that are there
abbrev Slot : List ℕ → ℕ → ℕ → Type 0
Slot m k s = (found m k ≡ Some s) × (used m s ≡ true) × (cell m IDS s ≡ k)

module _ (m row : List ℕ) (ls : List Link) (H : Holding m row ls) (l : Link) (a b : ℕ) (A : Slot m l.from a) (B : Slot m l.to b)
    (few : length ls < ENTRIES) where
  abbrev F : Fresh m row
  F = H.fresh

  abbrev m' : List ℕ
  m' = inserted m (a ⟶ b)

  wrote : Writes link_columns m m'
  wrote = inserted_writes m (a ⟶ b)

  S : SameRow m m'
  S = depends link_columns m m' refl wrote

  more : edges m' ≡ edges m ++ (a ⟶ b) ∷ []
  more =
      inserts_edges m (a ⟶ b) F.is_table (omega (arith, ap length H.links_are, length-map (edges m) (named (cell m IDS))))
      (used_below m F.is_row a A.1) (used_below m F.is_row b B.1)

  links_then : map (named (cell m' IDS)) (edges m') ≡ ls ++ l ∷ []
  links_then =
      ap₂ (λ (f : ℕ → ℕ) (es : List Link). map (named f) es) (λ t j. S.same_ids j t) more ∙ map-append (named (cell m IDS)) (edges m) ((a ⟶ b) ∷ [])
      ∙ ap₂ (λ (xs : List Link) (x : Link). xs ++ x ∷ []) H.links_are (ap₂ ◌⟶◌ A.2 B.2)

  put_more : Holding (put_one m l) row (ls ++ l ∷ [])
  unfolding put_one slots_found
  put_more =
      let k = marks_same m m' wrote.as_long (λ i. wrote.others FORE.column i refl) F.summed F.none in
      rw (A.0, B.0) (record {
        fresh = record {
          long = wrote.as_long ∙ F.long;
          is_row = S.is_row F.is_row;
          is_table = inserts_table m (a ⟶ b) F.is_table;
          summed = k.0;
          none = k.1;
          cards_are = S.same_cards ∙ F.cards_are;
        };
        links_are = links_then;
        ends =
            ap (every (λ (y : Link). used m' y.from && used m' y.to)) more
            ∙ every_more (λ y. used m y.from && used m y.to) _ (λ y t. rw (S.same_used y.from, S.same_used y.to) t) _
            (more_known (used m) (edges m) a b H.ends A.1 B.1);
      })

-- all of them
put_in_all : (ls done : List Link) (m row : List ℕ) → Holding m row done → every (λ l. has row l.from && has row l.to) ls ≡ true →
    length done + length ls ≤ LINKS → Holding (put_all m ls) row (done ++ ls)
unfolding put_all every
put_in_all [] done m row H e h = subst (Holding m row) (sym (append-nil done)) H
put_in_all (l ∷ ls) done m row H e h =
    let p = and_parts (has row l.from && has row l.to) _ e in
    let q = and_parts (has row l.from) (has row l.to) p.0 in
    let slot = λ (k : ℕ) (t : has row k ≡ true). (finds m k H.fresh.is_row).2 (ap (λ (ks : List ℕ). has ks k) H.fresh.cards_are ∙ t) in
    let a = slot l.from q.0 in
    let b = slot l.to q.1 in
    subst (Holding (put_all (put_one m l) ls) row) (append_assoc done (l ∷ []) ls)
    (put_in_all ls (done ++ l ∷ []) (put_one m l) row (put_more m row done H l a.0 b.0 (a.1, a.2, a.3) (b.1, b.2, b.3) (omega arith)) p.1
    (omega (arith, length-append done (l ∷ []))))

-- the links come: refused by the first reason, or held
links_in : (m row : List ℕ) (ls : List Link) → Brought m row →
    ((links_come m ls).refused ≡ links_refusal row ls) × (links_refusal row ls ≡ None → Holding (links_come m ls).memory row ls)
unfolding links_come links_refusal every
links_in m row ls B =
    let F = brought_fresh m row B in
    let e = all_found_is m B.is_row ls ∙ ap (λ (ks : List ℕ). every (λ l. has ks l.from && has ks l.to) ls) B.cards_are in
    elim (cases_Bool (every (λ l. has row l.from && has row l.to) ls)) [
      | inl t ↦ elim (cases_lt LINKS (length ls)) [
        | inl h ↦ rw (e, t, lt-leb (length ls) LINKS h) (refl, λ z. cc)
        | inr h ↦ rw (e, t, le-leb (length ls) LINKS h) (
          refl,
          λ _. put_in_all ls [] m row (record {
            fresh = F.0;
            links_are = ap (map (named (cell m IDS))) F.1;
            ends = ap (every (λ (l : Link). used m l.from && used m l.to)) F.1;
          }) t (omega arith),
        )
      ]
      | inr t ↦ rw (e, t) (refl, λ z. cc)
    ]

-- a memory filled from nothing
abbrev Filled : List ℕ → List Link → Loaded → Type 0
Filled row ls x = (x.refused ≡ row_refusal row ls) × (row_refusal row ls ≡ None → Holding x.memory row ls)

fills : (m row : List ℕ) (ls : List Link) → Come [] row (cards_come m row) → (o : Option Refusal) → cards_refusal [] row ≡ o → Filled row ls (loaded m row ls)
unfolding loaded row_refusal
fills m row ls C None e = rw (C.refused_so, e) (links_in (cards_come m row).memory row ls (C.holds e))
fills m row ls C (Some why) e = rw (C.refused_so, e) (refl, λ z. cc)

pub filled : (row : List ℕ) (ls : List Link) → Filled row ls (loaded zeros row ls)
filled row ls =
    let nothing : Brought zeros [] =
    record { back = record { as_long = refl; others = λ c i e. refl; small = λ s. s }; is_row = begins.0; cards_are = begins.1 } in
    fills zeros row ls (come row zeros [] nothing) (cards_refusal [] row) refl

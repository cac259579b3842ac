-- What the operations do to the table, by their models.
use Rattle.std.proofs.Common.{◌≡◌, ℕ, ◌<◌, ◌≤◌, Bool, true, false, not, ◌&&◌, ◌||◌, eqb, ltb, List, [], ◌∷◌, ◌++◌, map, filter, length, min, is_some, is_ok, Some, None, Option, refl, sym, ap, ◌∙◌, inl, inr, lit≤, arith}
use Rattle.std.specs.Option.{option_map}
use Rattle.std.proofs.lemmas.Bool.{cases_Bool, cases_lt, lt-ltb}
use Rattle.std.proofs.lemmas.Bool.Decides.{nat_tests}
use mathlib.Core.List.{reverse-cons}
use Rattle.memory.specs.Footprints.{view}
use Rattle.order.specs.declared.board.TheConstants.{CARDS}
use Rattle.order.specs.declared.board.Link.{Link}
use Rattle.order.specs.declared.board.Refusal.TheVariants.{Missing}
use Rattle.order.specs.Lists.{any, every, filter as kept}
use Rattle.chains.specs.declared.cells.Pointer.{Pointer}
use Rattle.chains.specs.Tables.{unhooked}
use Rattle.chains.specs.Walks.{walked}
use Rattle.links.specs.declared.layout.TheConstants.{ENTRIES, OUT, IN, AGE, ALL, PAIR}
use Rattle.links.specs.Pairs.{is_between, pair, bucket, joins}
use Rattle.links.specs.Entries.{live, used, taken, freed, inserted, sought, looked_up, found, refused, removed, emptied, removed_all}
use Rattle.links.specs.Table.{columns, edges, Entry, point, part, listed, others, TableOf, IsTable, once}
use Rattle.links.proofs.Pairing.{bucket_below, joins_is}
use Rattle.links.proofs.Filtering.{filter_both, kept_all, low_listed}
use Rattle.links.proofs.Coming.{all_apart}
use Rattle.links.proofs.Telling.{links_of, walked_is, all_walked, edges_is, edges_length, edges_any, edges_every, edges_kept, links_filter, links_any, links_every}
use Rattle.links.proofs.Standing.{TableFor, table_less, table_less_out, table_less_in}
use Rattle.links.proofs.Taking.{taking, table_more}
use Rattle.links.proofs.Onces.{once_turned, at_entry, at_listed, entry_less}
use Rattle.links.proofs.Seeking.{there_is, there_at, none_outside}

-- each link is between slots, and counted
module _ (m : List ℕ) (h : IsTable m) where
  abbrev L : List Entry
  L = h.table.entries

  abbrev free : List Pointer
  free = h.table.free

  abbrev t : TableOf (view columns m) L free
  t = h.table.table

  pub counts : live m ≡ length (edges m)
  counts = let c : live m ≡ length L = t.count in let e = edges_length m L free t in cc

  pub counts_few : live m ≤ ENTRIES
  counts_few = let c : live m ≡ length L = t.count in let f = t.filled in let r = t.room in omega arith

  pub all_between : every is_between (edges m) ≡ true
  all_between = let e = edges_every m L free t is_between in let l = links_every is_between L in let b = t.between in cc

-- a link is put in
module _ (m : List ℕ) (x : Link) where
  -- what a table is after it: the entries, and what they are if there was room
  abbrev More : List Entry → Type 0
  More L = (M : List Entry) × (free : List Pointer) × TableOf (view columns (inserted m x)) M free
      × (length L < ENTRIES → is_between x ≡ true → links_of M ≡ x ∷ links_of L)

  more : (L : List Entry) (free : List Pointer) → TableOf (view columns m) L free → More L
  unfolding inserted
  more L free t = elim (cases_Bool (is_between x)) [
    | inr b ↦ (L, free, rw b t, λ l c. cc)
    | inl b ↦ elim (taking m L free t) [
      | inl k ↦ (record { number = k.0; link = x } ∷ L, k.1, rw (b, k.2) (table_more (taken m) k.0 L k.1 k.3 x b), λ l c. refl)
      | inr k ↦ (L, free, rw (b, k.0, k.1) t, λ l c. absurd (omega (arith, k.2)))
    ]
  ]

  pub inserts_table : IsTable m → IsTable (inserted m x)
  inserts_table h = let r = more h.table.entries h.table.free h.table.table in record { table = record { entries = r.0; free = r.1; table = r.2 } }

  pub inserts_edges : IsTable m → length (edges m) < ENTRIES → x.from < CARDS → x.to < CARDS → edges (inserted m x) ≡ edges m ++ x ∷ []
  inserts_edges h l f g =
      let r = more (L m h) (free m h) (t m h) in let e = edges_length m (L m h) (free m h) (t m h) in
      let k = r.3 (omega arith) (grind (arith, nat_tests)) in
      let a = edges_is (inserted m x) r.0 r.1 r.2 in let b = edges_is m (L m h) (free m h) (t m h) in let c = reverse-cons x (links_of (L m h)) in cc

-- a link is found
module _ (m : List ℕ) (x : Link) (h : IsTable m) where
  abbrev K : List Entry
  K = L m h

  looked_there : is_between x ≡ true → looked_up m x ≡ sought (pair x) (part bucket pair K (bucket x))
  unfolding looked_up
  looked_there b = rw b (ap (sought (pair x)) (walked_is PAIR m (part bucket pair K) (bucket x) (t m h).pairs (bucket_below x) (lit≤ tt)))

  looked_none : is_between x ≡ false → looked_up m x ≡ None
  unfolding looked_up
  looked_none b = rw b refl

  looks : is_some (looked_up m x) ≡ any (joins x) (edges m)
  looks = elim (cases_Bool (is_between x)) [
    | inl b ↦
        let f = looked_there b in let i = there_is x b K (t m h).between in let l = links_any (joins x) K in
        let e = edges_any m K (free m h) (t m h) (joins x) in cc
    | inr b ↦ let f = looked_none b in let n = none_outside x (edges m) b (all_between m h) in cc
  ]

  looked_entry : (e : ℕ) → looked_up m x ≡ Some e → at_entry e x K ≡ true
  looked_entry e f = elim (cases_Bool (is_between x)) [
    | inl b ↦ there_at x b K e (t m h).between (sym (looked_there b) ∙ f)
    | inr b ↦ let n = looked_none b in cc
  ]

  -- the entry that is looked up is no further than the last
  uncut : (o : Option ℕ) → looked_up m x ≡ o → option_map (λ e. min e ENTRIES) o ≡ o
  uncut None f = refl
  uncut (Some e) f =
      let l : listed e K ≡ true = let a = at_listed e x K (looked_entry e f) in grind arith in
      let b : e ≤ used m = low_listed (λ (y : Entry). y.number) (used m) e K (t m h).low l in
      let r : used m ≤ ENTRIES = (t m h).room in
      let q : min e ENTRIES ≡ e = omega arith in ap Some q

  found_is : found m x ≡ looked_up m x
  unfolding found
  found_is = uncut (looked_up m x) refl

  pub finds : is_some (found m x) ≡ any (joins x) (edges m)
  finds = ap is_some found_is ∙ looks

  in_age_chain : (e : ℕ) (M : List Entry) → at_entry e x M ≡ true → any (λ y. eqb y.held e && eqb y.label (pair x)) (map (point pair) M) ≡ true
  unfolding any
  in_age_chain e [] a = cc
  in_age_chain e (y ∷ M) a = let ih = in_age_chain e M in let j = joins_is x y.link in grind (arith, nat_tests)

  pub finds_at : (e : ℕ) → found m x ≡ Some e → any (λ y. eqb y.held e && eqb y.label (pair x)) (walked ENTRIES AGE m ALL) ≡ true
  finds_at e f = let w = all_walked m K (free m h) (t m h) in let c = in_age_chain e K (looked_entry e (sym found_is ∙ f)) in cc

  -- a link is taken out
  less : (e : ℕ) → looked_up m x ≡ Some e → TableFor (freed (unhooked IN (unhooked OUT m e) e) e) (others e K)
  less e f = table_less m K (free m h) (t m h) e (let a = at_listed e x K (looked_entry e f) in grind arith)

  removed_to : (o : Option ℕ) → looked_up m x ≡ o
      → IsTable (removed m x).memory × (once (edges m) ≡ true → edges (removed m x).memory ≡ kept (λ y. not (joins x y)) (edges m))
  unfolding removed
  removed_to None f = let s = looks in rw f (h, λ o. sym (kept_all (joins x) (edges m) (cc)))
  removed_to (Some e) f =
      let l = less e f in rw f (
        record { table = record { entries = others e K; free = l.0; table = l.1 } },
        λ o. let a = edges_is m K (free m h) (t m h) in
            let k = entry_less e x K (all_apart m K (free m h) (t m h).ages) (once_turned (links_of K) (rw a at o)) (looked_entry e f) in
            let b = edges_is _ (others e K) l.0 l.1 in let c = edges_kept m K (free m h) (t m h) (λ y. not (joins x y)) in cc,
      )

  pub removes_table : IsTable (removed m x).memory
  removes_table = (removed_to (looked_up m x) refl).0

  pub removes_edges : once (edges m) ≡ true → edges (removed m x).memory ≡ kept (λ y. not (joins x y)) (edges m)
  removes_edges = (removed_to (looked_up m x) refl).1

  pub removes_missing : any (joins x) (edges m) ≡ false → removed m x ≡ refused m Missing
  unfolding removed
  removes_missing n = let f = looks in grind arith

  pub removes_ok : is_ok (removed m x).answer ≡ any (joins x) (edges m)
  unfolding removed
  removes_ok = let f = looks in grind arith

-- all of a slot are
module _ (m : List ℕ) (s : ℕ) where
  abbrev stay : Link → Bool
  stay y = not (eqb y.from s || eqb y.to s)

  none_goes : CARDS ≤ s → (xs : List Link) → every is_between xs ≡ true → any (λ y. eqb y.from s || eqb y.to s) xs ≡ false
  unfolding any every
  none_goes b [] a = refl
  none_goes b (y ∷ xs) a = let ih = none_goes b xs in grind (arith, nat_tests)

  module _ (h : IsTable m) where
    removed_all_to : IsTable (removed_all m s) × (edges (removed_all m s) ≡ kept stay (edges m))
    unfolding removed_all
    removed_all_to = elim (cases_lt s CARDS) [
      | inl b ↦
          let A = h.table.entries in
          let o = table_less_out m A h.table.free h.table.table s b in
          let i = table_less_in (emptied OUT IN m s) (filter (λ y. not (eqb y.link.from s)) A) o.0 o.1 s b in
          let l = rw (filter_both (λ y. not (eqb y.link.from s)) (λ y. not (eqb y.link.to s)) (λ y. stay y.link) A (λ y. grind arith)) at i in
          let e = edges_is (emptied IN OUT (emptied OUT IN m s) s) (filter (λ y. stay y.link) A) l.0 l.1 in
          let f = links_filter stay A in let k = edges_kept m A h.table.free h.table.table stay in
          rw (lt-ltb s CARDS b) (record { table = record { entries = filter (λ y. stay y.link) A; free = l.0; table = l.1 } }, cc)
      | inr b ↦ let t : ltb s CARDS ≡ false = grind (arith, nat_tests) in rw t (h, sym (kept_all _ (edges m) (none_goes b (edges m) (all_between m h))))
    ]

    pub removes_all_table : IsTable (removed_all m s)
    removes_all_table = removed_all_to.0

    pub removes_all_edges : edges (removed_all m s) ≡ kept (λ y. not (eqb y.from s || eqb y.to s)) (edges m)
    removes_all_edges = removed_all_to.1

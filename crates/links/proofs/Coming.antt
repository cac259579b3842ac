-- Entries come into the chains of a table and go out of them.
use Rattle.std.proofs.Common.{◌≡◌, ℕ, ◌+◌, ◌<◌, ◌≤◌, true, false, List, [], ◌∷◌, map, refl, ap, ◌∙◌, subst, inl, inr, lit<, arith}
use Rattle.std.specs.List.{list_all}
use Rattle.std.proofs.lemmas.Bool.{cases_Bool, eq-eqb}
use Rattle.order.specs.declared.board.Link.{Link}
use Rattle.chains.specs.declared.cells.TheConstants.{LABELS}
use Rattle.chains.specs.declared.cells.Pointer.{Pointer}
use Rattle.chains.specs.declared.cells.Cell.{Cell}
use Rattle.chains.specs.declared.chain_table.ChainTable.{ChainTable}
use Rattle.chains.specs.Chains.{InRange, Spells, Holds, has, front, out_of}
use Rattle.chains.specs.Tables.{node, at, pushed, unhooked}
use Rattle.chains.specs.Laws.{Comes, Goes}
use Rattle.chains.proofs.Meeting.{comes, goes}
use Rattle.chains.proofs.Reading.{Off, head_off, not_again, off_next, none_zero, one_chain}
use Rattle.links.specs.declared.layout.TheConstants.{ENTRIES, AGE, ALL, FREE}
use Rattle.links.specs.Pairs.{is_between, pair}
use Rattle.links.specs.Entries.{pointer}
use Rattle.links.specs.Table.{Entry, point, part, aged, listed, others}
use Rattle.links.proofs.Filtering.{filter_absent}
use Rattle.links.proofs.Parting.{all_has, part_front, part_lacks, part_out, part_has, aged_lacks, aged_out, aged_front, aged_free, Apart}

pub in_range : (F : ChainTable) (e n : ℕ) → 0 < e → e ≤ ENTRIES → n < LABELS → F.heads + ENTRIES < F.cells.size → InRange F (pointer e n)
in_range F e n a b c s = record { entry = a; word = omega arith; label = c; inside = omega arith }

-- chains that are the same for each key
pub holds_like : (F : ChainTable) (m : List ℕ) (a b : ℕ → List Pointer) → ((k : ℕ) → k < F.heads → a k ≡ b k) → Holds F m a → Holds F m b
holds_like F m a b e h = record {
  room = h.room;
  small = h.small;
  headed = h.headed;
  spelled = λ k l. subst (λ (xs : List Pointer). Spells F (at F m) k xs) (e k l) (h.spelled k l);
}

-- a table's chains after an entry came, and after one went
module _ (F : ChainTable) (m : List ℕ) (a b : ℕ → List Pointer) (h : Holds F m a) where
  puts : (k : ℕ) (x : Pointer) → k < F.heads → InRange F x → ((j : ℕ) → has x.held (a j) ≡ false) → ((j : ℕ) → j < F.heads → front k x a j ≡ b j)
      → Holds F (pushed F m k x) b
  unfolding Comes
  puts k x l r n e = holds_like F _ (front k x a) b e (comes F m k x a h l r (λ j i. n j))

  takes : (k e : ℕ) → k < F.heads → has e (a k) ≡ true → ((j : ℕ) → out_of e (a j) ≡ b j) → Holds F (unhooked F m e) b
  unfolding Goes
  takes k e l t i = holds_like F _ (λ j. out_of e (a j)) b (λ j u. i j) (goes F m e a k h l t)

module _ (F : ChainTable) (key label : Link → ℕ) (m : List ℕ) (L : List Entry) (h : Holds F m (part key label L)) where
  pub came : (y : Entry) → key y.link < F.heads → InRange F (point label y) → listed y.number L ≡ false
      → Holds F (pushed F m (key y.link) (point label y)) (part key label (y ∷ L))
  came y b r n = puts F m _ _ h (key y.link) (point label y) b r (λ j. part_lacks key label y.number L j n) (λ j l. part_front key label y L j)

  pub went : (e : ℕ) → ((z : Link) → is_between z ≡ true → key z < F.heads) → list_all (λ y. is_between y.link) L ≡ true → listed e L ≡ true
      → Holds F (unhooked F m e) (part key label (others e L))
  went e below b t = let u = part_has key label e L t b in takes F m _ _ h (key u.0) e (below u.0 u.1) u.2 (part_out key label e L)

-- the chains of all links and of the free entries
apart_from : (f : ℕ → Cell) (L : List Entry) (p : ℕ) → Spells AGE f p (map (point pair) L) → Off AGE f (map (point pair) L) p → Apart L ≡ true
apart_from f [] p s o = refl
apart_from f (y ∷ L) p s o =
    let n = not_again AGE f (point pair y) (map (point pair) L) p s o in let a = all_has pair y.number L in
    let ih = apart_from f L (node AGE y.number) s.3 (off_next AGE f (point pair y) (map (point pair) L) p s o) in grind arith

module _ (m : List ℕ) (L : List Entry) (free : List Pointer) (h : Holds AGE m (aged L free)) where
  pub all_apart : Apart L ≡ true
  all_apart = apart_from (at AGE m) L ALL (h.spelled ALL (lit< tt)) (head_off AGE (at AGE m) (map (point pair) L) ALL (lit< tt))

  pub not_free : (e : ℕ) → listed e L ≡ true → has e free ≡ false
  not_free e t = elim (cases_Bool (has e free)) [
    | inr n ↦ n
    | inl f ↦
        absurd (let q : ALL ≡ FREE = one_chain AGE (at AGE m) (map (point pair) L) free ALL FREE e (lit< tt) (lit< tt) (h.spelled ALL (lit< tt))
        (h.spelled FREE (lit< tt)) (all_has pair e L ∙ t) f in omega (arith, q))
  ]

  pub above_zero : (e : ℕ) → listed e L ≡ true → 0 < e
  above_zero e t =
      let n : has 0 (map (point pair) L) ≡ false = none_zero AGE (at AGE m) (map (point pair) L) ALL (h.spelled ALL (lit< tt)) in
      let a = all_has pair e L in grind arith

  pub came_all : (y : Entry) → InRange AGE (point pair y) → listed y.number L ≡ false → has y.number free ≡ false
      → Holds AGE (pushed AGE m ALL (point pair y)) (aged (y ∷ L) free)
  came_all y r n f = puts AGE m _ _ h ALL (point pair y) (lit< tt) r (λ j. aged_lacks L free j y.number n f) (λ j l. aged_front L free j y)

  pub came_free : (x : Pointer) → InRange AGE x → listed x.held L ≡ false → has x.held free ≡ false
      → Holds AGE (pushed AGE m FREE x) (aged L (x ∷ free))
  came_free x r n f = puts AGE m _ _ h FREE x (lit< tt) r (λ j. aged_lacks L free j x.held n f) (λ j l. aged_free L free j x l)

  pub went_all : (e : ℕ) → listed e L ≡ true → Holds AGE (unhooked AGE m e) (aged (others e L) free)
  went_all e t = takes AGE m _ _ h ALL e (lit< tt) (all_has pair e L ∙ t)
      (λ j. aged_out L free j e ∙ ap (λ (xs : List Pointer). aged (others e L) xs j) (filter_absent _ free (not_free e t)))

-- the first free entry is taken
module _ (m : List ℕ) (L : List Entry) (x : Pointer) (rest : List Pointer) (h : Holds AGE m (aged L (x ∷ rest))) where
  pub taken_absent : has x.held rest ≡ false
  taken_absent = not_again AGE (at AGE m) x rest FREE (h.spelled FREE (lit< tt)) (head_off AGE (at AGE m) (x ∷ rest) FREE (lit< tt))

  taken_has : has x.held (x ∷ rest) ≡ true
  taken_has = rw (eq-eqb x.held x.held refl) refl

  pub taken_not_listed : listed x.held L ≡ false
  taken_not_listed = let n = not_free m L (x ∷ rest) h x.held in let t = taken_has in grind arith

  pub went_free : Holds AGE (unhooked AGE m x.held) (aged L rest)
  went_free = takes AGE m _ _ h FREE x.held (lit< tt) taken_has
      (λ j. let a = aged_out L (x ∷ rest) j x.held in let b = filter_absent _ L taken_not_listed in let c = filter_absent _ rest taken_absent in
      let t = taken_has in grind arith)

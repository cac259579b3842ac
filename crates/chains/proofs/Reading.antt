-- Each entry stands once in all chains, so a walk that has as many steps as there are entries reads all of a chain.
use Rattle.std.proofs.Common.{◌≡◌, ℕ, ◌+◌, ◌-◌, ◌<◌, ◌≤◌, true, false, eqb, List, [], ◌∷◌, ◌++◌, map, length, refl, sym, subst, ◌∙◌, inl, inr, arith}
use Rattle.std.proofs.lemmas.List.{length-map}
use Rattle.std.specs.List.{list_any, IsDistinct, AllByRecursion}
use Rattle.std.proofs.lemmas.Map.Keys.{IsDistinct-cons}
use Rattle.std.proofs.lemmas.Map.Steps.{length-le_from_distinct_below}
use Rattle.std.proofs.lemmas.Bool.{cases_Bool, cases_eq, eq-eqb}
use Rattle.std.proofs.lemmas.Bool.Decides.{nat_tests}
use Rattle.chains.specs.declared.cells.TheConstants.{HELD}
use Rattle.chains.specs.declared.cells.Pointer.{Pointer}
use Rattle.chains.specs.declared.cells.Cell.{Cell}
use Rattle.chains.specs.declared.chain_table.ChainTable.{ChainTable}
use Rattle.chains.specs.Tables.{node, at}
use Rattle.chains.specs.Chains.{Spells, has}
use Rattle.chains.specs.Walks.{walked}
use Rattle.chains.specs.Laws.{Reads, EachOnce}
use Rattle.chains.proofs.Nodes.{node_apart, node_above}
use Rattle.chains.proofs.Walking.{walked_led, leads}

pub has_first : (y : Pointer) (ys : List Pointer) → has y.held (y ∷ ys) ≡ true
has_first y ys = rw (eq-eqb y.held y.held refl) refl

pub has_more : (y : Pointer) (ys : List Pointer) (h : ℕ) → has h ys ≡ true → has h (y ∷ ys) ≡ true
has_more y ys h e = grind arith

module _ (F : ChainTable) (f : ℕ → Cell) where
  pub range_of : (xs : List Pointer) (p h : ℕ) → Spells F f p xs → has h xs ≡ true → (0 < h) × (h < HELD) × (F.heads + h < F.cells.size)
  range_of [] p h s e = cc
  range_of (y ∷ ys) p h s e = let ih = range_of ys (node F y.held) h s.3 in let r = s.1 in grind (arith, nat_tests)

  -- no entry's cell is p
  abbrev pub Off : List Pointer → ℕ → Type 0
  Off xs p = (z : ℕ) → has z xs ≡ true → p ≡ node F z → ⊥

  -- what holds an entry is the first place, or the cell of another entry
  held_off : (xs : List Pointer) (p h q : ℕ) → Spells F f p xs → has h xs ≡ true → (q ≡ p → ⊥) → Off xs q → (f (node F h)).back ≡ q → ⊥
  held_off [] p h q s e n o b = cc
  held_off (y ∷ ys) p h q s e n o b = elim (cases_eq y.held h) [
    | inl t ↦ n (sym b ∙ subst (λ (i : ℕ). (f (node F i)).back ≡ p) t s.2)
    | inr t ↦ held_off ys (node F y.held) h q s.3 (grind (arith, nat_tests)) (o y.held (has_first y ys)) (λ z w. o z (has_more y ys z w)) b
  ]

  pub not_again : (y : Pointer) (ys : List Pointer) (p : ℕ) → Spells F f p (y ∷ ys) → Off (y ∷ ys) p → has y.held ys ≡ false
  not_again y ys p s o = elim (cases_Bool (has y.held ys)) [
    | inr t ↦ t
    | inl t ↦ absurd (held_off ys (node F y.held) y.held p s.3 t (o y.held (has_first y ys)) (λ z w. o z (has_more y ys z w)) s.2)
  ]

  off_node : (y : Pointer) (ys : List Pointer) (p : ℕ) → Spells F f p ys → y.held < HELD → has y.held ys ≡ false → Off ys (node F y.held)
  off_node y ys p s i n z t q = elim (cases_eq y.held z) [
    | inl e ↦ let u = subst (λ (j : ℕ). has j ys ≡ false) e n in cc
    | inr d ↦ node_apart F y.held z i (range_of ys p z s t).1 d q
  ]

  pub off_next : (y : Pointer) (ys : List Pointer) (p : ℕ) → Spells F f p (y ∷ ys) → Off (y ∷ ys) p → Off ys (node F y.held)
  off_next y ys p s o = off_node y ys (node F y.held) s.3 s.1.word (not_again y ys p s o)

  other_numbers : (h : ℕ) (xs : List Pointer) → has h xs ≡ false → AllByRecursion (λ j. eqb h j ≡ false) (map (λ x. x.held) xs)
  other_numbers h [] e = tt
  other_numbers h (x ∷ xs) e = (grind (arith, nat_tests), other_numbers h xs (grind arith))

  distinct : (xs : List Pointer) (p : ℕ) → Spells F f p xs → Off xs p → IsDistinct eqb (map (λ x. x.held) xs)
  unfolding IsDistinct
  distinct [] p s o = tt
  distinct (y ∷ ys) p s o =
      IsDistinct-cons eqb y.held (map (λ x. x.held) ys) (other_numbers y.held ys (not_again y ys p s o))
      (distinct ys (node F y.held) s.3 (off_next y ys p s o))

  numbers_has : (h : ℕ) (xs : List Pointer) → list_any (eqb h) (map (λ x. x.held) xs) ≡ true → has h xs ≡ true
  numbers_has h [] e = e
  numbers_has h (x ∷ xs) e = let ih = numbers_has h xs in grind (arith, nat_tests)

  pub none_zero : (xs : List Pointer) (p : ℕ) → Spells F f p xs → has 0 xs ≡ false
  none_zero xs p s = let r = range_of xs p 0 s in grind arith

  -- with 0, which is no entry, the entries of a chain are distinct numbers below the size of the table less its heads
  pub short : (xs : List Pointer) (p : ℕ) → Spells F f p xs → Off xs p → length xs ≤ F.cells.size - F.heads - 1
  short [] p s o = omega arith
  short (x ∷ xs) p s o =
      let ns = map (λ (y : Pointer). y.held) (x ∷ xs) in
      let d = IsDistinct-cons eqb 0 ns (other_numbers 0 (x ∷ xs) (none_zero (x ∷ xs) p s)) (distinct (x ∷ xs) p s o) in
      let b = length-le_from_distinct_below (0 ∷ ns) (F.cells.size - F.heads) d
      (λ (h : ℕ) (t : list_any (eqb h) (0 ∷ ns) ≡ true).
      let r = range_of (x ∷ xs) p h s in let n = numbers_has h (x ∷ xs) in let i = s.1.inside in grind (arith, nat_tests)) in
      omega (arith, length-map xs (λ (y : Pointer). y.held))

  -- an entry of two chains: the places of both are the same back to the heads
  meets : (xs ys : List Pointer) (p k h : ℕ) → k < F.heads → Spells F f p xs → Spells F f k ys → has h xs ≡ true → has h ys ≡ true
      → (p ≡ k → ⊥) → Off ys p → ⊥
  meets [] ys p k h b s t e d n o = cc
  meets (x ∷ xs) ys p k h b s t e d n o = elim (cases_Bool (has x.held ys)) [
    | inl u ↦ held_off ys k x.held p t u n o s.2
    | inr u ↦
        let v = λ (q : x.held ≡ h). subst (λ (i : ℕ). has i ys ≡ false) q u in
        meets xs ys (node F x.held) k h b s.3 t (grind (arith, nat_tests)) d (λ q. node_above F x.held k b (sym q)) (off_node x ys k t s.1.word u)
  ]

  pub one_chain : (xs ys : List Pointer) (j k h : ℕ) → j < F.heads → k < F.heads → Spells F f j xs → Spells F f k ys
      → has h xs ≡ true → has h ys ≡ true → j ≡ k
  one_chain xs ys j k h a b s t e d = elim (cases_eq j k) [ inl q ↦ q | inr n ↦ absurd (meets xs ys j k h b s t e d n (λ z w. node_above F z j a)) ]

  -- the rest of a chain, behind some of it
  pub rest : (xs ys : List Pointer) (p : ℕ) → Spells F f p (xs ++ ys) → Off (xs ++ ys) p → (q : ℕ) × Spells F f q ys × Off ys q
  rest [] ys p s o = (p, s, o)
  rest (x ∷ xs) ys p s o = rest xs ys (node F x.held) s.3 (off_next x (xs ++ ys) p s o)

  pub head_off : (xs : List Pointer) (k : ℕ) → k < F.heads → Off xs k
  head_off xs k b z t e = node_above F z k b e

pub each_once : EachOnce
unfolding EachOnce
each_once F m chains h = (
  (λ k b. distinct F (at F m) (chains k) k (h.spelled k b) (head_off F (at F m) (chains k) k b)),
  (λ j k e a b. one_chain F (at F m) (chains j) (chains k) j k e a b (h.spelled j a) (h.spelled k b)),
)

pub reads : (F : ChainTable) (m : List ℕ) (k f : ℕ) → Reads F m k f (walked f F m k)
unfolding Reads
reads F m k f chains h b e =
    let s = h.spelled k b in
    let l = short F (at F m) (chains k) k s (head_off F (at F m) (chains k) k b) in
    walked_led F m f (chains k) k (leads F (at F m) (chains k) k s) (omega arith)

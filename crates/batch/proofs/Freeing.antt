-- Places are marked as soon as their slots wait for none: at first, and when the links out of a slot that has come are followed, each once.
use Rattle.std.proofs.Common.{◌≡◌, ℕ, zero, suc, ◌+◌, ◌-◌, ◌<◌, ◌≤◌, min, Bool, true, false, ◌&&◌, ◌||◌, eqb, ltb, List, [], ◌∷◌, length, sym, refl, ap, ◌∙◌, subst, ap₂, inl, inr, add-one, arith}
use Rattle.std.specs.List.{fold}
use Rattle.std.proofs.lemmas.Bool.{cases_Bool, cases_eq, cases_lt, eq-eqb, ne_eqb, lt-ltb, le-ltb, and_parts}
use Rattle.std.proofs.lemmas.Bool.Decides.{nat_tests}
use Rattle.order.specs.declared.board.TheConstants.{CARDS}
use Rattle.order.specs.Lists.{every, filter}
use Rattle.memory.specs.declared.place_set.TheConstants.{PLACES}
use Rattle.memory.specs.Columns.{cell, written}
use Rattle.memory.specs.Footprints.{Writes, at_each}
use Rattle.memory.specs.PlaceSets.{marked}
use Rattle.memory.specs.PlaceSetLaws.{Summed, CellsAlone}
use Rattle.memory.proofs.Adding.{adding}
use Rattle.memory.proofs.Alone.{cells_alone}
use Rattle.memory.proofs.Cells.{length_written, cell_same, cell_other, cell_apart}
use Rattle.memory.proofs.Footprints.{after}
use Rattle.row.specs.declared.layout.TheConstants.{COUNT, SLOTS, SEATS}
use Rattle.row.specs.Meaning.{row_of, used, count}
use Rattle.row.proofs.Named.{used_below}
use Rattle.links.specs.Table.{edges, IsTable}
use Rattle.search.specs.declared.layout.TheConstants.{FORE}
use Rattle.search.specs.Meaning.{slot_on}
use Rattle.batch.specs.declared.layout.TheConstants.{WAITS, LEAVES}
use Rattle.batch.specs.Dense.{Dense}
use Rattle.batch.specs.Renewing.{freed, freed_all, frees, lessened}
use Rattle.batch.specs.RuleLaws.{within_row}
use Rattle.batch.proofs.Denseness.{few, slot_at, used_place}
use Rattle.batch.proofs.Many.{many, many_cons}
use Rattle.batch.proofs.Writing.{freed_writes, lessened_writes, own}

-- the same marks stand in the same cells
pub marks_alone : (n k : List ℕ) → length k ≡ length n → ((i : ℕ) → cell k FORE.column i ≡ cell n FORE.column i) → Summed n FORE.column →
    Summed k FORE.column × ((p : ℕ) → marked k FORE.column p ≡ marked n FORE.column p)
unfolding CellsAlone
marks_alone n k l e s = let a = cells_alone n k FORE.column e in (a.1 (omega (arith, l, s.lies)) s, a.0)

freed_marked : (n : List ℕ) (t : ℕ) → Summed n FORE.column → cell n SEATS t < PLACES →
    Summed (freed n t) FORE.column
    × ((x : ℕ) → marked (freed n t) FORE.column x ≡ ((eqb x (cell n SEATS t) && eqb (cell n WAITS t) 0) || marked n FORE.column x))
unfolding freed
freed_marked n t s l =
    let a = adding n FORE.column (cell n SEATS t) s l in
    elim (cases_Bool (eqb (cell n WAITS t) 0)) [
      | inl e ↦ rw e (a.0, λ x. a.2 x ∙ (grind arith))
      | inr e ↦ rw e (s, λ x. grind arith)
    ]

-- one more of the first places
one_more : (B : ℕ → Bool) (i x : ℕ) → ((eqb x i && B i) || (ltb x i && B x)) ≡ (ltb x (suc i) && B x)
one_more B i x = elim (cases_eq x i) [
  | inl e ↦ let b = ap B e in rw (eq-eqb x i e, b, lt-ltb x (suc i) (omega arith)) (grind arith)
  | inr e ↦ elim (cases_lt x i) [
    | inl l ↦ rw (ne_eqb x i e, lt-ltb x i l, lt-ltb x (suc i) (omega arith))
    | inr l ↦ rw (ne_eqb x i e, le-ltb x i l, le-ltb x (suc i) (omega arith))
  ]
]

-- the memory is sound, and its row is packed
pub record Tidy (m : List ℕ) : Type 0 where
  pub dense : Dense m
  pub long : LEAVES.base + LEAVES.size ≤ length m
  pub is_table : IsTable m
  pub within : within_row (row_of m) (edges m)

-- m is the memory before; the marked places are those that pass G and whose slots wait for none, by the numbers A
module _ (m : List ℕ) (T : Tidy m) where
  pub record Waiting (G : ℕ → Bool) (A : ℕ → ℕ) (n : List ℕ) : Type 0 where
    pub wrote : Writes own m n
    pub summed : Summed n FORE.column
    pub awaits_are : (s : ℕ) → s < CARDS → cell n WAITS s ≡ A s
    pub marks_are : (p : ℕ) → marked n FORE.column p ≡ (G p && eqb (A (slot_on m p)) 0)

  pub waiting_same : (G H : ℕ → Bool) (A B : ℕ → ℕ) (n : List ℕ) → ((p : ℕ) → G p ≡ H p) → ((s : ℕ) → A s ≡ B s) → Waiting G A n → Waiting H B n
  waiting_same G H A B n g a W = record {
    wrote = W.wrote;
    summed = W.summed;
    awaits_are = λ s h. W.awaits_are s h ∙ a s;
    marks_are = λ p. W.marks_are p ∙ ap₂ (λ (x : Bool) (y : ℕ). x && eqb y 0) (g p) (a (slot_on m p));
  }

  -- a slot waits for one fewer
  module _ (G : ℕ → Bool) (inside : (p : ℕ) → G p ≡ true → p < count m) where
    lessens : (A B : ℕ → ℕ) (n : List ℕ) (t : ℕ) → Waiting G A n → used m t ≡ true → G (cell m SEATS t) ≡ true → A t ≡ suc (B t) →
        ((s : ℕ) → (s ≡ t → ⊥) → A s ≡ B s) → Waiting G B (lessened n t)
    unfolding lessened
    lessens A B n t W u g less same =
        let v = cell n WAITS t - 1 in
        let n₁ = written n WAITS t v in
        let at = used_place m T.dense t u in
        let low = used_below m T.dense.is_row t u in
        let now : cell n₁ WAITS t ≡ B t =
        cell_same n WAITS t v low (omega (arith, W.wrote.as_long, T.long)) ∙ (let z = W.awaits_are t low in omega arith) in
        let q : cell n₁ SEATS t ≡ cell m SEATS t = cell_apart n WAITS SEATS t t v refl ∙ W.wrote.others SEATS t refl in
        let a = marks_alone n n₁ (length_written n WAITS t v) (λ i. cell_apart n WAITS FORE.column t i v refl) W.summed in
        let f = freed_marked n₁ t a.0 (omega (arith, q, at.0, few m T.dense)) in
        record {
          wrote = after own _ m n (lessened n t) refl (lessened_writes n t) W.wrote;
          summed = f.0;
          awaits_are = λ s h. (freed_writes n₁ t).others WAITS s refl ∙ elim (cases_eq s t) [
            | inl i ↦ ap (cell n₁ WAITS) i ∙ now ∙ ap B (sym i)
            | inr i ↦ cell_other n WAITS t s v i ∙ W.awaits_are s h ∙ same s i
          ];
          marks_are = λ x. f.1 x ∙ rw (a.1 x, W.marks_are x) (elim (cases_eq x (cell m SEATS t)) [
            | inl i ↦
                let s : slot_on m x ≡ t = ap (slot_on m) i ∙ at.1 in
                rw (eq-eqb x (cell n₁ SEATS t) (i ∙ sym q), now, ap G i ∙ g, s, less) (grind (arith, nat_tests))
            | inr i ↦ rw (ne_eqb x (cell n₁ SEATS t) (λ z. i (z ∙ q))) (elim (cases_Bool (G x)) [
              | inl j ↦
                  let back = (slot_at m T.dense x (inside x j)).1 in
                  ap (λ (y : ℕ). G x && eqb y 0) (same (slot_on m x) (λ z. i (sym back ∙ ap (cell m SEATS) z)))
              | inr j ↦ rw j refl
            ])
          ]);
        }

    -- the links into slots are followed, one after the other
    pub walks : (ts : List ℕ) (B : ℕ → ℕ) (n : List ℕ) → every (λ t. used m t && G (cell m SEATS t)) ts ≡ true →
        Waiting G (λ s. B s + many (λ t. eqb t s) ts) n → Waiting G B (fold lessened n ts)
    unfolding every filter
    walks [] B n h W = waiting_same G G (λ s. B s + many (λ t. eqb t s) []) B n (λ q. refl) (λ s. omega arith) W
    walks (t ∷ ts) B n h W =
        let p = and_parts (used m t && G (cell m SEATS t)) _ h in
        let g = and_parts (used m t) (G (cell m SEATS t)) p.0 in
        let c = λ (s : ℕ). many_cons (λ u. eqb u s) t ts in
        walks ts B (lessened n t) p.1
        (lessens (λ s. B s + many (λ u. eqb u s) (t ∷ ts)) (λ s. B s + many (λ u. eqb u s) ts) n t W g.0 g.1
        (let e = c t in let z = eq-eqb t t refl in grind arith)
        (λ s i. let e = c s in let z = ne_eqb t s (λ j. i (sym j)) in grind arith))

  -- the places are marked one after another
  abbrev first : ℕ → ℕ → Bool
  first i p = ltb p i

  frees_one : (A : ℕ → ℕ) (n : List ℕ) (i : ℕ) → i < count m → Waiting (first i) A n → Waiting (first (suc i)) A (freed n (cell n SLOTS i))
  frees_one A n i h W =
      let t = slot_on m i in
      let at = slot_at m T.dense i h in
      let w : cell n SEATS t ≡ i = W.wrote.others SEATS t refl ∙ at.1 in
      let f = freed_marked n t W.summed (omega (arith, w, h, few m T.dense)) in
      rw (W.wrote.others SLOTS i refl) (record {
        wrote = after own _ m n (freed n t) refl (freed_writes n t) W.wrote;
        summed = f.0;
        awaits_are = λ s l. (freed_writes n t).others WAITS s refl ∙ W.awaits_are s l;
        marks_are = λ x. f.1 x ∙ rw (w, W.awaits_are t at.0, W.marks_are x) (one_more (λ (p : ℕ). eqb (A (slot_on m p)) 0) i x);
      })

  frees_on : (A : ℕ → ℕ) (f : ℕ) (n : List ℕ) (i : ℕ) → i + f ≡ count m → Waiting (first i) A n → Waiting (first (count m)) A (freed_all f n i)
  unfolding freed_all at_each
  frees_on A zero n i e W = subst (λ (x : ℕ). Waiting (first x) A n) (let z : i ≡ count m = omega arith in z) W
  frees_on A (suc f) n i e W =
      let n₁ = freed n (cell n SLOTS i) in
      frees_on A f n₁ (i + 1) (omega arith) (subst (λ (x : ℕ). Waiting (first x) A n₁) (sym (add-one i)) (frees_one A n i (omega arith) W))

  pub frees_all : (A : ℕ → ℕ) (n : List ℕ) → Waiting (λ p. false) A n → Waiting (first (count m)) A (frees n)
  frees_all A n W =
      let c : count n ≡ count m = W.wrote.others COUNT 0 refl in
      let z : min (count n) CARDS ≡ count m = omega (arith, few m T.dense) in
      rw z (frees_on A (count m) n 0 (omega arith) (waiting_same (λ p. false) (first 0) A A n (λ p. sym (le-ltb p 0 (omega arith))) (λ s. refl) W))

-- For each slot that a link goes into from one that hasn't come, such a one is noted: the first that is met. A link is a pair of slots in one number.
use Rattle.std.proofs.Common.{◌≡◌, ℕ, ◌+◌, ◌/◌, ◌%◌, ◌<◌, ◌≤◌, true, false, ◌&&◌, ltb, eqb, List, [], ◌∷◌, length, sym, refl, ap, ◌∙◌, inl, inr, arith}
use Rattle.std.specs.List.{fold}
use Rattle.std.proofs.lemmas.Bool.{cases_Bool, both_ways, eqb-true, eq-eqb, ltb-true, and_parts, and_from, or_cases}
use Rattle.order.specs.declared.board.TheConstants.{CARDS}
use Rattle.order.specs.Lists.{any, has}
use Rattle.order.proofs.Members.{has_head, has_tail}
use Rattle.memory.specs.declared.column.Column.{Column}
use Rattle.memory.specs.Columns.{cell, written}
use Rattle.memory.specs.Footprints.{Writes}
use Rattle.memory.proofs.Cells.{length_written, cell_same, cell_other, cell_apart}
use Rattle.memory.proofs.Footprints.{same, on, put}
use Rattle.batch.specs.declared.layout.TheConstants.{WAITS, LEAVES, NUMBERS}
use Rattle.batch.specs.Circling.{stays, noted}

-- the columns of what is noted
abbrev pub noting : List Column
noting = NUMBERS ∷ WAITS ∷ []

pub noted_writes : (m : List ℕ) (x : ℕ) → Writes noting m (noted m x)
unfolding noted stays
noted_writes m x = elim (cases_Bool (stays m (x / CARDS) && eqb (cell m WAITS (x % CARDS)) 0)) [
  | inl e ↦
      let l = ltb-true (x / CARDS) CARDS (and_parts (ltb (x / CARDS) CARDS) _ (and_parts (stays m (x / CARDS)) _ e).0).0 in
      rw e (put noting m _ WAITS (x % CARDS) 1 refl (λ s. omega arith) (put noting m m NUMBERS (x % CARDS) (x / CARDS) refl (λ s. omega arith) (same noting m)))
  | inr e ↦ rw e (same noting m)
]

-- m is the memory before; xs are the links that are looked at
module _ (m : List ℕ) (long : NUMBERS.base + NUMBERS.size ≤ length m) where
  -- what is noted for t is what a link of xs comes out of that goes into t, and it hasn't come
  pub record Noted (xs : List ℕ) (t : ℕ) (n : List ℕ) : Type 0 where
    pub link : ℕ
    pub looked : has xs link ≡ true
    pub late : stays m (link / CARDS) ≡ true
    pub into : link % CARDS ≡ t
    pub is : cell n NUMBERS t ≡ link / CARDS

  same_stays : (n : List ℕ) → Writes noting m n → (s : ℕ) → stays n s ≡ stays m s
  unfolding stays
  same_stays n w s = rw (w.others LEAVES s refl)

  -- one link more is looked at: what is noted for t stays
  one_still : (n : List ℕ) (x : ℕ) (xs : List ℕ) (t : ℕ) → cell n WAITS t ≡ 1 → Noted xs t n →
      (cell (noted n x) WAITS t ≡ 1) × Noted xs t (noted n x)
  unfolding noted
  one_still n x xs t f o = elim (cases_Bool (stays n (x / CARDS) && eqb (cell n WAITS (x % CARDS)) 0)) [
    | inl z ↦
        let n₁ = written n NUMBERS (x % CARDS) (x / CARDS) in
        let y : t ≡ x % CARDS → ⊥ = λ e.
        let w : cell n WAITS (x % CARDS) ≡ 1 = ap (cell n WAITS) (sym e) ∙ f in
        let v = eqb-true _ _ (and_parts (stays n (x / CARDS)) _ z).1 in omega (arith, w, v) in
        let e = cell_apart n₁ WAITS NUMBERS (x % CARDS) t 1 refl ∙ cell_other n NUMBERS (x % CARDS) t (x / CARDS) y ∙ o.is in
        let g = cell_other n₁ WAITS (x % CARDS) t 1 y ∙ cell_apart n NUMBERS WAITS (x % CARDS) t (x / CARDS) refl ∙ f in
        rw z (g, record { link = o.link; looked = o.looked; late = o.late; into = o.into; is = e })
    | inr z ↦ rw z (f, o)
  ]

  all_still : (xs : List ℕ) (t : ℕ) (ys n : List ℕ) → cell n WAITS t ≡ 1 → Noted xs t n → Noted xs t (fold noted n ys)
  all_still xs t [] n f o = o
  all_still xs t (y ∷ ys) n f o = let w = one_still n y xs t f o in all_still xs t ys (noted n y) w.0 w.1

  -- the first that goes into t
  one_first : (n : List ℕ) → Writes noting m n → (x : ℕ) (xs : List ℕ) (t : ℕ) → t < CARDS → has xs x ≡ true → cell n WAITS t ≡ 0 →
      stays m (x / CARDS) ≡ true → x % CARDS ≡ t → (cell (noted n x) WAITS t ≡ 1) × Noted xs t (noted n x)
  unfolding noted
  one_first n w x xs t low i f z y =
      let n₁ = written n NUMBERS t (x / CARDS) in
      let u : stays n (x / CARDS) ≡ true = same_stays n w (x / CARDS) ∙ z in
      let e = cell_apart n₁ WAITS NUMBERS t t 1 refl ∙ cell_same n NUMBERS t (x / CARDS) low (omega (arith, long, w.as_long)) in
      let g = cell_same n₁ WAITS t 1 low (omega (arith, long, w.as_long, length_written n NUMBERS t (x / CARDS))) in
      rw (y, u, f) (g, record { link = x; looked = i; late = z; into = y; is = e })

  -- one that doesn't
  one_none : (n : List ℕ) → Writes noting m n → (x t : ℕ) → cell n WAITS t ≡ 0 → (stays m (x / CARDS) ≡ true → x % CARDS ≡ t → ⊥) →
      cell (noted n x) WAITS t ≡ 0
  unfolding noted
  one_none n w x t f none = elim (cases_Bool (stays n (x / CARDS) && eqb (cell n WAITS (x % CARDS)) 0)) [
    | inl z ↦
        let u = sym (same_stays n w (x / CARDS)) ∙ (and_parts (stays n (x / CARDS)) _ z).0 in
        rw z (cell_other _ WAITS (x % CARDS) t 1 (λ e. none u (sym e)) ∙ cell_apart n NUMBERS WAITS (x % CARDS) t (x / CARDS) refl ∙ f)
    | inr z ↦ rw z f
  ]

  -- all of ys are looked at, which are of xs; nothing is noted for t before, and x of them goes into it
  pub all_noted : (xs : List ℕ) (t : ℕ) → t < CARDS → (ys n : List ℕ) (x : ℕ) → Writes noting m n → ((y : ℕ) → has ys y ≡ true → has xs y ≡ true) →
      cell n WAITS t ≡ 0 → has ys x ≡ true → stays m (x / CARDS) ≡ true → x % CARDS ≡ t → Noted xs t (fold noted n ys)
  unfolding any
  all_noted xs t low [] n x w h f i z e = absurd (both_ways false refl i)
  all_noted xs t low (y ∷ ys) n x w h f i z e = elim (cases_Bool (stays m (y / CARDS) && eqb (y % CARDS) t)) [
    | inl b ↦
        let p = and_parts (stays m (y / CARDS)) _ b in
        let k = one_first n w y xs t low (h y (has_head y ys)) f p.0 (eqb-true _ _ p.1) in all_still xs t ys (noted n y) k.0 k.1
    | inr b ↦
        let none : stays m (y / CARDS) ≡ true → y % CARDS ≡ t → ⊥ = λ u v. both_ways _ b (and_from _ _ u (eq-eqb _ _ v)) in
        all_noted xs t low ys (noted n y) x (on noting m n (noted n y) w (noted_writes n y)) (λ k j. h k (has_tail y ys k j)) (one_none n w y t f none)
        (elim (or_cases (eqb x y) (has ys x) i) [
          | inl j ↦
              let q = eqb-true x y j in
              absurd (none (ap (λ (k : ℕ). stays m (k / CARDS)) (sym q) ∙ z) (ap (λ (k : ℕ). k % CARDS) (sym q) ∙ e))
          | inr j ↦ j
        ])
        z e
  ]

pub fold_writes : (xs m : List ℕ) → Writes noting m (fold noted m xs)
fold_writes [] m = same noting m
fold_writes (x ∷ xs) m = on noting m (noted m x) _ (noted_writes m x) (fold_writes xs (noted m x))

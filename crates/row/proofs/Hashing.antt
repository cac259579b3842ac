-- The cards by number, over any columns: a card comes into a slot, and goes out of one.
use Rattle.std.proofs.Common.{◌≡◌, ℕ, suc, ◌+◌, ◌<◌, Bool, true, false, cond, not, ◌&&◌, ◌||◌, eqb, ◌∷◌, sym, refl, ap, ◌∙◌, inl, inr, arith}
use Rattle.std.proofs.lemmas.Bool.{cases_eq, eq-eqb, ne_eqb, eqb-true, both_ways, and_from, and_parts}
use Rattle.order.specs.Lists.{any, has, distinct}
use Rattle.order.proofs.Filters.{has_filter, distinct_filter}
use Rattle.row.specs.declared.layout.TheConstants.{HEADS}
use Rattle.row.specs.Lookup.{bucket}
use Rattle.row.specs.Meaning.{Chains}
use Rattle.order.proofs.Members.{without, has_at}
use Rattle.row.proofs.Chaining.{holder, holder_apart, spells_move, spells_entered, spells_withdrawn}

pub bucket_below : (k : ℕ) → bucket k < HEADS
unfolding bucket
bucket_below k = omega arith

-- no two slots have one card
abbrev pub OneSlot : (ℕ → ℕ) → (ℕ → Bool) → Type 0
OneSlot id live = (s t : ℕ) → live s ≡ true → live t ≡ true → id s ≡ id t → s ≡ t

-- the columns after the card k came into the slot s
pub record Enters (s k : ℕ) (id next id' next' : ℕ → ℕ) : Type 0 where
  pub id_here : id' s ≡ k
  pub id_else : (t : ℕ) → (t ≡ s → ⊥) → id' t ≡ id t
  pub next_head : next' (bucket k) ≡ suc s
  pub next_here : next' (HEADS + s) ≡ next (bucket k)
  pub next_else : (q : ℕ) → (q ≡ bucket k → ⊥) → (q ≡ HEADS + s → ⊥) → next' q ≡ next q

module _ {s k : ℕ} {id next id' next' : ℕ → ℕ} {live live' : ℕ → Bool} (C : Chains next id live) (A : Enters s k id next id' next')
    (free : live s ≡ false) (used_is : (t : ℕ) → live' t ≡ (eqb t s || live t)) where
  absent : (b : ℕ) → b < HEADS → has (C.of b) s ≡ false
  absent b l = C.holds b s l ∙ rw free

  pub entered_chains : Chains next' id' live'
  unfolding any distinct
  entered_chains = record {
    of = λ b. cond (eqb b (bucket k)) (s ∷ C.of b) (C.of b);
    spells = λ b l. elim (cases_eq b (bucket k)) [
      | inl e ↦
          rw (eq-eqb b (bucket k) e)
          (spells_entered next next' (C.of b) b s (C.spells b l) l (absent b l) (ap next' e ∙ A.next_head) (A.next_here ∙ ap next (sym e))
          (λ q i j. A.next_else q (λ z. i (z ∙ sym e)) j))
      | inr e ↦
          rw (ne_eqb b (bucket k) e)
          (spells_move next next' (C.of b) b b (C.spells b l) (A.next_else b e (λ z. omega arith))
          (λ t h. A.next_else (HEADS + t) (λ z. let q = bucket_below k in omega arith)
          (λ z. both_ways (has (C.of b) s) (absent b l) (has_at (C.of b) t s (omega arith) h))))
    ];
    once = λ b l. elim (cases_eq b (bucket k)) [
      | inl e ↦ rw (eq-eqb b (bucket k) e) (rw (absent b l) (C.once b l))
      | inr e ↦ rw (ne_eqb b (bucket k) e) (C.once b l)
    ];
    holds = λ b t l. rw (used_is t) (elim (cases_eq t s) [
      | inl e ↦ rw (e, eq-eqb s s refl, A.id_here) (elim (cases_eq b (bucket k)) [
        | inl j ↦ rw (j, eq-eqb (bucket k) (bucket k) refl, eq-eqb s s refl)
        | inr j ↦ rw (ne_eqb b (bucket k) j, absent b l, ne_eqb (bucket k) b (λ z. j (sym z)))
      ])
      | inr e ↦ rw (ne_eqb t s e, A.id_else t e) (elim (cases_eq b (bucket k)) [
        | inl j ↦ rw (eq-eqb b (bucket k) j, ne_eqb t s e) (C.holds b t l)
        | inr j ↦ rw (ne_eqb b (bucket k) j) (C.holds b t l)
      ])
    ]);
  }

  used_else : (t : ℕ) → (t ≡ s → ⊥) → live' t ≡ live t
  used_else t ne = used_is t ∙ rw (ne_eqb t s ne)

  pub entered_one : ((t : ℕ) → live t ≡ true → id t ≡ k → ⊥) → OneSlot id live → OneSlot id' live'
  entered_one new o t u p q e = elim (cases_eq t s) [
    | inl i ↦ elim (cases_eq u s) [
      | inl j ↦ i ∙ sym j
      | inr j ↦ absurd (new u (sym (used_else u j) ∙ q) (sym (A.id_else u j) ∙ sym e ∙ ap id' i ∙ A.id_here))
    ]
    | inr i ↦ elim (cases_eq u s) [
      | inl j ↦ absurd (new t (sym (used_else t i) ∙ p) (sym (A.id_else t i) ∙ e ∙ ap id' j ∙ A.id_here))
      | inr j ↦ o t u (sym (used_else t i) ∙ p) (sym (used_else u j) ∙ q) (sym (A.id_else t i) ∙ e ∙ A.id_else u j)
    ]
  ]

-- the pointers after the card in the slot s went; one pointer held it
module _ {s : ℕ} {id next next' : ℕ → ℕ} {live live' : ℕ → Bool} (C : Chains next id live) (used : live s ≡ true)
    (next_here : next' (holder (bucket (id s)) (C.of (bucket (id s))) s) ≡ next (HEADS + s))
    (next_else : (p : ℕ) → (p ≡ holder (bucket (id s)) (C.of (bucket (id s))) s → ⊥) → next' p ≡ next p)
    (used_is : (t : ℕ) → live' t ≡ (live t && not (eqb t s))) where
  abbrev B : ℕ
  B = bucket (id s)

  has_s : has (C.of B) s ≡ true
  has_s = C.holds B s (bucket_below (id s)) ∙ and_from _ _ used (eq-eqb B B (omega arith))

  own : (b t : ℕ) → b < HEADS → has (C.of b) t ≡ true → bucket (id t) ≡ b
  own b t l h = eqb-true (bucket (id t)) b (and_parts _ _ (sym (C.holds b t l) ∙ h)).1

  pub withdrawn_chains : Chains next' id live'
  withdrawn_chains = record {
    of = λ b. cond (eqb b B) (without s (C.of b)) (C.of b);
    spells = λ b l. elim (cases_eq b B) [
      | inl e ↦
          rw (eq-eqb b B e, e)
          (spells_withdrawn next next' (C.of B) B s (C.spells B (bucket_below (id s))) (C.once B (bucket_below (id s))) has_s
          (λ t h z. let w = bucket_below (id s) in omega arith) next_here next_else)
      | inr e ↦ rw (ne_eqb b B e) (spells_move next next' (C.of b) b b (C.spells b l)
          (next_else b (λ z. holder_apart (C.of B) B s b (λ i. e (sym i)) (λ t h i. omega arith) (sym z)))
          (λ t h. next_else (HEADS + t) (λ z. holder_apart (C.of B) B s (HEADS + t) (λ i. let w = bucket_below (id s) in omega arith)
          (λ u j i. e (sym (own b t l h) ∙ ap (λ (x : ℕ). bucket (id x)) (let y : t ≡ u = omega arith in y) ∙ own B u (bucket_below (id s)) j)) (sym z))))
    ];
    once = λ b l. elim (cases_eq b B) [
      | inl e ↦ rw (eq-eqb b B e) (distinct_filter _ (C.of b) (C.once b l))
      | inr e ↦ rw (ne_eqb b B e) (C.once b l)
    ];
    holds = λ b t l. elim (cases_eq b B) [
      | inl j ↦ rw (eq-eqb b B j, has_filter (λ x. not (eqb x s)) (C.of b) t, C.holds b t l, used_is t) (let z = live t in let y = eqb t s in grind arith)
      | inr j ↦ rw (ne_eqb b B j, C.holds b t l, used_is t) (elim (cases_eq t s) [
        | inl e ↦ rw (ne_eqb (bucket (id t)) b (λ x. j (sym x ∙ ap (λ (v : ℕ). bucket (id v)) e))) (let z = live t in grind arith)
        | inr e ↦ rw (ne_eqb t s e) (let z = live t in grind arith)
      ])
    ];
  }

  pub withdrawn_one : OneSlot id live → OneSlot id live'
  withdrawn_one o t u p q e = o t u (let v = used_is t in grind arith) (let v = used_is u in grind arith) e

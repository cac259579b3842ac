-- The laws of a row with gaps, over plain functions: a slot that takes a free seat, one that goes, one that moves to a seat before.
use Rattle.std.proofs.Common.{◌≡◌, ℕ, ◌+◌, ◌-◌, ◌<◌, ◌≤◌, Bool, true, false, not, ◌&&◌, ◌||◌, eqb, List, [], ◌∷◌, ◌++◌, sym, refl, ap, ◌∙◌, inl, inr, arith}
use Rattle.std.proofs.lemmas.Bool.{cases_eq, cases_Bool, eq-eqb, ne_eqb, both_ways, lt-ltb}
use Rattle.order.specs.declared.board.TheConstants.{CARDS}
use Rattle.order.specs.Lists.{filter}
use Rattle.row.specs.Meaning.{listed, in_use, Seating}
use Rattle.row.proofs.Along.{listed_along, listed_same, gap_to, amount_gap, listed_there, listed_without, amount_without}

pub free_from : {n e : ℕ} {r s : ℕ → ℕ} {f : ℕ → Bool} → Seating n e r s f → (p : ℕ) → e ≤ p → f p ≡ false
free_from {n} {e} {r} {s} {f} st p l = elim (cases_Bool (f p)) [ inl y ↦ let b = st.below p y in absurd (omega arith) | inr y ↦ y ]

-- two taken seats have two slots
pub one_seat : {n e : ℕ} {r s : ℕ → ℕ} {f : ℕ → Bool} → Seating n e r s f → (p q : ℕ) → f p ≡ true → f q ≡ true → r p ≡ r q → p ≡ q
one_seat {n} {e} {r} {s} {f} st p q h k same = sym (st.seat_of p h) ∙ ap s same ∙ st.seat_of q k

-- whoever sits is in use
pub sits_used : {n e : ℕ} {r s : ℕ → ℕ} {f : ℕ → Bool} → Seating n e r s f → (p : ℕ) → f p ≡ true → in_use r s f (r p) ≡ true
unfolding in_use
sits_used {n} {e} {r} {s} {f} st p h = rw (st.seat_of p h, h, lt-ltb (r p) CARDS (st.low p h), eq-eqb (r p) (r p) refl)

-- The slot k takes the seat b: it sat nowhere, and nobody sat there.
pub record Takes (b k : ℕ) (r s r' s' : ℕ → ℕ) (f f' : ℕ → Bool) : Type 0 where
  pub low : k < CARDS
  pub slot_at : r' b ≡ k
  pub slot_else : (q : ℕ) → (q ≡ b → ⊥) → r' q ≡ r q
  pub seat_at : s' k ≡ b
  pub seat_else : (j : ℕ) → (j ≡ k → ⊥) → s' j ≡ s j
  pub held : (q : ℕ) → f' q ≡ (eqb q b || f q)

module _ {n e b k : ℕ} {r s r' s' : ℕ → ℕ} {f f' : ℕ → Bool} (st : Seating n e r s f) (x : Takes b k r s r' s' f f')
    (new : (p : ℕ) → f p ≡ true → r p ≡ k → ⊥) (free : f b ≡ false) where
  held_at : f' b ≡ true
  held_at = x.held b ∙ rw (eq-eqb b b refl)

  held_else : (p : ℕ) → (p ≡ b → ⊥) → f' p ≡ f p
  held_else p ne = x.held p ∙ rw (ne_eqb p b ne)

  pub takes_row : listed r' f' (b + 1) ≡ listed r f b ++ k ∷ []
  takes_row =
      listed_there r' f' b held_at
      ∙ rw (x.slot_at, listed_same r' r f' f b (λ p l. held_else p (λ i. omega arith)) (λ p l _. x.slot_else p (λ i. omega arith)))

  pub takes_seating : (e' : ℕ) → e ≤ e' → b < e' → Seating (n + 1) e' r' s' f'
  takes_seating e' l h = record {
    counts =
        let c = st.counts in
        let g = amount_gap f e e' l (λ p i _. free_from st p i) in
        let w = amount_without f' f b e' held_at back in
        let t = lt-ltb b e' h in
        grind arith;
    below = λ p y. elim (cases_eq p b) [ inl i ↦ omega arith | inr ne ↦ let u = st.below p (was p ne y) in omega arith ];
    low = λ p y. elim (cases_eq p b) [ inl i ↦ rw (i, x.slot_at) x.low | inr ne ↦ rw (x.slot_else p ne) (st.low p (was p ne y)) ];
    seat_of = λ p y. elim (cases_eq p b) [
      | inl i ↦ rw (i, x.slot_at) x.seat_at
      | inr ne ↦ let z = was p ne y in rw (x.slot_else p ne, x.seat_else (r p) (new p z)) (st.seat_of p z)
    ];
  }
    where
      back : (p : ℕ) → f p ≡ (f' p && not (eqb p b))
      back p = elim (cases_eq p b) [
        | inl i ↦ rw (i, free, eq-eqb b b refl, held_at)
        | inr ne ↦ rw (held_else p ne, ne_eqb p b ne) (let y = f p in grind arith)
      ]

      was : (p : ℕ) → (p ≡ b → ⊥) → f' p ≡ true → f p ≡ true
      was p ne y = sym (held_else p ne) ∙ y

  pub takes_used : (t : ℕ) → in_use r' s' f' t ≡ (eqb t k || in_use r s f t)
  unfolding in_use
  takes_used t = elim (cases_eq t k) [
    | inl i ↦ rw (i, eq-eqb k k refl, x.seat_at, held_at, x.slot_at, eq-eqb k k refl, lt-ltb k CARDS x.low)
    | inr ne ↦ rw (ne_eqb t k ne, x.seat_else t ne) (elim (cases_eq (s t) b) [
      | inl i ↦ rw (i, free, x.slot_at, ne_eqb k t (λ j. ne (sym j))) (grind arith)
      | inr j ↦ rw (held_else (s t) j, x.slot_else (s t) j)
    ])
  ]

-- The slot k at the seat a goes; in the seats' column something else may stand for it.
pub record Leaves (a k : ℕ) (r s s' : ℕ → ℕ) (f f' : ℕ → Bool) : Type 0 where
  pub there : f a ≡ true
  pub slot_at : r a ≡ k
  pub seat_else : (j : ℕ) → (j ≡ k → ⊥) → s' j ≡ s j
  pub held : (q : ℕ) → f' q ≡ (f q && not (eqb q a))

module _ {n e a k : ℕ} {r s s' : ℕ → ℕ} {f f' : ℕ → Bool} (st : Seating n e r s f) (x : Leaves a k r s s' f f') where
  kept : (p : ℕ) → f' p ≡ true → f p ≡ true
  kept p y = let w = x.held p in grind arith

  stays : (p : ℕ) → (p ≡ a → ⊥) → f' p ≡ f p
  stays p ne = x.held p ∙ rw (ne_eqb p a ne) (let y = f p in grind arith)

  off : f' a ≡ false
  off = x.held a ∙ rw (x.there, eq-eqb a a refl)

  pub nowhere_left : (p : ℕ) → f' p ≡ true → r p ≡ k → ⊥
  nowhere_left p y i = both_ways (f' a) off (ap f' (sym (one_seat st p a (kept p y) x.there (i ∙ sym x.slot_at))) ∙ y)

  pub left_row : listed r f' e ≡ filter (λ j. not (eqb j k)) (listed r f e)
  left_row = listed_without r f f' k e step (λ p y. x.held p ∙ rw y)
    where
      step : (p : ℕ) → f p ≡ true → f' p ≡ not (eqb (r p) k)
      step p y = elim (cases_eq p a) [
        | inl i ↦ rw (i, off, eq-eqb (r a) k x.slot_at)
        | inr ne ↦ rw (stays p ne, y, ne_eqb (r p) k (λ i. ne (one_seat st p a y x.there (i ∙ sym x.slot_at))))
      ]

  pub left_some : 0 < n
  left_some = let c = st.counts in let w = amount_without f f' a e x.there x.held in let t = lt-ltb a e (st.below a x.there) in grind arith

  pub left_seating : Seating (n - 1) e r s' f'
  left_seating = record {
    counts = let c = st.counts in let w = amount_without f f' a e x.there x.held in let t = lt-ltb a e (st.below a x.there) in grind arith;
    below = λ p y. st.below p (kept p y);
    low = λ p y. st.low p (kept p y);
    seat_of = λ p y. x.seat_else (r p) (nowhere_left p y) ∙ st.seat_of p (kept p y);
  }

  pub left_used : (t : ℕ) → in_use r s' f' t ≡ (in_use r s f t && not (eqb t k))
  unfolding in_use
  left_used t = elim (cases_eq t k) [
    | inl i ↦
        let v = eq-eqb t k i in
        elim (cases_Bool (f' (s' t))) [
          | inl y ↦ let w = ne_eqb (r (s' t)) t (λ j. nowhere_left (s' t) y (j ∙ i)) in grind arith
          | inr y ↦ grind arith
        ]
    | inr ne ↦ rw (ne_eqb t k ne, x.seat_else t ne) (elim (cases_eq (s t) a) [
      | inl i ↦ let w = ne_eqb (r (s t)) t (λ j. ne (sym j ∙ ap r i ∙ x.slot_at)) in grind arith
      | inr na ↦ let z = stays (s t) na in grind arith
    ])
  ]

  -- It takes the seat b before it, with no taken seat from b up to a.
  module _ {b : ℕ} {r' s'' : ℕ → ℕ} {f'' : ℕ → Bool} (y : Takes b k r s' r' s'' f' f'') (left : b < a) (gap : (q : ℕ) → b ≤ q → q < a → f q ≡ false) where
    free : f' b ≡ false
    free = stays b (λ i. omega arith) ∙ gap b (omega arith) left

    pub moved_row : listed r' f'' e ≡ listed r f e
    moved_row = listed_along r' r f'' f (a + 1) e (let l = st.below a x.there in omega arith) to_a
        (λ p l u. y.held p ∙ rw (ne_eqb p b (λ i. omega arith)) (stays p (λ i. omega arith))) (λ p l u _. y.slot_else p (λ i. omega arith))
      where
        closed : (p : ℕ) → b + 1 ≤ p → p < a + 1 → f'' p ≡ false
        closed p l u = y.held p ∙ rw (ne_eqb p b (λ i. omega arith)) (elim (cases_eq p a) [
          | inl i ↦ ap f' i ∙ off
          | inr na ↦ stays p na ∙ gap p (omega arith) (omega arith)
        ])

        to_a : listed r' f'' (a + 1) ≡ listed r f (a + 1)
        to_a =
            gap_to r' f'' (b + 1) (a + 1) (omega arith) closed ∙ takes_row left_seating y nowhere_left free
            ∙ rw (listed_there r f a x.there, x.slot_at, gap_to r f b a (omega arith) gap)
            (ap (λ (xs : List ℕ). xs ++ k ∷ []) (listed_same r r f' f b (λ p l. stays p (λ i. omega arith)) (λ p l _. refl)))

    pub moved_seating : Seating n e r' s'' f''
    moved_seating =
        let z : n - 1 + 1 ≡ n = let w = left_some in omega arith in
        rw z at (takes_seating left_seating y nowhere_left free e (omega arith) (let l = st.below a x.there in omega arith))

    pub moved_used : (t : ℕ) → in_use r' s'' f'' t ≡ in_use r s f t
    moved_used t = takes_used left_seating y nowhere_left free t ∙ ap (λ (u : Bool). eqb t k || u) (left_used t) ∙ elim (cases_eq t k) [
      | inl i ↦ rw (i, eq-eqb k k refl, ← x.slot_at, sits_used st a x.there)
      | inr ne ↦ rw (ne_eqb t k ne) (let u = in_use r s f t in grind arith)
    ]

-- Trails along links: which way they run, how long they are, and that what runs along links from b to a goes round for a link from a to b.
use Rattle.std.proofs.Common.{◌≡◌, ℕ, zero, suc, ◌+◌, ◌<◌, ◌≤◌, Bool, true, ltb, ◌⊎◌, List, [], ◌∷◌, length, refl, ap, ◌∙◌, subst, inl, inr, arith}
use mathlib.Core.List.{reverse_aux}
use Rattle.std.proofs.lemmas.Bool.{false_from_ne_true, cases_eq, eq-eqb, ne_eqb, lt-ltb, ltb-true, and_from, and_parts}
use Rattle.search.proofs.Common.{every, any, has, place, distinct, Board, linked}
use Rattle.order.specs.Reordering.{follows, last_of, goes_round}
use Rattle.order.proofs.Filters.{every_has, every_more}
use Rattle.order.proofs.Climbs.{Fine, link_before}
use Rattle.search.specs.Way.{trail}

-- xs begins with s, ends with e, each of it is linked to the next, and D has each
pub record Runs (r : Board) (D : ℕ → Bool) (s e : ℕ) (xs : List ℕ) : Type 0 where
  pub rest : List ℕ
  pub is : xs ≡ s ∷ rest
  pub links : follows r (s ∷ rest) ≡ true
  pub ends : last_of s rest ≡ e
  pub all : every D (s ∷ rest) ≡ true

module _ (r : Board) (D : ℕ → Bool) where
  runs_one : (s e : ℕ) → D s ≡ true → s ≡ e → Runs r D s e (s ∷ [])
  unfolding follows last_of every
  runs_one s e d z = record { rest = []; is = refl; links = refl; ends = z; all = and_from _ _ d refl }

  pub runs_more : (k s e : ℕ) (xs : List ℕ) → D k ≡ true → linked r k s ≡ true → Runs r D s e xs → Runs r D k e (k ∷ xs)
  unfolding follows last_of every
  runs_more k s e xs d l w =
      record { rest = s ∷ w.rest; is = ap (λ (ys : List ℕ). k ∷ ys) w.is; links = and_from _ _ l w.links; ends = w.ends; all = and_from _ _ d w.all }

  -- in a fine board what follows along links climbs in place, and so has nothing twice
  follows_climbs : Fine r → (k : ℕ) (ks : List ℕ) → follows r (k ∷ ks) ≡ true →
      (every (λ j. ltb (place r.row k) (place r.row j)) ks ≡ true) × (distinct (k ∷ ks) ≡ true)
  unfolding follows distinct every any
  follows_climbs f k [] h = (refl, refl)
  follows_climbs f k (j ∷ ks) h =
      let p = and_parts (linked r k j) (follows r (j ∷ ks)) h in
      let ih = follows_climbs f j ks p.1 in
      let l = link_before r f k j p.0 in
      let e : every (λ i. ltb (place r.row k) (place r.row i)) (j ∷ ks) ≡ true =
      and_from _ _ (lt-ltb _ _ l) (every_more _ _ (λ i s. lt-ltb _ _ (omega (arith, ltb-true _ _ s))) ks ih.0) in
      let n = false_from_ne_true (has (j ∷ ks) k) (λ i. omega (arith, ltb-true _ _ (every_has (λ i. ltb (place r.row k) (place r.row i)) (j ∷ ks) k e i))) in
      (e, rw n ih.1)

  pub runs_round : Fine r → (a b : ℕ) (xs : List ℕ) → Runs r D b a xs → (goes_round r a b xs ≡ true) × (every D xs ≡ true)
  unfolding goes_round
  runs_round f a b xs w =
      let g : goes_round r a b (b ∷ w.rest) ≡ true =
      and_from _ _ (and_from _ _ (eq-eqb b b refl) (eq-eqb _ _ w.ends)) (and_from _ _ w.links (follows_climbs f b w.rest w.links).1) in
      (ap (goes_round r a b) w.is ∙ g, ap (every D) w.is ∙ w.all)

-- what holds along a trail towards e: D and M have its slots, and L says how one is linked to the next
abbrev pub LeadsTo : (D M : ℕ → Bool) (L : ℕ → ℕ → Bool) (next : ℕ → ℕ) (e : ℕ) → Type 0
LeadsTo D M L next e =
    (s : ℕ) → D s ≡ true → M s ≡ true → (s ≡ e) ⊎ ((D (next s) ≡ true) × (M (next s) ≡ true) × (L s (next s) ≡ true))

-- P is the place of a slot: along links it climbs
module _ (r : Board) (D M : ℕ → Bool) (P next : ℕ → ℕ) (climbs : (s t : ℕ) → D s ≡ true → D t ≡ true → linked r s t ≡ true → P s < P t) (e : ℕ) where
  -- a trail that goes on by links
  pub onward : LeadsTo D M (λ s t. linked r s t) next e → (c n s : ℕ) → ((u : ℕ) → D u ≡ true → P u < c) → D s ≡ true → M s ≡ true → c ≤ n + P s →
      Runs r D s e (trail next n e s)
  unfolding trail
  onward on c zero s top d m h = absurd (omega (arith, top s d))
  onward on c (suc n) s top d m h = elim (cases_eq s e) [
    | inl z ↦ rw (eq-eqb s e z) (runs_one r D s e d z)
    | inr z ↦ elim (on s d m) [
      | inl y ↦ absurd (z y)
      | inr y ↦
          let l = climbs s (next s) d y.0 y.2 in
          rw (ne_eqb s e z)
          (runs_more r D s (next s) e (trail next n e (next s)) d y.2 (onward on c n (next s) top y.0 y.1 (omega arith)))
    ]
  ]

  module _ (on : LeadsTo D M (λ s t. linked r t s) next e) where
    -- a trail that goes back by links, turned round
    pub turned_round : (n s a : ℕ) (zs : List ℕ) → D s ≡ true → M s ≡ true → P s < n → Runs r D s a (s ∷ zs) →
        Runs r D e a (reverse_aux (trail next n e s) zs)
    unfolding trail
    turned_round zero s a zs d m h w = absurd (omega arith)
    turned_round (suc n) s a zs d m h w = elim (cases_eq s e) [
      | inl z ↦ rw (eq-eqb s e z) (subst (λ (k : ℕ). Runs r D k a (s ∷ zs)) z w)
      | inr z ↦ elim (on s d m) [
        | inl y ↦ absurd (z y)
        | inr y ↦
            let l = climbs (next s) s y.0 d y.2 in
            rw (ne_eqb s e z)
            (turned_round n (next s) a (s ∷ zs) y.0 y.1 (omega arith) (runs_more r D (next s) s a (s ∷ zs) y.0 y.2 w))
      ]
    ]

    pub short : (n s : ℕ) → D s ≡ true → M s ≡ true → length (trail next n e s) ≤ suc (P s)
    unfolding trail
    short zero s d m = omega arith
    short (suc n) s d m = elim (cases_eq s e) [
      | inl z ↦ rw (eq-eqb s e z) (omega arith)
      | inr z ↦ elim (on s d m) [
        | inl y ↦ absurd (z y)
        | inr y ↦
            let l = climbs (next s) s y.0 d y.2 in
            let ih = short n (next s) y.0 y.1 in
            rw (ne_eqb s e z) (omega arith)
      ]
    ]

-- Circles: where each card has one that is linked to it, going back along the links comes round; and a circle can't climb.
use Rattle.std.proofs.Common.{◌≡◌, ℕ, zero, suc, ◌+◌, ◌<◌, ◌≤◌, Bool, true, false, ◌&&◌, List, [], ◌∷◌, length, refl, inl, inr, arith}
use Rattle.std.proofs.lemmas.Bool.Decides.{nat_tests}
use Rattle.std.proofs.lemmas.Bool.{cases_Bool, cases_eq, both_ways, and_parts, and_from}
use Rattle.order.specs.Lists.{every, any, has, distinct}
use Rattle.order.specs.Board.{Board, linked}
use Rattle.order.specs.Reordering.{follows, last_of}
use Rattle.order.proofs.Members.{has_head, has_on, not_again, distinct_tail}
use Rattle.batch.specs.Several.{circle}
use Rattle.batch.proofs.Within.{distinct_cons, Within, within_more, within_both, within_not, few_within}

module _ (r : Board) where
  -- the cards behind k of a way up to a
  pub record Upto (k a : ℕ) (ks : List ℕ) : Type 0 where
    pub rest : List ℕ
    pub ends : last_of k rest ≡ a
    pub links : follows r (k ∷ rest) ≡ true
    pub apart : distinct (k ∷ rest) ≡ true
    pub within : Within rest ks

  upto_itself : (k a : ℕ) (ks : List ℕ) → k ≡ a → Upto k a ks
  unfolding follows last_of distinct any
  upto_itself k a ks e = record { rest = []; ends = e; links = refl; apart = refl; within = λ j i. absurd (both_ways false refl i) }

  upto : (k a : ℕ) (ks : List ℕ) → follows r (k ∷ ks) ≡ true → distinct (k ∷ ks) ≡ true → has (k ∷ ks) a ≡ true → Upto k a ks
  unfolding follows last_of distinct any
  upto k a [] f d h = upto_itself k a [] (grind (arith, nat_tests))
  upto k a (j ∷ ks) f d h = elim (cases_eq k a) [
    | inl e ↦ upto_itself k a (j ∷ ks) e
    | inr e ↦
        let p = and_parts (linked r k j) (follows r (j ∷ ks)) f in
        let u = upto j a ks p.1 (distinct_tail k (j ∷ ks) d) (has_on k a (j ∷ ks) e h) in
        let w = within_both j u.rest ks u.within in
        record {
          rest = j ∷ u.rest;
          ends = u.ends;
          links = and_from _ _ p.0 u.links;
          apart = distinct_cons k (j ∷ u.rest) (within_not (j ∷ u.rest) (j ∷ ks) k w (not_again k (j ∷ ks) d)) u.apart;
          within = w;
        }
  ]

  module _ (left : List ℕ) (back : (k : ℕ) → has left k ≡ true → (a : ℕ) × (linked r a k ≡ true) × (has left a ≡ true)) where
    pub goes_back : (n k : ℕ) (ks : List ℕ) → follows r (k ∷ ks) ≡ true → distinct (k ∷ ks) ≡ true → Within (k ∷ ks) left → length left ≤ n + length ks →
        (way : List ℕ) × (circle r way ≡ true) × Within way left
    unfolding follows circle
    goes_back zero k ks f d w l = absurd (omega (arith, few_within (k ∷ ks) left d w))
    goes_back (suc n) k ks f d w l =
        let b = back k (w k (has_head k ks)) in
        elim (cases_Bool (has (k ∷ ks) b.0)) [
          | inl h ↦
              let u = upto k b.0 ks f d h in (
                k ∷ u.rest,
                and_from _ _ (rw u.ends b.1) (and_from _ _ u.links u.apart),
                λ j i. w j (within_both k u.rest ks u.within j i),
              )
          | inr h ↦ goes_back n b.0 (k ∷ ks) (and_from _ _ b.1 f) (distinct_cons b.0 (k ∷ ks) h d) (within_more b.0 (k ∷ ks) left b.2 w) (omega arith)
        ]

-- a circle can't climb: there are no numbers for its cards that rise along each link
module _ (r : Board) (D : ℕ → Bool) (at : ℕ → ℕ) (up : (a b : ℕ) → linked r a b ≡ true → D a ≡ true → D b ≡ true → at a < at b) where
  way_climbs : (k : ℕ) (ks : List ℕ) → follows r (k ∷ ks) ≡ true → every D (k ∷ ks) ≡ true → (at k ≤ at (last_of k ks)) × (D (last_of k ks) ≡ true)
  unfolding follows last_of every
  way_climbs k [] f d = (omega arith, (and_parts (D k) true d).0)
  way_climbs k (j ∷ ks) f d =
      let p = and_parts (linked r k j) (follows r (j ∷ ks)) f in
      let q = and_parts (D k) (every D (j ∷ ks)) d in
      let ih = way_climbs j ks p.1 q.1 in
      let u = up k j p.0 q.0 (and_parts (D j) (every D ks) q.1).0 in
      (omega arith, ih.1)

  pub no_circle : (way : List ℕ) → circle r way ≡ true → every D way ≡ true → ⊥
  unfolding circle every
  no_circle [] c d = both_ways false refl c
  no_circle (k ∷ ks) c d =
      let p = and_parts (linked r (last_of k ks) k) (follows r (k ∷ ks) && distinct (k ∷ ks)) c in
      let w = way_climbs k ks (and_parts (follows r (k ∷ ks)) (distinct (k ∷ ks)) p.1).0 d in
      let u = up (last_of k ks) k p.0 w.1 (and_parts (D k) (every D ks) d).0 in
      omega arith

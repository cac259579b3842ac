-- Circles of links: a way that goes round is one, with more links or other names it stays one, and no row keeps its links.
use Rattle.std.proofs.Common.{◌≡◌, ℕ, Bool, true, ◌&&◌, eqb, ltb, List, [], ◌∷◌, map, refl, ◌∙◌}
use Rattle.std.proofs.lemmas.Bool.{ltb-true, eqb-true, eq-eqb, and_parts, and_from}
use Rattle.order.specs.Lists.{every, place, distinct}
use Rattle.order.specs.Board.{Board, linked, keeps}
use Rattle.order.specs.Reordering.{follows, last_of, goes_round}
use Rattle.order.specs.Renaming.{renamed, Naming}
use Rattle.order.proofs.Filters.{every_at, every_all}
use Rattle.order.proofs.RenamesWays.{linked_renamed, way_renamed}
use Rattle.batch.specs.Several.{circle}
use Rattle.batch.proofs.GoingBack.{no_circle}

-- with more links
module _ (r r₁ : Board) (more : (a b : ℕ) → linked r a b ≡ true → linked r₁ a b ≡ true) where
  follows_more : (ks : List ℕ) → follows r ks ≡ true → follows r₁ ks ≡ true
  unfolding follows
  follows_more [] f = refl
  follows_more (k ∷ []) f = refl
  follows_more (k ∷ j ∷ ks) f =
      let p = and_parts (linked r k j) (follows r (j ∷ ks)) f in
      and_from _ _ (more k j p.0) (follows_more (j ∷ ks) p.1)

  pub circle_more : (ks : List ℕ) → circle r ks ≡ true → circle r₁ ks ≡ true
  unfolding circle
  circle_more [] c = c
  circle_more (k ∷ ks) c =
      let p = and_parts (linked r (last_of k ks) k) (follows r (k ∷ ks) && distinct (k ∷ ks)) c in
      let s = and_parts _ _ p.1 in
      and_from _ _ (more _ _ p.0) (and_from _ _ (follows_more (k ∷ ks) s.0) s.1)

  -- a way by which a link goes round is a circle, once the link is there
  pub round_closed : (a b : ℕ) → linked r₁ a b ≡ true → (ks : List ℕ) → goes_round r a b ks ≡ true → circle r₁ ks ≡ true
  unfolding goes_round circle
  round_closed a b j [] g = g
  round_closed a b j (k ∷ ks) g =
      let p = and_parts (eqb k b && eqb (last_of k ks) a) (follows r (k ∷ ks) && distinct (k ∷ ks)) g in
      let q = and_parts _ _ p.0 in
      let s = and_parts _ _ p.1 in
      let e : linked r₁ (last_of k ks) k ≡ true = rw (eqb-true (last_of k ks) a q.1, eqb-true k b q.0) j in
      and_from _ _ e (and_from _ _ (follows_more (k ∷ ks) s.0) s.1)

-- no row keeps its links
pub never_kept : (r : Board) (row : List ℕ) → keeps row r.links ≡ true → (way : List ℕ) → circle r way ≡ true → ⊥
never_kept r row kept way c =
    no_circle r (λ _. true) (place row) (λ a b j _ _. ltb-true _ _ (every_at (λ x y. ltb (place row x) (place row y)) r.links a b kept j)) way c
    (every_all (λ _. true) (λ _. refl) way)

-- a circle is one, if its cards have other names
pub circle_named : (f : ℕ → ℕ) (D : ℕ → Bool) (r : Board) → Naming f D r → (ks : List ℕ) → every D ks ≡ true → circle r ks ≡ true →
    circle (renamed f r) (map f ks) ≡ true
unfolding circle goes_round
circle_named f D r n [] v c = c
circle_named f D r n (k ∷ ks) v c =
    let p = and_parts (linked r (last_of k ks) k) (follows r (k ∷ ks) && distinct (k ∷ ks)) c in
    let d = and_parts (D (last_of k ks)) (D k) (every_at (λ (a b : ℕ). D a && D b) r.links (last_of k ks) k n.ends p.0) in
    let g = way_renamed f D r n (last_of k ks) k (k ∷ ks) v (and_from _ _ (and_from _ _ (eq-eqb k k refl) (eq-eqb (last_of k ks) (last_of k ks) refl)) p.1) in
    round_closed (renamed f r) (renamed f r) (λ a b h. h) (f (last_of k ks)) (f k)
    (linked_renamed f D r n (last_of k ks) k d.0 d.1 ∙ p.0) (map f (k ∷ ks)) g

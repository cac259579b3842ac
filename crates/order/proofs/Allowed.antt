-- What is so if a link is not refused.
use Rattle.std.proofs.Common.{◌≡◌, ℕ, suc, ◌<◌, Bool, true, false, cond, ◌&&◌, ltb, leb, List, length, Some, None, refl, ◌∙◌, inl, inr, arith}
use Rattle.std.proofs.lemmas.Bool.{ltb-false, lt-ltb, cases_Bool, and_parts, and_from, both_ways}
use Rattle.order.specs.declared.board.Refusal.TheVariants.{Missing, Exists, Cycle, Full}
use Rattle.order.specs.declared.board.TheConstants.{LINKS}
use Rattle.order.specs.Lists.{every, has, place}
use Rattle.order.specs.Board.{Board, ◌⟶◌, linked, keeps, leads}
use Rattle.order.specs.Reordering.{link_refusal, with_link, backward}
use Rattle.order.proofs.Places.{place_same}
use Rattle.order.proofs.Filters.{every_from, every_append}
use Rattle.order.proofs.Ways.{joins, way_join}
use Rattle.order.proofs.Climbs.{Fine, link_ends, way_leads, leads_way}

-- not refused: the cards are there, and the link would not go round
allowed : (w x y z : Bool) → cond w (cond x (Some Exists) (cond y (Some Cycle) (cond z (Some Full) None))) (Some Missing) ≡ None → (w ≡ true) × (y ≡ false)
allowed w x y z e = (grind arith, grind arith)

pub link_there : (r : Board) (a b : ℕ) → link_refusal r (a ⟶ b) ≡ None → (has r.row a ≡ true) × (has r.row b ≡ true)
unfolding link_refusal
link_there r a b h =
    and_parts _ _ (allowed (has r.row a && has r.row b) (linked r a b) (leads r b a) (leb LINKS (length r.links)) h).0

pub no_round : (r : Board) (a b : ℕ) → link_refusal r (a ⟶ b) ≡ None → leads r b a ≡ false
unfolding link_refusal
no_round r a b h = (allowed (has r.row a && has r.row b) (linked r a b) (leads r b a) (leb LINKS (length r.links)) h).1

-- that much is enough for the link to be kept
pub record Open (r : Board) (a b : ℕ) : Type 0 where
  pub there : (has r.row a ≡ true) × (has r.row b ≡ true)
  pub no_way : leads r b a ≡ false

pub open_link : (r : Board) (a b : ℕ) → link_refusal r (a ⟶ b) ≡ None → Open r a b
open_link r a b re = record { there = link_there r a b re; no_way = no_round r a b re }

module _ (r : Board) (f : Fine r) (a b : ℕ) (o : Open r a b) where
  -- a link from what b leads to goes to what b leads to, and a link to what leads to a comes from what leads to a
  pub behind_on : (x y : ℕ) → joins r.links x y ≡ true → leads r b x ≡ true → leads r b y ≡ true
  behind_on x y e l =
      let w = leads_way r f b x l in
      let v = way_join r.links w.0 1 b x y w.1 (y, e, refl) in
      way_leads r f v.0 b y v.1 o.there.1

  pub before_on : (x y : ℕ) → joins r.links x y ≡ true → leads r y a ≡ true → leads r x a ≡ true
  before_on x y e l =
      let w = leads_way r f y a l in
      way_leads r f (suc w.0) x a (y, e, w.1) (link_ends r f x y e).0

  -- no card that b leads to leads to a
  pub sides_apart : (k : ℕ) → leads r b k ≡ true → leads r k a ≡ false
  sides_apart k p = elim (cases_Bool (leads r k a)) [
    | inl q ↦
        let v = leads_way r f b k p in
        let w = leads_way r f k a q in
        let z = way_join r.links v.0 w.0 b k a v.1 w.1 in
        absurd (both_ways _ o.no_way (way_leads r f z.0 b a z.1 o.there.1))
    | inr q ↦ q
  ]

  pub itself : (k : ℕ) → has r.row k ≡ true → leads r k k ≡ true
  itself k h = way_leads r f 0 k k refl h

  -- if the link does not go backward, b stands behind a already
  pub forward_kept : backward r a b ≡ false → place r.row a < place r.row b
  forward_kept e =
      let t = o.there in
      let l = ltb-false _ _ e in
      let n : place r.row a ≡ place r.row b → ⊥ =
      λ s. let q = place_same r.row a b t.0 s in both_ways _ o.no_way (rw q (itself b t.1)) in
      omega arith

  -- a row that keeps the links and the new one
  pub keeps_more : (row : List ℕ) → ((x y : ℕ) → joins r.links x y ≡ true → place row x < place row y) → place row a < place row b →
      keeps row (with_link r a b) ≡ true
  unfolding every
  keeps_more row k l =
      every_append _ r.links _
      ∙ and_from _ _ (every_from (λ x y. ltb (place row x) (place row y)) r.links (λ x y e. lt-ltb _ _ (k x y e)))
      (and_from _ _ (lt-ltb _ _ l) refl)

-- A link that would go round: the way that can be shown.
use Rattle.std.proofs.Common.{◌≡◌, ℕ, zero, suc, Bool, true, false, cond, ◌&&◌, ltb, leb, List, [], ◌∷◌, length, Some, None, refl, inl, inr, arith}
use Rattle.std.proofs.lemmas.Bool.{ltb-true, eq-eqb, lt-ltb, cases_Bool, and_from}
use Rattle.order.specs.declared.board.Refusal.TheVariants.{Missing, Exists, Cycle, Full}
use Rattle.order.specs.declared.board.TheConstants.{LINKS}
use Rattle.order.specs.Lists.{every, any, has, place, distinct}
use Rattle.order.specs.Board.{Board, linked, leads}
use Rattle.order.specs.Reordering.{link_refusal, follows, last_of, goes_round}
use Rattle.order.specs.Theory.{RoundThere}
use Rattle.order.proofs.Filters.{every_has, every_more}
use Rattle.order.proofs.Ways.{Way}
use Rattle.order.proofs.Climbs.{Fine, fine_parts, link_before, leads_way}

module _ (r : Board) (f : Fine r) where
  -- the cards on a way, without the first: each behind the first in the row, and so none twice
  way_list : (m a b : ℕ) → Way r.links m a b →
      (ks : List ℕ) × (last_of a ks ≡ b) × (follows r (a ∷ ks) ≡ true) × (distinct (a ∷ ks) ≡ true)
      × (every (λ k. ltb (place r.row a) (place r.row k)) ks ≡ true)
  unfolding last_of follows distinct every any
  way_list zero a b w = ([], w, refl, refl, refl)
  way_list (suc m) a b w =
      let c = w.0 in
      let v = way_list m c b w.2 in
      let l = link_before r f a c w.1 in
      let e : every (λ k. ltb (place r.row a) (place r.row k)) (c ∷ v.0) ≡ true =
      and_from _ _ (lt-ltb _ _ l) (every_more _ _ (λ k s. lt-ltb _ _ (omega (arith, ltb-true _ _ s))) v.0 v.4) in
      let n : has (c ∷ v.0) a ≡ false = elim (cases_Bool (has (c ∷ v.0) a)) [
        | inl h ↦ absurd (omega (arith, ltb-true _ _ (every_has (λ k. ltb (place r.row a) (place r.row k)) (c ∷ v.0) a e h)))
        | inr h ↦ h
      ] in
      (c ∷ v.0, v.1, and_from _ _ w.1 v.2, rw n v.3, e)

-- refused since it would go round: it would
is_round : (w x y z : Bool) → cond w (cond x (Some Exists) (cond y (Some Cycle) (cond z (Some Full) None))) (Some Missing) ≡ Some Cycle → y ≡ true
is_round w x y z e = grind arith

pub round_there : RoundThere
unfolding link_refusal goes_round
round_there r a b fi re =
    let f = fine_parts r fi in
    let l = is_round (has r.row a && has r.row b) (linked r a b) (leads r b a) (leb LINKS (length r.links)) re in
    let w = leads_way r f b a l in
    let v = way_list r f w.0 b a w.1 in
    (b ∷ v.0, and_from _ _ (and_from _ _ (eq-eqb b b refl) (eq-eqb _ _ v.1)) (and_from _ _ v.2 v.3))

-- A row that isn't told anew keeps the links that the command leaves; and a link between cards that are there, whatever the number of links: with a row
-- that may be so and that keeps it, the board is fine.
use Rattle.std.proofs.Common.{◌≡◌, ℕ, true, false, List, not, ◌&&◌, ◌||◌, eqb, ltb, [], ◌∷◌, ◌++◌, None, arith}
use Rattle.std.proofs.lemmas.Bool.{ltb-true, lt-ltb}
use Rattle.command.specs.declared.command.Command.TheVariants.{Link as Links}
use Rattle.order.specs.Lists.{has, filter, place}
use Rattle.order.specs.Board.{Board, ◌⟶◌, keeps, fine}
use Rattle.order.specs.Reordering.{with_link, backward}
use Rattle.command.specs.Commands.{may_be, refusal}
use Rattle.order.proofs.Climbs.{fine_parts, link_before, link_ends}
use Rattle.order.proofs.Allowed.{Open, forward_kept, keeps_more, open_link}
use Rattle.order.proofs.Staying.{open_stays as there_stay}
use Rattle.order.proofs.Places.{place_left}
use Rattle.order.proofs.Filters.{every_from, every_filter_more, place_filter}

module _ (r : Board) (f : fine r ≡ true) where
  pub comes_keeps : (k : ℕ) → keeps (r.row ++ k ∷ []) r.links ≡ true
  comes_keeps k =
      every_from (λ x y. ltb (place (r.row ++ k ∷ []) x) (place (r.row ++ k ∷ []) y)) r.links (λ a b e.
      let h = link_ends r (fine_parts r f) a b e in
      let l = link_before r (fine_parts r f) a b e in
      lt-ltb _ _ (omega (arith, place_left r.row (k ∷ []) a h.0, place_left r.row (k ∷ []) b h.1)))

  pub goes_keeps : (k : ℕ) →
      keeps (filter (λ j. not (eqb j k)) r.row) (filter (λ l. not (eqb l.from k || eqb l.to k)) r.links) ≡ true
  goes_keeps k =
      every_filter_more _ _ _ (λ l h n.
      lt-ltb _ _ (place_filter (λ j. not (eqb j k)) r.row l.from l.to (grind arith) (grind arith) (ltb-true _ _ h))) r.links
      (fine_parts r f).kept

  module _ (a b : ℕ) where
    pub open_stays : (has r.row a ≡ true) × (has r.row b ≡ true) → (row : List ℕ) → may_be r (Links (a ⟶ b)) row ≡ true → keeps row (with_link r a b) ≡ true →
        fine (record { row = row; links = with_link r a b }) ≡ true
    unfolding may_be
    open_stays t row m ke = there_stay r f a b t row m ke

    pub open_keeps : Open r a b → backward r a b ≡ false → keeps r.row (with_link r a b) ≡ true
    open_keeps o n = let p = fine_parts r f in keeps_more r p a b o r.row (link_before r p) (forward_kept r p a b o n)

  pub forward_keeps : (a b : ℕ) → refusal r (Links (a ⟶ b)) ≡ None → backward r a b ≡ false → keeps r.row (with_link r a b) ≡ true
  unfolding refusal
  forward_keeps a b re n = open_keeps a b (open_link r a b re) n

  pub unlinks_keeps : (a b : ℕ) → keeps r.row (filter (λ m. not (eqb m.from a && eqb m.to b)) r.links) ≡ true
  unlinks_keeps a b = every_filter_more _ _ _ (λ l h n. h) r.links (fine_parts r f).kept

-- For a link that goes backward there is a row in which what is not touched keeps its place; and so each link that is not refused can be kept.
use Rattle.std.proofs.Common.{◌≡◌, ℕ, suc, ◌<◌, ◌≤◌, true, false, List, length, None, refl, inl, inr, arith}
use Rattle.std.proofs.lemmas.Bool.{ltb-true, eq-eqb, cases_Bool, and_from, or_right}
use Rattle.order.specs.Lists.{place}
use Rattle.order.specs.Board.{Board, ◌⟶◌, keeps, leads}
use Rattle.order.specs.Reordering.{link_refusal, link_may_be, with_link, backward, touched, little, firm}
use Rattle.order.specs.Theory.{CanBe, CanBeFirm}
use Rattle.order.proofs.Places.{place_below}
use Rattle.order.proofs.Filters.{every_all, same_itself, is_same}
use Rattle.order.proofs.Parts.{with_part, take_with_part, drop_with_part, filter_with_part, before_with_part, ends_with_part, place_with_part}
use Rattle.order.proofs.Refilled.{refilled, length_refilled, filter_refilled_neither, filter_refilled_A, filter_refilled_B, has_refilled, place_refilled}
use Rattle.order.proofs.Refilled.{ends_refilled, before_refilled}
use Rattle.order.proofs.Climbs.{Fine, fine_parts, link_before}
use Rattle.order.proofs.Allowed.{Open, open_link, behind_on, before_on, sides_apart, itself, forward_kept, keeps_more}
use Rattle.order.proofs.Staying.{link_stays}

module _ (r : Board) (f : Fine r) (a b : ℕ) (o : Open r a b) (back : place r.row b < place r.row a) where
  -- from b up to a: first what leads to a, then what b leads to, at the places that these had
  fill : List ℕ → List ℕ
  fill = refilled (leads r b) (λ k. leads r k a)

  pub firm_row : List ℕ
  firm_row = with_part fill r.row (place r.row b) (suc (place r.row a))

  pub firm_row_is : firm_row ≡ with_part (refilled (leads r b) (λ k. leads r k a)) r.row (place r.row b) (suc (place r.row a))
  unfolding firm_row fill
  firm_row_is = refl

  low : place r.row b ≤ suc (place r.row a)
  low = omega arith

  high : suc (place r.row a) ≤ length r.row
  high = place_below r.row a o.there.0

  apart : (k : ℕ) → leads r b k ≡ true → leads r k a ≡ false
  apart = sides_apart r f a b o

  pub firm_little : little r a b firm_row ≡ true
  unfolding firm_row fill
  firm_little =
      let S = filter_with_part fill r.row _ _ low high in
      and_from _ _
      (and_from _ _ (is_same (take_with_part fill r.row _ _ low high)) (is_same (drop_with_part fill r.row _ _ low high (length_refilled _ _ apart))))
      (and_from _ _ (is_same (S _ (filter_refilled_neither _ _ apart)))
      (and_from _ _ (is_same (S _ (filter_refilled_B _ _ apart))) (is_same (S _ (filter_refilled_A _ _ apart)))))

  stays_there : (k : ℕ) → touched r a b k ≡ false → place firm_row k ≡ place r.row k
  unfolding firm_row fill
  stays_there k n = place_with_part fill r.row _ _ low (length_refilled _ _ apart) (has_refilled _ _ apart) k (λ ys. place_refilled _ _ apart ys k n)

  pub firm_is : firm r a b firm_row ≡ true
  firm_is =
      and_from _ _ firm_little
      (every_all _ (λ k. elim (cases_Bool (touched r a b k)) [
        | inl t ↦ rw t
        | inr t ↦ or_right _ _ (eq-eqb _ _ (stays_there k t))
      ]) r.row)

  pub firm_keeps : keeps firm_row (with_link r a b) ≡ true
  unfolding firm_row fill
  firm_keeps =
      let t = o.there in
      keeps_more r f a b o firm_row
      (λ x y e. before_with_part fill r.row _ _ low high (has_refilled _ _ apart) x y
      (λ ys hx hy l. before_refilled _ _ apart ys x y hx hy (behind_on r f a b o x y e) (before_on r f a b o x y e) l) (link_before r f x y e))
      (ends_with_part fill r.row _ _ low high (has_refilled _ _ apart) a b
      (λ ys hx hy. ends_refilled _ _ apart ys a b hx (itself r f a b o a t.0) (itself r f a b o b t.1))
      (omega arith) (omega arith) (omega arith) (omega arith))

pub can_be_firm : CanBeFirm
unfolding link_may_be
can_be_firm r a b fi re ba =
    let f = fine_parts r fi in
    let o = open_link r a b re in
    let l = ltb-true _ _ ba in (
      firm_row r f a b o l,
      firm_is r f a b o l,
      link_stays r (a ⟶ b) (firm_row r f a b o l) fi re (rw ba (firm_little r f a b o l)) (firm_keeps r f a b o l),
    )

-- a link that is not refused: a row that may be so and keeps it
can_link : (r : Board) → Fine r → (a b : ℕ) → link_refusal r (a ⟶ b) ≡ None →
    (row : List ℕ) × (link_may_be r (a ⟶ b) row ≡ true) × (keeps row (with_link r a b) ≡ true)
unfolding link_may_be
can_link r f a b re = let o = open_link r a b re in elim (cases_Bool (backward r a b)) [
  | inl e ↦ let l = ltb-true _ _ e in (firm_row r f a b o l, rw e (firm_little r f a b o l), firm_keeps r f a b o l)
  | inr e ↦ (r.row, rw e (same_itself r.row), keeps_more r f a b o r.row (λ x y k. link_before r f x y k) (forward_kept r f a b o e))
]

pub can_be : CanBe
can_be r a b fi re =
    let c = can_link r (fine_parts r fi) a b re in
    (c.0, c.1, link_stays r (a ⟶ b) c.0 fi re c.1 c.2)

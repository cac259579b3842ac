-- Links that don't go round: there is a row that one has to make, only one, and with it the board is fine. So it is with several: after the first, the
-- others still don't go round; and the row stays as it is if it keeps them already.
use Rattle.std.proofs.Common.{◌≡◌, ℕ, ◌<◌, true, ltb, List, ◌∷◌, ◌++◌, sym, ◌∙◌, inl, inr, [], ap₂, arith, false, ◌||◌, length, refl, ap, append_assoc, append-nil}
use Rattle.std.proofs.lemmas.Bool.{ltb-true, cases_Bool, and_parts, or_parts, le-ltb}
use Rattle.order.specs.declared.board.Link.{Link}
use Rattle.command.specs.declared.command.Command.TheVariants.{Link as Links}
use Rattle.order.specs.Lists.{every, has, place, distinct, filter}
use Rattle.order.specs.Board.{Board, keeps, fine, ◌⟶◌, leads, rounds}
use Rattle.order.specs.Reordering.{with_link, backward, link_must_be, touched, firm, link_refusal}
use Rattle.command.specs.Commands.{may_be, must_be, refusal}
use Rattle.order.proofs.Filters.{every_append, same_itself, same_is, every_more}
use Rattle.order.proofs.Climbs.{fine_parts, link_before}
use Rattle.order.proofs.Allowed.{Open, forward_kept, keeps_more, sides_apart, itself}
use Rattle.order.proofs.Firm.{firm_row, firm_is, firm_keeps}
use Rattle.order.proofs.Little.{link_has, Little, little_apart, little_has}
use Rattle.command.proofs.Staying.{must_may}
use Rattle.keeper.proofs.Opened.{open_stays}
use Rattle.batch.specs.Several.{after_link, all_there, linked_on, closes, Becomes, said_before, several_refusal}
use Rattle.order.proofs.Leading.{leads_before}
use Rattle.order.proofs.Only.{same_row, both_tests, firm_parts, upto_by_test}
use Rattle.batch.proofs.Within.{as_long}
use Rattle.batch.specs.SeveralLaws.{SeveralCan, SeveralOne, SeveralKept, SeveralSingle}
use Rattle.std.proofs.lemmas.Bool.Decides.{nat_tests}

-- what a row does that keeps a link
pub kept_link : (row : List ℕ) (ks : List Link) (l : Link) (ls : List Link) → keeps row (ks ++ l ∷ ls) ≡ true → place row l.from < place row l.to
unfolding every
kept_link row ks l ls ke =
    ltb-true _ _ (and_parts (ltb (place row l.from) (place row l.to)) (keeps row ls) (and_parts _ _ (sym (every_append _ ks (l ∷ ls)) ∙ ke)).1).0

module _ (r : Board) (fi : fine r ≡ true) (l : Link) where
  pub can_link : Open r l.from l.to →
      (row : List ℕ) × (must_be r (Links l) row ≡ true) × (keeps row (with_link r l.from l.to) ≡ true)
  unfolding must_be link_must_be
  can_link o = let f = fine_parts r fi in elim (cases_Bool (backward r l.from l.to)) [
    | inl e ↦ let b = ltb-true _ _ e in (firm_row r f _ _ o b, rw e (firm_is r f _ _ o b), firm_keeps r f _ _ o b)
    | inr e ↦ (r.row, rw e (same_itself r.row), keeps_more r f _ _ o r.row (λ x y k. link_before r f x y k) (forward_kept r f _ _ o e))
  ]

  pub cards_stay : (row : List ℕ) → must_be r (Links l) row ≡ true → (distinct row ≡ true) × ((k : ℕ) → has row k ≡ has r.row k)
  unfolding may_be
  cards_stay row m = link_has r (fine_parts r fi) l.from l.to row (must_may r (Links l) row m)

  pub fine_after : (has r.row l.from ≡ true) × (has r.row l.to ≡ true) → (row : List ℕ) → must_be r (Links l) row ≡ true →
      keeps row (with_link r l.from l.to) ≡ true → fine (after_link r l row) ≡ true
  fine_after t row m ke = open_stays r fi l.from l.to t row (must_may r (Links l) row m) ke

module _ (r : Board) (fi : fine r ≡ true) (a b : ℕ) (o : Open r a b) where
  -- since a stands before b now, the order of what is touched is settled
  in_order : (row : List ℕ) → Little r a b row → keeps row (with_link r a b) ≡ true →
      filter (touched r a b) row ≡ filter (λ k. leads r k a) r.row ++ filter (leads r b) r.row
  in_order row l ke =
      let f = fine_parts r fi in
      let t = o.there in
      let hs = little_has r f a b row l in
      let m = kept_link row r.links (a ⟶ b) [] ke in
      both_tests (leads r b) (λ k. leads r k a) (sides_apart r f a b o) row (little_apart r f a b row l)
      (λ x y ax by' hx hy.
      let sx = sym (hs x) ∙ hx in
      let u = upto_by_test (λ k. leads r k a) r.row row x a l.before ax (itself r f a b o a t.0) sx (leads_before r x a fi sx ax) in
      let v = upto_by_test (leads r b) r.row row b y l.behind (itself r f a b o b t.1) by' t.1 (leads_before r b y fi t.1 by') in
      omega arith)
      ∙ ap₂ ◌++◌ l.before l.behind

  one_firm : (row row₁ : List ℕ) → firm r a b row ≡ true → keeps row (with_link r a b) ≡ true → firm r a b row₁ ≡ true → keeps row₁ (with_link r a b) ≡ true →
      row ≡ row₁
  one_firm row row₁ fm ke fm₁ ke₁ =
      let f = fine_parts r fi in
      let l = firm_parts r a b row fm in
      let l₁ = firm_parts r a b row₁ fm₁ in
      let h = little_has r f a b row l.is_little in
      let h₁ = little_has r f a b row₁ l₁.is_little in
      same_row (touched r a b) row row₁ (little_apart r f a b row l.is_little) (little_apart r f a b row₁ l₁.is_little)
      (λ k. h k ∙ sym (h₁ k))
      (in_order row l.is_little ke ∙ sym (in_order row₁ l₁.is_little ke₁))
      (λ k n i. let e = sym (h k) ∙ i in l.kept k e n ∙ sym (l₁.kept k e n))

pub one_row : (r : Board) (l : Link) (row row₁ : List ℕ) → fine r ≡ true → Open r l.from l.to →
    must_be r (Links l) row ≡ true → keeps row (with_link r l.from l.to) ≡ true →
    must_be r (Links l) row₁ ≡ true → keeps row₁ (with_link r l.from l.to) ≡ true → row ≡ row₁
unfolding must_be link_must_be
one_row r l row row₁ fi o m ke m₁ ke₁ = elim (cases_Bool (backward r l.from l.to)) [
  | inl e ↦ one_firm r fi l.from l.to o row row₁ (rw e at m) ke (rw e at m₁) ke₁
  | inr e ↦ same_is row r.row (rw e at m) ∙ sym (same_is row₁ r.row (rw e at m₁))
]

-- what goes round depends on the row's length alone
closes_row : (row row₁ : List ℕ) (ks ls : List Link) → length row₁ ≡ length row →
    closes (record { row = row₁; links = ks }) ls ≡ closes (record { row = row; links = ks }) ls
unfolding closes
closes_row row row₁ ks [] e = refl
closes_row row row₁ ks (l ∷ ls) e =
    ap₂ ◌||◌ (ap (λ n. has (rounds ks n (l.to ∷ [])) l.from) e) (closes_row row row₁ (ks ++ (l.from ⟶ l.to) ∷ []) ls e)

pub there_parts : (r : Board) (l : Link) (ls : List Link) → all_there r (l ∷ ls) ≡ true →
    (has r.row l.from ≡ true) × (has r.row l.to ≡ true) × (all_there r ls ≡ true)
unfolding every
there_parts r l ls t =
    let p = and_parts _ _ t in
    let q = and_parts _ _ p.0 in
    (q.0, q.1, p.1)

pub first_open : (r : Board) (l : Link) (ls : List Link) → all_there r (l ∷ ls) ≡ true → leads r l.to l.from ≡ false → Open r l.from l.to
first_open r l ls t n = let h = there_parts r l ls t in record { there = (h.0, h.1); no_way = n }

-- what the first link leaves for the others
pub record GoesOn (r : Board) (l : Link) (ls : List Link) (mid : List ℕ) : Type 0 where
  pub fine_so : fine (after_link r l mid) ≡ true
  pub long : length mid ≡ length r.row
  pub same_cards : (k : ℕ) → has mid k ≡ has r.row k
  pub there : all_there (after_link r l mid) ls ≡ true
  pub closing : closes (after_link r l mid) ls ≡ closes (linked_on r l) ls

pub goes_on : (r : Board) (l : Link) (ls : List Link) (mid : List ℕ) → fine r ≡ true → all_there r (l ∷ ls) ≡ true → must_be r (Links l) mid ≡ true →
    keeps mid (with_link r l.from l.to) ≡ true → GoesOn r l ls mid
goes_on r l ls mid fi t m ke =
    let s = cards_stay r fi l mid m in
    let h = there_parts r l ls t in
    let long = as_long mid r.row s.0 (fine_parts r fi).apart s.1 in
    record {
      fine_so = fine_after r fi l (h.0, h.1) mid m ke;
      long = long;
      same_cards = s.1;
      there = every_more _ _ (λ x e. let hf = s.1 x.from in let ht = s.1 x.to in grind arith) ls h.2;
      closing = closes_row r.row mid (with_link r l.from l.to) ls long;
    }

pub several_can : SeveralCan
unfolding closes Becomes
several_can r [] fi t c = (r.row, refl, simp append-nil fi)
several_can r (l ∷ ls) fi t c =
    let p = or_parts (leads r l.to l.from) (closes (linked_on r l) ls) c in
    let m = can_link r fi l (first_open r l ls t p.0) in
    let g = goes_on r l ls m.0 fi t m.1 m.2 in
    let ih = several_can (after_link r l m.0) ls g.fine_so g.there (g.closing ∙ p.1) in
    (ih.0, (m.0, m.1, m.2, ih.1), simp append_assoc at ih.2)

pub several_one : SeveralOne
unfolding closes Becomes
several_one r [] row row₁ fi t c b b₁ = b ∙ sym b₁
several_one r (l ∷ ls) row row₁ fi t c b b₁ =
    let p = or_parts (leads r l.to l.from) (closes (linked_on r l) ls) c in
    let mid = b.0 in
    let e : b₁.0 ≡ mid = one_row r l b₁.0 mid fi (first_open r l ls t p.0) b₁.1 b₁.2 b.1 b.2 in
    let g = goes_on r l ls mid fi t b.1 b.2 in
    several_one (after_link r l mid) ls row row₁ g.fine_so g.there (g.closing ∙ p.1) b.3 (rw e at b₁.3)

-- a link that the row keeps doesn't go backward, and so the row has to stay
kept_row : (r : Board) (l : Link) (ls : List Link) (mid : List ℕ) → keeps r.row (r.links ++ l ∷ ls) ≡ true → must_be r (Links l) mid ≡ true → mid ≡ r.row
unfolding must_be link_must_be
kept_row r l ls mid ke m =
    let n : backward r l.from l.to ≡ false = le-ltb _ _ (omega (arith, kept_link r.row r.links l ls ke)) in
    same_is mid r.row (rw n at m)

becomes_kept : (r : Board) (ls : List Link) (row : List ℕ) → keeps r.row (r.links ++ ls) ≡ true → Becomes r ls row → row ≡ r.row
unfolding Becomes
becomes_kept r [] row ke b = b
becomes_kept r (l ∷ ls) row ke b =
    becomes_kept (linked_on r l) ls row (simp append_assoc ke) (rw (kept_row r l ls b.0 ke b.1) at b.3)

pub several_kept : SeveralKept
several_kept r ls row ke b = becomes_kept r ls row ke b

same_refusal : (r : Board) (l : Link) → several_refusal r (l ∷ []) ≡ refusal r (Links l)
unfolding several_refusal refusal link_refusal every said_before closes
same_refusal r l = grind (arith, nat_tests)

pub several_single : SeveralSingle
unfolding Becomes
several_single r l = (same_refusal r l, (λ row b. rw b.3 (b.1, b.2)), λ row m ke. (row, m, ke, refl))

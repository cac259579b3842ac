-- There is just one row that is firm and keeps the links; and in it only what is touched has another place.
use Rattle.std.proofs.Common.{◌≡◌, ℕ, ◌<◌, ◌≤◌, Bool, true, false, not, ◌||◌, eqb, ltb, List, [], ◌∷◌, ◌++◌, None, sym, refl, ap, ◌∙◌, ap₂, inl, inr, arith}
use Rattle.std.proofs.lemmas.Bool.{ltb-true, eqb-true, eqb-false, eq-eqb, cases_Bool, and_parts}
use Rattle.order.specs.declared.board.Link.{Link}
use Rattle.order.specs.Lists.{every, any, filter, has, place, distinct}
use Rattle.order.specs.Board.{Board, ◌⟶◌, keeps, fine, leads}
use Rattle.order.specs.Reordering.{link_refusal, link_may_be, link_must_be, with_link, backward, touched, firm}
use Rattle.order.specs.Theory.{OnlyOne, FirmIsLittle, OnlyTouched}
use Rattle.order.proofs.Places.{place_same}
use Rattle.order.proofs.Filters.{filter_empty, every_append, every_has, before_by_test}
use Rattle.order.proofs.Refilled.{either}
use Rattle.order.proofs.Climbs.{fine_parts}
use Rattle.order.proofs.Leading.{leads_before}
use Rattle.order.proofs.Allowed.{link_there, open_link, sides_apart, itself}
use Rattle.order.proofs.Little.{Little, little_parts, place_by_front, place_by_rest, little_apart, little_has}

-- two rows of the same cards, in which what fails a test has its place and what passes has its order
pub same_row : (T : ℕ → Bool) (xs ys : List ℕ) → distinct xs ≡ true → distinct ys ≡ true → ((k : ℕ) → has xs k ≡ has ys k) → filter T xs ≡ filter T ys →
    ((k : ℕ) → T k ≡ false → has xs k ≡ true → place xs k ≡ place ys k) → xs ≡ ys
unfolding distinct any filter place
same_row T [] [] d e h t p = refl
same_row T [] (y ∷ ys) d e h t p = let q = h y in let i = eq-eqb y y refl in grind arith
same_row T (x ∷ xs) [] d e h t p = let q = h x in let i = eq-eqb x x refl in grind arith
same_row T (x ∷ xs) (y ∷ ys) d e h t p =
    let ix = eq-eqb x x refl in
    let iy = eq-eqb y y refl in
    let hx = h x in let hy = h y in let px = p x in let py = p y in
    let s : x ≡ y = grind arith in
    ap₂ ◌∷◌ s
    (same_row T xs ys (and_parts _ _ d).1 (and_parts _ _ e).1
    (λ k. let hk = h k in grind arith)
    (grind arith)
    (λ k n i. let pk = p k n in grind arith))

-- if all that passes A stands before all that passes B, what passes either is what passes A and then what passes B
pub both_tests : (B A : ℕ → Bool) → ((k : ℕ) → B k ≡ true → A k ≡ false) → (xs : List ℕ) → distinct xs ≡ true →
    ((x y : ℕ) → A x ≡ true → B y ≡ true → has xs x ≡ true → has xs y ≡ true → place xs x < place xs y) → filter (either B A) xs ≡ filter A xs ++ filter B xs
unfolding filter distinct any place
both_tests B A n [] d h = refl
both_tests B A n (x ∷ xs) d h =
    let i = eq-eqb x x refl in
    let ih = both_tests B A n xs (and_parts (not (has xs x)) (distinct xs) d).1 (λ j k p q u v. let s = h j k p q in grind arith) in
    elim (cases_Bool (B x)) [
      | inl p ↦
          let m = filter_empty A xs (λ k z. let s = h k x z p in grind arith) in
          let nx = n x p in
          grind arith
      | inr p ↦ grind arith
    ]

-- two that pass a test whose cards stay in their order: the first is no later, if it was no later
pub upto_by_test : (f : ℕ → Bool) (xs ys : List ℕ) (x y : ℕ) → filter f ys ≡ filter f xs → f x ≡ true → f y ≡ true → has xs x ≡ true →
    place xs x ≤ place xs y → place ys x ≤ place ys y
upto_by_test f xs ys x y e p q h l = elim (cases_Bool (eqb (place xs x) (place xs y))) [
  | inl s ↦ omega (arith, ap (place ys) (place_same xs x y h (eqb-true _ _ s)))
  | inr s ↦ let n = eqb-false _ _ s in omega (arith, before_by_test f xs ys x y e p q (omega arith))
]

module _ (r : Board) (fi : fine r ≡ true) (a b : ℕ) (re : link_refusal r (a ⟶ b) ≡ None) where
  -- a stands before b now
  ab_first : (row : List ℕ) → keeps row (with_link r a b) ≡ true → place row a < place row b
  unfolding every
  ab_first row ke = ltb-true _ _ (and_parts (ltb (place row a) (place row b)) true (and_parts _ _ (sym (every_append _ r.links _) ∙ ke)).1).0

  -- and so the order of what is touched is settled
  in_order : (row : List ℕ) → Little r a b row → keeps row (with_link r a b) ≡ true →
      filter (touched r a b) row ≡ filter (λ k. leads r k a) r.row ++ filter (leads r b) r.row
  in_order row l ke =
      let f = fine_parts r fi in
      let t = link_there r a b re in
      let hs = little_has r f a b row l in
      let m = ab_first row ke in
      both_tests (leads r b) (λ k. leads r k a) (sides_apart r f a b (open_link r a b re)) row (little_apart r f a b row l)
      (λ x y ax by' hx hy.
      let sx = sym (hs x) ∙ hx in
      let u = upto_by_test (λ k. leads r k a) r.row row x a l.before ax (itself r f a b (open_link r a b re) a t.0) sx (leads_before r x a fi sx ax) in
      let v = upto_by_test (leads r b) r.row row b y l.behind (itself r f a b (open_link r a b re) b t.1) by' t.1 (leads_before r b y fi t.1 by') in
      omega arith)
      ∙ ap₂ ◌++◌ l.before l.behind

-- the parts of firm
pub record Firm (r : Board) (a b : ℕ) (row : List ℕ) : Type 0 where
  pub is_little : Little r a b row
  pub kept : (k : ℕ) → has r.row k ≡ true → touched r a b k ≡ false → place row k ≡ place r.row k

pub firm_parts : (r : Board) (a b : ℕ) (row : List ℕ) → firm r a b row ≡ true → Firm r a b row
firm_parts r a b row h =
    let p = and_parts _ _ h in
    record {
      is_little = little_parts r a b row p.0;
      kept = λ k i n. eqb-true _ _ (rw n at (every_has (λ j. touched r a b j || eqb (place row j) (place r.row j)) r.row k p.1 i));
    }

pub firm_is_little : FirmIsLittle
firm_is_little r a b row h = (and_parts _ _ h).0

-- a row that has to be so may be so
pub link_must_may : (r : Board) (l : Link) (row : List ℕ) → link_must_be r l row ≡ true → link_may_be r l row ≡ true
unfolding link_must_be link_may_be
link_must_may r l row h = elim (cases_Bool (backward r l.from l.to)) [
  | inl e ↦ rw e (firm_is_little r l.from l.to row (rw e at h))
  | inr e ↦ rw e (rw e at h)
]

pub only_one : OnlyOne
only_one r a b row row₁ fi re ba fm ke fm₁ ke₁ =
    let f = fine_parts r fi in
    let l = firm_parts r a b row fm in
    let l₁ = firm_parts r a b row₁ fm₁ in
    let h = little_has r f a b row l.is_little in
    let h₁ = little_has r f a b row₁ l₁.is_little in
    same_row (touched r a b) row row₁ (little_apart r f a b row l.is_little) (little_apart r f a b row₁ l₁.is_little)
    (λ k. h k ∙ sym (h₁ k))
    (in_order r fi a b re row l.is_little ke ∙ sym (in_order r fi a b re row₁ l₁.is_little ke₁))
    (λ k n i. let e = sym (h k) ∙ i in l.kept k e n ∙ sym (l₁.kept k e n))

pub only_touched : OnlyTouched
only_touched r a b k row fi fm h (inl l) = place_by_front _ row r.row k (firm_parts r a b row fm).is_little.front h l
only_touched r a b k row fi fm h (inr (inl l)) =
    let p = (firm_parts r a b row fm).is_little in place_by_rest _ row r.row k p.rest (little_apart r (fine_parts r fi) a b row p) h l
only_touched r a b k row fi fm h (inr (inr n)) = (firm_parts r a b row fm).kept k h n

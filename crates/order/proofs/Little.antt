-- What a little changed row leaves as it was.
use Rattle.std.proofs.Common.{◌≡◌, ℕ, suc, ◌+◌, ◌<◌, ◌≤◌, Bool, true, false, not, ◌||◌, List, take, drop, sym, refl, ap, ◌∙◌, inl, inr}
use Rattle.std.proofs.lemmas.Bool.{cases_Bool, and_parts, or_cases}
use Rattle.order.specs.Lists.{filter, has, place, distinct}
use Rattle.order.specs.Board.{Board, ◌⟶◌, leads}
use Rattle.order.specs.Reordering.{link_may_be, backward, touched, little}
use Rattle.order.specs.Theory.{OnlyBetween}
use Rattle.order.proofs.Places.{place_take, has_take, place_drop, has_drop, behind_from_drop}
use Rattle.order.proofs.Filters.{same_is, distinct_cover, has_by_test, apart_by_test}
use Rattle.order.proofs.Climbs.{Fine, fine_parts}

-- the parts of little
pub record Little (r : Board) (a b : ℕ) (row : List ℕ) : Type 0 where
  pub front : take (place r.row b) row ≡ take (place r.row b) r.row
  pub rest : drop (suc (place r.row a)) row ≡ drop (suc (place r.row a)) r.row
  pub untouched : filter (λ k. not (touched r a b k)) row ≡ filter (λ k. not (touched r a b k)) r.row
  pub behind : filter (leads r b) row ≡ filter (leads r b) r.row
  pub before : filter (λ k. leads r k a) row ≡ filter (λ k. leads r k a) r.row

pub little_parts : (r : Board) (a b : ℕ) (row : List ℕ) → little r a b row ≡ true → Little r a b row
little_parts r a b row h =
    let p = and_parts _ _ h in
    let q = and_parts _ _ p.0 in
    let s = and_parts _ _ p.1 in
    let t = and_parts _ _ s.1 in
    record { front = same_is _ _ q.0; rest = same_is _ _ q.1; untouched = same_is _ _ s.0; behind = same_is _ _ t.0; before = same_is _ _ t.1 }

-- places by an equal front, and by an equal rest
pub place_by_front : (n : ℕ) (xs ys : List ℕ) (k : ℕ) → take n xs ≡ take n ys → has ys k ≡ true → place ys k < n → place xs k ≡ place ys k
place_by_front n xs ys k e h l =
    let t = has_take n ys k h l in
    let u : has (take n xs) k ≡ true = rw e t in
    place_take n xs k u ∙ ap (λ zs. place zs k) e ∙ sym (place_take n ys k t)

pub place_by_rest : (n : ℕ) (xs ys : List ℕ) (k : ℕ) → drop n xs ≡ drop n ys → distinct xs ≡ true → has ys k ≡ true → n ≤ place ys k → place xs k ≡ place ys k
place_by_rest n xs ys k e d h l =
    let t = has_drop n ys k h l in
    let u : has (drop n xs) k ≡ true = rw e t in
    place_drop n xs k (behind_from_drop n xs k d u) ∙ ap (λ zs. n + place zs k) e ∙ sym (place_drop n ys k l)

-- each card is touched or not
covers : (x y : Bool) → (not (x || y) || (x || y)) ≡ true
covers true y = refl
covers false true = refl
covers false false = refl

module _ (r : Board) (f : Fine r) (a b : ℕ) (row : List ℕ) where
  pub little_apart : Little r a b row → distinct row ≡ true
  little_apart l =
      distinct_cover (λ k. not (touched r a b k)) (leads r b) (λ k. leads r k a) (λ k. covers (leads r b k) (leads r k a)) row
      (apart_by_test _ row r.row l.untouched f.apart)
      (apart_by_test _ row r.row l.behind f.apart)
      (apart_by_test _ row r.row l.before f.apart)

  pub little_has : Little r a b row → (k : ℕ) → has row k ≡ has r.row k
  little_has l k =
      elim (or_cases _ _ (covers (leads r b k) (leads r k a))) [
        | inl e ↦ has_by_test _ row r.row k l.untouched e
        | inr e ↦ elim (or_cases _ _ e) [
          | inl t ↦ has_by_test _ row r.row k l.behind t
          | inr t ↦ has_by_test _ row r.row k l.before t
        ]
      ]

  -- a row that may be so has the same cards, each once
  pub link_has : link_may_be r (a ⟶ b) row ≡ true → (distinct row ≡ true) × ((k : ℕ) → has row k ≡ has r.row k)
  unfolding link_may_be
  link_has h =
      elim (cases_Bool (backward r a b)) [
        | inl e ↦ let l = little_parts r a b row (rw e at h) in (little_apart l, little_has l)
        | inr e ↦ let s = same_is row r.row (rw e at h) in (rw s f.apart, λ k. ap (λ zs. has zs k) s)
      ]

pub only_between : OnlyBetween
only_between r a b k row fi li h (inl l) = place_by_front _ row r.row k (little_parts r a b row li).front h l
only_between r a b k row fi li h (inr l) =
    let p = little_parts r a b row li in place_by_rest _ row r.row k p.rest (little_apart r (fine_parts r fi) a b row p) h l

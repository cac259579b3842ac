-- Whether several links go round, or one was said already, doesn't depend on their order. If one goes round, no row keeps them all.
use Rattle.std.proofs.Common.{◌≡◌, Bool, cond, not, ◌||◌, ltb, List, [], ◌∷◌, ◌++◌, count_by, sym, refl, ap, ◌∙◌, arith, ℕ, true, ◌&&◌, eqb, append_assoc, false, Some, inl, inr}
use Rattle.std.specs.List.Sorted.{IsPermutation}
use Rattle.std.proofs.lemmas.List.Sums.{sum_by-cons, sum_by-append}
use Rattle.std.proofs.lemmas.List.Sorted.{sum_by-IsPermutation, IsPermutation-cons, length_permutation, IsPermutation-sym}
use Rattle.std.proofs.lemmas.Bool.Decides.{nat_tests}
use Rattle.order.specs.Lists.{every, any, has}
use Rattle.std.proofs.lemmas.Bool.{eq-eqb, cases_Bool, both_ways, and_from, or_left, or_right}
use Rattle.order.specs.declared.board.Link.{Link}
use Rattle.order.specs.Board.{Board, linked, fine, leads}
use Rattle.order.proofs.Ways.{joins}
use Rattle.batch.specs.Several.{linked_on, said_before, all_there, with_links, closes, circle, after_link, several_refusal}
use Rattle.order.specs.declared.board.Refusal.TheVariants.{Cycle}
use Rattle.order.specs.Reordering.{link_refusal}
use Rattle.order.proofs.Climbs.{fine_parts, link_before}
use Rattle.order.proofs.Leading.{leads_before}
use Rattle.order.proofs.Circles.{round_there}
use Rattle.batch.specs.SeveralLaws.{SeveralRound, SeveralAnyOrder}
use Rattle.batch.proofs.SeveralRows.{can_link, there_parts, first_open, goes_on, several_can}
use Rattle.batch.proofs.CircleLinks.{circle_more, round_closed, never_kept}

module _ {A : Type 0} (f : A → Bool) where
  pub any_append : (xs ys : List A) → any f (xs ++ ys) ≡ (any f xs || any f ys)
  unfolding any
  any_append [] ys = refl
  any_append (x ∷ xs) ys = let ih = any_append xs ys in grind arith

  pub any_count : (xs : List A) → any f xs ≡ ltb 0 (count_by f xs)
  unfolding any
  any_count [] = refl
  any_count (x ∷ xs) = let ih = any_count xs in let e = sum_by-cons (λ y. cond (f y) 1 0) x xs in grind (arith, nat_tests)

  pub any_shuffled : (xs ys : List A) → IsPermutation xs ys → any f ys ≡ any f xs
  any_shuffled xs ys s = any_count ys ∙ ap (ltb 0) (sum_by-IsPermutation _ xs ys s) ∙ sym (any_count xs)

  every_any : (xs : List A) → every f xs ≡ not (any (λ x. not (f x)) xs)
  unfolding every any
  every_any [] = refl
  every_any (x ∷ xs) = let ih = every_any xs in grind (arith, nat_tests)

pub every_shuffled : {A : Type 0} (f : A → Bool) (xs ys : List A) → IsPermutation xs ys → every f ys ≡ every f xs
every_shuffled f xs ys s = every_any f ys ∙ ap not (any_shuffled (λ x. not (f x)) xs ys s) ∙ sym (every_any f xs)

pub shuffled_behind : {A : Type 0} (ks xs ys : List A) → IsPermutation xs ys → IsPermutation (ks ++ xs) (ks ++ ys)
shuffled_behind [] xs ys s = s
shuffled_behind (k ∷ ks) xs ys s = IsPermutation-cons k (ks ++ xs) (ks ++ ys) (shuffled_behind ks xs ys s)

-- how often a link from a to b is among these
times : List Link → ℕ → ℕ → ℕ
times ls a b = count_by (λ l. eqb l.from a && eqb l.to b) ls

any_at : (p : ℕ → ℕ → Bool) (ls : List Link) (a b : ℕ) → joins ls a b ≡ true → p a b ≡ true → any (λ l. p l.from l.to) ls ≡ true
unfolding any
any_at p [] a b j h = j
any_at p (l ∷ ls) a b j h = let ih = any_at p ls a b in grind arith

-- a link is there twice if it is among those before it, or those behind
twice_there : (ks ls : List Link) (l : Link) →
    ltb 1 (times (ks ++ l ∷ ls) l.from l.to) ≡ (joins ks l.from l.to || joins ls l.from l.to)
unfolding times
twice_there ks ls l =
    let f : Link → Bool = λ m. eqb m.from l.from && eqb m.to l.to in
    let i = any_count f ks in
    let j = any_count f ls in
    let s = sum_by-append (λ m. cond (f m) 1 0) ks (l ∷ ls) in
    let t = sum_by-cons (λ m. cond (f m) 1 0) l ls in
    let e = eq-eqb l.from l.from refl in
    let d = eq-eqb l.to l.to refl in
    grind (arith, nat_tests)

said_twice : (r : Board) (ls : List Link) → said_before r ls ≡ any (λ l. ltb 1 (times (r.links ++ ls) l.from l.to)) ls
unfolding said_before any
said_twice r [] = refl
said_twice r (l ∷ ls) =
    let ih = simp append_assoc at (said_twice (linked_on r l) ls) in
    let t = twice_there r.links ls l in
    let a = any_at (λ a b. ltb 1 (times (r.links ++ l ∷ ls) a b)) ls l.from l.to in
    grind (arith, nat_tests)

times_shuffled : (ls ls₁ : List Link) (a b : ℕ) → IsPermutation ls ls₁ → times ls₁ a b ≡ times ls a b
unfolding times
times_shuffled ls ls₁ a b s = sum_by-IsPermutation _ ls ls₁ s

pub said_shuffled : (r : Board) (ls ls₁ : List Link) → IsPermutation ls ls₁ → said_before r ls₁ ≡ said_before r ls
said_shuffled r ls ls₁ s =
    let e = λ (a b : ℕ). times_shuffled (r.links ++ ls) (r.links ++ ls₁) a b (shuffled_behind r.links ls ls₁ s) in
    said_twice r ls₁ ∙ simp e (any_shuffled _ ls ls₁ s) ∙ sym (said_twice r ls)

-- a link that goes round is refused for that
round_refused : (r : Board) (l : Link) → fine r ≡ true → (has r.row l.from ≡ true) × (has r.row l.to ≡ true) → leads r l.to l.from ≡ true →
    link_refusal r l ≡ Some Cycle
unfolding link_refusal
round_refused r l fi h e = elim (cases_Bool (linked r l.from l.to)) [
  | inl j ↦ absurd (omega (arith, link_before r (fine_parts r fi) _ _ j, leads_before r l.to l.from fi h.1 e))
  | inr j ↦ rw (h.0, h.1, j, e)
]

circle_there : (r : Board) (ls : List Link) → fine r ≡ true → all_there r ls ≡ true → closes r ls ≡ true → (way : List ℕ) × (circle (with_links r ls) way ≡ true)
unfolding closes any
circle_there r [] fi t c = absurd (both_ways false refl c)
circle_there r (l ∷ ls) fi t c = elim (cases_Bool (leads r l.to l.from)) [
  | inl e ↦
      let h = there_parts r l ls t in
      let w = round_there r l.from l.to fi (round_refused r l fi (h.0, h.1) e) in (
        w.0,
        round_closed r (with_links r (l ∷ ls)) (λ x y j. any_append _ r.links (l ∷ ls) ∙ or_left _ _ j) l.from l.to
            (any_append _ r.links (l ∷ ls) ∙ or_right _ _ (or_left _ _ (and_from _ _ (eq-eqb l.from _ refl) (eq-eqb l.to _ refl)))) w.0 w.1,
      )
  | inr e ↦
      let m = can_link r fi l (first_open r l ls t e) in
      let g = goes_on r l ls m.0 fi t m.1 m.2 in
      let w = circle_there (after_link r l m.0) ls g.fine_so g.there (g.closing ∙ (rw e at c)) in
      (w.0, circle_more _ (with_links r (l ∷ ls)) (λ a b j. simp append_assoc at j) w.0 w.1)
]

pub several_round : SeveralRound
several_round r ls fi t c =
    let w = circle_there r ls fi t c in
    (w, λ row ke. never_kept (with_links r ls) row ke w.0 w.1)

module _ (r : Board) (fi : fine r ≡ true) where
  -- if one of them goes round in one order, then in the other too: no row keeps them all
  closes_too : (ls ls₁ : List Link) → IsPermutation ls ls₁ → all_there r ls ≡ true → all_there r ls₁ ≡ true → closes r ls ≡ true → closes r ls₁ ≡ true
  closes_too ls ls₁ s t t₁ c = elim (cases_Bool (closes r ls₁)) [
    | inl e ↦ e
    | inr e ↦
        let w = several_can r ls₁ fi t₁ e in
        let k = (fine_parts _ w.2).kept in
        absurd ((several_round r ls fi t c).1 w.0 (sym (every_shuffled _ _ _ (shuffled_behind r.links ls ls₁ s)) ∙ k))
  ]

  closes_shuffled : (ls ls₁ : List Link) → IsPermutation ls ls₁ → all_there r ls ≡ true → all_there r ls₁ ≡ true → closes r ls₁ ≡ closes r ls
  closes_shuffled ls ls₁ s t t₁ =
      let a = closes_too ls ls₁ s t t₁ in
      let b = closes_too ls₁ ls (IsPermutation-sym ls ls₁ s) t₁ t in
      grind (arith, nat_tests)

pub several_any_order : SeveralAnyOrder
unfolding several_refusal
several_any_order r ls ls₁ fi s =
    let n = length_permutation ls ls₁ s in
    let t : all_there r ls₁ ≡ all_there r ls = every_shuffled _ ls ls₁ s in
    let b = said_shuffled r ls ls₁ s in
    elim (cases_Bool (all_there r ls)) [
      | inl e ↦ let c = closes_shuffled r fi ls ls₁ s e (t ∙ e) in rw (n, t, b, c)
      | inr e ↦ rw (n, t, e)
    ]

-- The rule, step by step, and the row that comes by it: the rule gives it, it is the only one, it has the given row's cards, and it keeps the links.
use Rattle.std.proofs.Common.{◌≡◌, ℕ, zero, suc, ◌<◌, true, false, not, ◌&&◌, eqb, ltb, ◌⊎◌, List, [], ◌∷◌, length, Some, None, Option, sym, refl, ◌∙◌, ap, ap₂, subst, inl, inr, arith}
use Rattle.std.proofs.lemmas.Bool.Decides.{nat_tests}
use Rattle.std.proofs.lemmas.Bool.{cases_Bool, cases_eq, cases_order, both_ways, or_cases, or_right, and_parts, and_from, eq-eqb, lt-ltb}
use Rattle.order.specs.declared.board.Link.{Link}
use Rattle.order.specs.Lists.{any, has, place, distinct}
use Rattle.order.proofs.Filters.{every_at, every_from, has_filter, distinct_filter}
use Rattle.order.proofs.Members.{has_head, has_tail, has_on}
use Rattle.order.proofs.Places.{place_same}
use Rattle.order.proofs.Ways.{joins}
use Rattle.batch.specs.Rule.{waits, first_free, without, by_rule, anew, Ruled}
use Rattle.batch.specs.RuleLaws.{AnewRuled, RuledOnly, RuledCards, RuledKeeps}
use Rattle.batch.proofs.Within.{has_without, length_without}

-- a card waits just if one that is left is linked to it
pub waits_from : (ls : List Link) (left : List ℕ) (a k : ℕ) → joins ls a k ≡ true → has left a ≡ true → waits ls left k ≡ true
unfolding any
waits_from [] left a k j h = j
waits_from (l ∷ ls) left a k j h = let ih = waits_from ls left a k in grind (arith, nat_tests)

pub waits_for : (ls : List Link) (left : List ℕ) (k : ℕ) → waits ls left k ≡ true → (a : ℕ) × (joins ls a k ≡ true) × (has left a ≡ true)
unfolding any
waits_for [] left k w = absurd (both_ways false refl w)
waits_for (l ∷ ls) left k w = elim (or_cases _ _ w) [
  | inl e ↦ let p = and_parts (eqb l.to k) (has left l.from) e in (l.from, let i = eq-eqb l.from l.from refl in grind arith, p.1)
  | inr e ↦ let v = waits_for ls left k e in (v.0, or_right _ _ v.1, v.2)
]

-- the first that doesn't wait: it is there, it doesn't wait, and all before it do
pub record Next (ls : List Link) (left ks : List ℕ) (k : ℕ) : Type 0 where
  pub there : has ks k ≡ true
  pub free : waits ls left k ≡ false
  pub before : (j : ℕ) → has ks j ≡ true → place ks j < place ks k → waits ls left j ≡ true

module _ (ls : List Link) (left : List ℕ) where
  pub next_head : (k : ℕ) (ks : List ℕ) → waits ls left k ≡ false → Next ls left (k ∷ ks) k
  unfolding place
  next_head k ks w = record {
    there = has_head k ks;
    free = w;
    before = λ j h l. absurd (let e = eq-eqb k k refl in grind arith);
  }

  pub first_next : (ks : List ℕ) (k : ℕ) → first_free ls left ks ≡ Some k → Next ls left ks k
  unfolding first_free place any
  first_next [] k e = cc
  first_next (x ∷ ks) k e = elim (cases_Bool (waits ls left x)) [
    | inl w ↦
        let n = first_next ks k (rw w at e) in
        record {
          there = has_tail x ks k n.there;
          free = n.free;
          before = λ j h l. elim (cases_eq j x) [
            | inl i ↦ rw i w
            | inr i ↦ n.before j (has_on x j ks (λ z. i (sym z)) h) (grind (arith, nat_tests))
          ];
        }
    | inr w ↦ let s : Some x ≡ Some k = rw w at e in let i : x ≡ k = cc in subst (Next ls left (x ∷ ks)) i (next_head x ks w)
  ]

  pub none_free : (ks : List ℕ) (k : ℕ) → first_free ls left ks ≡ None → has ks k ≡ true → waits ls left k ≡ true
  unfolding first_free any
  none_free [] k e h = absurd (both_ways false refl h)
  none_free (x ∷ ks) k e h = elim (cases_Bool (waits ls left x)) [
    | inl w ↦ elim (cases_eq x k) [ inl i ↦ rw i at w | inr i ↦ none_free ks k (rw w at e) (has_on x k ks i h) ]
    | inr w ↦ let s : Some x ≡ None = rw w at e in cc
  ]

-- what comes by the rule: nothing more, or a next card and what comes then
none_or_some : (o : Option ℕ) → (o ≡ None) ⊎ ((k : ℕ) × (o ≡ Some k))
none_or_some None = inl refl
none_or_some (Some k) = inr (k, refl)

pub by_rule_holds : (ls : List Link) (n : ℕ) (left : List ℕ) (P : List ℕ → Type 0) → (first_free ls left left ≡ None → P []) →
    ((k : ℕ) → first_free ls left left ≡ Some k → P (k ∷ by_rule n ls (without left k))) → P (by_rule (suc n) ls left)
unfolding by_rule
by_rule_holds ls n left P a b = elim (none_or_some (first_free ls left left)) [ inl e ↦ rw e (a e) | inr (k, e) ↦ rw e (b k e) ]

-- the parts of Ruled
ruled_next : (ls : List Link) (left : List ℕ) (k : ℕ) (ks : List ℕ) → Ruled ls left (k ∷ ks) → Next ls left left k × Ruled ls (without left k) ks
unfolding Ruled
ruled_next ls left k ks r = (record { there = r.0; free = r.1; before = r.2 }, r.3)

pub next_ruled : (ls : List Link) (left : List ℕ) (k : ℕ) (ks : List ℕ) → Next ls left left k → Ruled ls (without left k) ks → Ruled ls left (k ∷ ks)
unfolding Ruled
next_ruled ls left k ks n r = (n.there, n.free, n.before, r)

-- if all come, they come by the rule
all_ruled : (ls : List Link) (n : ℕ) (left : List ℕ) → distinct left ≡ true → length left ≡ n → length (by_rule n ls left) ≡ n → Ruled ls left (by_rule n ls left)
unfolding Ruled by_rule
all_ruled ls zero [] d e l = refl
all_ruled ls zero (x ∷ xs) d e l = absurd (omega arith)
all_ruled ls (suc n) left d e q =
    by_rule_holds ls n left (λ (xs : List ℕ). length xs ≡ suc n → Ruled ls left xs) (λ f l. absurd (omega arith)) (λ k f l.
    let c = first_next ls left left k f in
    let i = length_without left k d c.there in
    next_ruled ls left k (by_rule n ls (without left k)) c (all_ruled ls n (without left k) (distinct_filter _ left d) (omega arith) (omega arith))) q

pub anew_ruled : AnewRuled
anew_ruled ls row d e = all_ruled ls (length row) row d refl e

-- there is only one such row: of two cards that could come next, each would wait if the other stood before it
one_next : (ls : List Link) (left ks : List ℕ) (j k : ℕ) → Next ls left ks j → Next ls left ks k → j ≡ k
one_next ls left ks j k a b = elim (cases_order (place ks j) (place ks k)) [
  | inl e ↦ place_same ks j k a.there e
  | inr (inl l) ↦ absurd (both_ways _ a.free (b.before j a.there l))
  | inr (inr l) ↦ absurd (both_ways _ b.free (a.before k b.there l))
]

pub next_first : (ls : List Link) (left ks : List ℕ) (k : ℕ) → Next ls left ks k → first_free ls left ks ≡ Some k
next_first ls left ks k n = elim (none_or_some (first_free ls left ks)) [
  | inl e ↦ absurd (both_ways _ n.free (none_free ls left ks k e n.there))
  | inr (j, e) ↦ e ∙ ap Some (one_next ls left ks j k (first_next ls left ks j e) n)
]

none_left : (ls : List Link) (left : List ℕ) (k : ℕ) (ks : List ℕ) → Ruled ls left [] → Ruled ls left (k ∷ ks) → ⊥
unfolding Ruled any
none_left ls left k ks r s = both_ways false refl (rw r at s.0)

pub ruled_only : RuledOnly
ruled_only ls row [] [] r s = refl
ruled_only ls row [] (k ∷ ks) r s = absurd (none_left ls row k ks r s)
ruled_only ls row (j ∷ js) [] r s = absurd (none_left ls row j js s r)
ruled_only ls row (j ∷ js) (k ∷ ks) r s =
    let p = ruled_next ls row j js r in
    let q = ruled_next ls row k ks s in
    let e = one_next ls row row j k p.0 q.0 in
    ap₂ ◌∷◌ e (ruled_only ls (without row k) js ks (rw e at p.1) q.1)

pub ruled_cards : RuledCards
unfolding distinct any Ruled
ruled_cards ls row [] d r = (refl, ap length (sym r), λ k. ap (λ (zs : List ℕ). has zs k) (sym r))
ruled_cards ls row (k ∷ ks) d r =
    let p = ruled_next ls row k ks r in
    let t = p.0.there in
    let l = length_without row k d t in
    let n = ruled_cards ls (without row k) ks (distinct_filter _ row d) p.1 in
    let hk = n.2 k in
    let ek = has_filter (λ i. not (eqb i k)) row k in (
      and_from _ _ (grind (arith, nat_tests)) n.0,
      omega arith,
      λ j. let hj = n.2 j in let ej = has_filter (λ i. not (eqb i k)) row j in grind (arith, nat_tests),
    )

-- a row that comes by the rule is what the rule gives
by_rule_is : (ls : List Link) (left new : List ℕ) → Ruled ls left new → by_rule (length new) ls left ≡ new
unfolding by_rule
by_rule_is ls left [] r = refl
by_rule_is ls left (k ∷ ks) r =
    let p = ruled_next ls left k ks r in
    rw (next_first ls left left k p.0) (ap (λ (zs : List ℕ). k ∷ zs) (by_rule_is ls (without left k) ks p.1))

pub ruled_anew : (ls : List Link) (row new : List ℕ) → distinct row ≡ true → Ruled ls row new → anew ls row ≡ new
ruled_anew ls row new d r = ap (λ (n : ℕ). by_rule n ls row) (sym (ruled_cards ls row new d r).1) ∙ by_rule_is ls row new r

-- it keeps each link between cards of the given row
pub ruled_before : (ls : List Link) (row new : List ℕ) (a b : ℕ) → Ruled ls row new → joins ls a b ≡ true → has row a ≡ true → has row b ≡ true →
    place new a < place new b
unfolding place any Ruled
ruled_before ls row [] a b r j h i = absurd (both_ways false refl (rw r at h))
ruled_before ls row (k ∷ ks) a b r j h i =
    let p = ruled_next ls row k ks r in
    elim (cases_eq b k) [
      | inl e ↦ absurd (both_ways _ p.0.free (waits_from ls row a k (rw e at j) h))
      | inr e ↦ elim (cases_eq a k) [
        | inl f ↦ grind (arith, nat_tests)
        | inr f ↦ let ih = ruled_before ls (without row k) ks a b p.1 j (has_without row k a h f) (has_without row k b i e) in grind (arith, nat_tests)
      ]
    ]

pub ruled_keeps : RuledKeeps
ruled_keeps ls row new d w r =
    every_from (λ a b. ltb (place new a) (place new b)) ls
    (λ a b j. let e = and_parts _ _ (every_at (λ x y. has row x && has row y) ls a b w j) in lt-ltb _ _ (ruled_before ls row new a b r j e.0 e.1))

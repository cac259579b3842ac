-- A card that doesn't come by the rule waits for one that doesn't come either. So not all come just if the links go round among them; and a row that keeps
-- its links comes by the rule as it is.
use Rattle.std.proofs.Common.{◌≡◌, ℕ, zero, suc, ◌<◌, ◌≤◌, true, false, not, ltb, List, [], ◌∷◌, length, sym, refl, ◌∙◌, inl, inr, arith}
use Rattle.std.proofs.lemmas.Bool.{cases_Bool, cases_lt, both_ways, and_parts, not-true, ltb-true}
use Rattle.std.proofs.lemmas.Bool.Decides.{nat_tests}
use Rattle.order.specs.declared.board.Link.{Link}
use Rattle.order.specs.Lists.{any, filter, has, place, distinct}
use Rattle.order.specs.Board.{Board, keeps}
use Rattle.order.specs.Reordering.{follows}
use Rattle.order.proofs.Filters.{every_at, has_filter, distinct_filter}
use Rattle.order.proofs.Members.{has_head, has_tail, has_at, not_again, distinct_tail}
use Rattle.order.proofs.Ways.{joins}
use Rattle.memory.proofs.Options.{given_holds}
use Rattle.batch.specs.Rule.{waits, first_free, without, by_rule, anew, Ruled}
use Rattle.batch.specs.RuleLaws.{AnewRound, KeptIsRuled}
use Rattle.batch.proofs.CircleLinks.{never_kept}
use Rattle.batch.proofs.GoingBack.{goes_back, no_circle}
use Rattle.batch.proofs.RuleRows.{waits_for, next_head, first_next, none_free, by_rule_holds, next_ruled, anew_ruled, ruled_only, ruled_before}
use Rattle.batch.proofs.Within.{within_more, has_without, without_has, without_head, without_shorter, length_without, every_in}

has_not_cons : (x k : ℕ) (ks : List ℕ) → has (x ∷ ks) k ≡ false → (k ≡ x → ⊥) × (has ks k ≡ false)
unfolding any
has_not_cons x k ks h = (λ e. grind (arith, nat_tests), grind (arith, nat_tests))

not_has_cons : (x k : ℕ) (ks : List ℕ) → (k ≡ x → ⊥) → has ks k ≡ false → has (x ∷ ks) k ≡ false
unfolding any
not_has_cons x k ks n h = grind (arith, nat_tests)

-- one of `left` that hasn't come, and is linked to k
abbrev WaitsOn : List Link → List ℕ → List ℕ → ℕ → Type 0
WaitsOn ls left new k = (a : ℕ) × (joins ls a k ≡ true) × (has left a ≡ true) × (has new a ≡ false)

still_waits : (ls : List Link) (n : ℕ) (left : List ℕ) → distinct left ≡ true → length left ≡ n → (k : ℕ) → has left k ≡ true →
    has (by_rule n ls left) k ≡ false → WaitsOn ls left (by_rule n ls left) k
unfolding any
still_waits ls zero [] d e k h w = absurd (both_ways false refl h)
still_waits ls zero (x ∷ xs) d e k h w = absurd (omega arith)
still_waits ls (suc n) left d e k h q =
    by_rule_holds ls n left (λ (xs : List ℕ). has xs k ≡ false → WaitsOn ls left xs k)
    (λ f _. let v = waits_for ls left k (none_free ls left left k f h) in (v.0, v.1, v.2, refl)) (λ j f w.
    let rest = by_rule n ls (without left j) in
    let c = has_not_cons j k rest w in
    let i = length_without left j d (first_next ls left left j f).there in
    let v = still_waits ls n (without left j) (distinct_filter _ left d) (omega arith) k (has_without left j k h c.0) c.1 in
    let b = without_has left j v.0 v.2 in
    (v.0, v.1, b.0, not_has_cons j v.0 rest b.1 v.3)) q

pub left_waits : (ls : List Link) (row : List ℕ) → distinct row ≡ true → (k : ℕ) → has row k ≡ true → has (anew ls row) k ≡ false →
    WaitsOn ls row (anew ls row) k
left_waits ls row d = still_waits ls (length row) row d refl

-- of more numbers than there are in ys, one isn't there
pub one_not : (xs ys : List ℕ) → distinct xs ≡ true → length ys < length xs → (k : ℕ) × (has xs k ≡ true) × (has ys k ≡ false)
one_not [] ys d l = absurd (omega arith)
one_not (x ∷ xs) ys d l = elim (cases_Bool (has ys x)) [
  | inl h ↦
      let s = without_shorter ys x h in
      let w = one_not xs (without ys x) (distinct_tail x xs d) (omega arith) in
      let k = w.0 in
      let n : k ≡ x → ⊥ = λ e. both_ways _ (not_again x xs d) (has_at xs k x e w.1) in
      (k, has_tail x xs k w.1, elim (cases_Bool (has ys k)) [ inl i ↦ absurd (both_ways _ w.2 (has_without ys x k i n)) | inr i ↦ i ])
  | inr h ↦ (x, has_head x xs, h)
]

-- no more come than are asked for
by_rule_few : (ls : List Link) (n : ℕ) (left : List ℕ) → length (by_rule n ls left) ≤ n
unfolding by_rule
by_rule_few ls zero left = omega arith
by_rule_few ls (suc n) left =
    given_holds (λ _. Unit {0}) (λ (xs : List ℕ). length xs ≤ suc n) (first_free ls left left) [] _ tt (omega arith)
    (λ k _. omega (arith, by_rule_few ls n (without left k)))

pub anew_round : AnewRound
unfolding follows distinct any
anew_round ls row d =
    let r : Board = record { row = row; links = ls } in
    let left = filter (λ k. not (has (anew ls row) k)) row in
    let is = has_filter (λ k. not (has (anew ls row) k)) row in
    let few = by_rule_few ls (length row) row in (
      few,
      λ l.
          let o = one_not row (anew ls row) d l in
          let w = goes_back r left (λ k h.
          let p = and_parts (not (has (anew ls row) k)) (has row k) (sym (is k) ∙ h) in
          let v = left_waits ls row d k p.1 (not-true _ p.0) in
          (v.0, v.1, is v.0 ∙ rw (v.2, v.3) refl)) (length left) o.0 [] refl refl
          (within_more o.0 [] left (is o.0 ∙ rw (o.1, o.2) refl) (λ k h. absurd (both_ways false refl h))) (omega arith) in
          (w.0, w.1, every_in (has row) w.0 (λ k h. (and_parts (not (has (anew ls row) k)) (has row k) (sym (is k) ∙ w.2 k h)).1)),
      λ way c w. elim (cases_lt (length (anew ls row)) (length row)) [
        | inl l ↦ l
        | inr l ↦
            let u = anew_ruled ls row d (omega arith) in
            absurd (no_circle r (has row) (place (anew ls row)) (λ a b j h i. ruled_before ls row (anew ls row) a b u j h i) way c w)
      ],
    )

-- if a row keeps the links, all cards of another come
pub all_come : (ls : List Link) (row kept : List ℕ) → distinct row ≡ true → keeps kept ls ≡ true → length (anew ls row) ≡ length row
all_come ls row kept d k =
    let a = anew_round ls row d in
    elim (cases_lt (length (anew ls row)) (length row)) [
      | inl l ↦ let w = a.1 l in absurd (never_kept (record { row = row; links = ls }) kept k w.0 w.1)
      | inr l ↦ omega (arith, a.0)
    ]

-- a row in which each card stands before those that it is linked to
kept_left : (ls : List Link) (left : List ℕ) → distinct left ≡ true → ((a b : ℕ) → joins ls a b ≡ true → has left a ≡ true → place left a < place left b) →
    Ruled ls left left
unfolding Ruled place
kept_left ls [] d h = refl
kept_left ls (k ∷ ks) d h =
    let w : waits ls (k ∷ ks) k ≡ false = elim (cases_Bool (waits ls (k ∷ ks) k)) [
      | inl e ↦ let v = waits_for ls (k ∷ ks) k e in let l = h v.0 k v.1 v.2 in grind (arith, nat_tests)
      | inr e ↦ e
    ] in
    next_ruled ls (k ∷ ks) k ks (next_head ls (k ∷ ks) k ks w) (rw (without_head k ks d) (kept_left ls ks (distinct_tail k ks d) (λ a b j i.
    let l = h a b j (has_tail k ks a i) in
    let n : a ≡ k → ⊥ = λ e. both_ways _ (not_again k ks d) (has_at ks a k e i) in
    grind (arith, nat_tests))))

pub kept_is_ruled : KeptIsRuled
kept_is_ruled ls row d k =
    let r = kept_left ls row d (λ a b j _. ltb-true _ _ (every_at (λ x y. ltb (place row x) (place row y)) ls a b k j)) in
    (r, ruled_only ls row (anew ls row) row (anew_ruled ls row d (all_come ls row row d k)) r)

-- A list in which what passes one of two tests, B and A, is put in order: first what passes A, then what passes B. The rest keeps its place.
use Rattle.std.proofs.Common.{◌≡◌, ℕ, ◌+◌, ◌<◌, Bool, true, false, not, ◌||◌, List, [], ◌∷◌, ◌++◌, length, take, drop, sym, refl, ap, ◌∙◌, inl, inr, append_assoc, append-nil, arith, length-append, take-append-drop, length-take}
use Rattle.std.proofs.lemmas.Bool.{eq-eqb, cases_Bool, and_from, or_left, or_right}
use Rattle.order.specs.Lists.{every, filter, has, place}
use Rattle.order.proofs.Places.{has_append, place_below, place_left, place_right, has_from_take, split_at, place_split}
use Rattle.order.proofs.Filters.{has_filter, place_from_filter, filter_append, filter_again, filter_none, filter_within, every_append, every_weaker, every_take}
use Rattle.order.proofs.Filters.{has_by_test, before_by_test}
use Rattle.order.proofs.Ahead.{first_before, both_second}
use Rattle.order.proofs.Refill.{refill, length_refill, others_refill, filter_refill, place_refill, refill_skip, refill_append}

abbrev pub either : (ℕ → Bool) → (ℕ → Bool) → ℕ → Bool
either B A k = B k || A k

abbrev pub neither : (ℕ → Bool) → (ℕ → Bool) → ℕ → Bool
neither B A k = not (B k || A k)

-- the places of what passes A or B get what passes A, then what passes B
unfoldable pub refilled : (ℕ → Bool) → (ℕ → Bool) → List ℕ → List ℕ
refilled B A M = refill (either B A) (filter A M ++ filter B M) M

module _ (B A : ℕ → Bool) (apart : (k : ℕ) → B k ≡ true → A k ≡ false) where
  every_fill : (M : List ℕ) → every (either B A) (filter A M ++ filter B M) ≡ true
  every_fill M =
      every_append (either B A) (filter A M) (filter B M)
      ∙ and_from _ _ (every_weaker A (either B A) (λ k e. or_right (B k) (A k) e) M) (every_weaker B (either B A) (λ k e. or_left (B k) (A k) e) M)

  length_fill : (M : List ℕ) → length (filter A M) + length (filter B M) ≡ length (filter (either B A) M)
  unfolding filter
  length_fill [] = refl
  length_fill (x ∷ M) = let ih = length_fill M in let n = apart x in grind arith

  pub length_fills : (M : List ℕ) → length (filter A M ++ filter B M) ≡ length (filter (either B A) M)
  length_fills M = length-append (filter A M) (filter B M) ∙ length_fill M

  pub length_refilled : (M : List ℕ) → length (refilled B A M) ≡ length M
  unfolding refilled
  length_refilled M = length_refill (either B A) _ M

  pub filter_refilled_neither : (M : List ℕ) → filter (neither B A) (refilled B A M) ≡ filter (neither B A) M
  unfolding refilled
  filter_refilled_neither M = others_refill (either B A) (filter A M ++ filter B M) M (every_fill M)

  pub filter_refilled_either : (M : List ℕ) → filter (either B A) (refilled B A M) ≡ filter A M ++ filter B M
  unfolding refilled
  filter_refilled_either M = filter_refill (either B A) (filter A M ++ filter B M) M (every_fill M) (length_fills M)

  pub filter_refilled_A : (M : List ℕ) → filter A (refilled B A M) ≡ filter A M
  filter_refilled_A M =
      sym (filter_within A (either B A) (λ k e. or_right (B k) (A k) e) (refilled B A M))
      ∙ ap (filter A) (filter_refilled_either M)
      ∙ simp (filter_append, filter_again, append-nil, filter_none A B (λ k e. let n = apart k in grind arith) M)

  pub filter_refilled_B : (M : List ℕ) → filter B (refilled B A M) ≡ filter B M
  filter_refilled_B M =
      sym (filter_within B (either B A) (λ k e. or_left (B k) (A k) e) (refilled B A M))
      ∙ ap (filter B) (filter_refilled_either M)
      ∙ simp (filter_append, filter_again, filter_none B A (λ k e. let n = apart k in grind arith) M)

  pub has_refilled : (M : List ℕ) (k : ℕ) → has (refilled B A M) k ≡ has M k
  has_refilled M k = elim (cases_Bool (B k)) [
    | inl p ↦ has_by_test B (refilled B A M) M k (filter_refilled_B M) p
    | inr p ↦ elim (cases_Bool (A k)) [
      | inl q ↦ has_by_test A (refilled B A M) M k (filter_refilled_A M) q
      | inr q ↦ has_by_test (neither B A) (refilled B A M) M k (filter_refilled_neither M) (grind arith)
    ]
  ]

  pub place_refilled : (M : List ℕ) (k : ℕ) → either B A k ≡ false → place (refilled B A M) k ≡ place M k
  unfolding refilled
  place_refilled M k n = place_refill (either B A) (filter A M ++ filter B M) M k (every_fill M) n

  -- what passes A stands before what passes B
  pub ends_refilled : (M : List ℕ) (x y : ℕ) → has M x ≡ true → A x ≡ true → B y ≡ true → place (refilled B A M) x < place (refilled B A M) y
  ends_refilled M x y h ax by' =
      place_from_filter (either B A) (refilled B A M) x y (or_right (B x) (A x) ax) (or_left (B y) (A y) by')
      (rw (filter_refilled_either M)
      (first_before (filter A M) (filter B M) x y (has_filter A M x ∙ and_from _ _ ax h) (let e = has_filter A M y in let n = apart y by' in grind arith)))

  -- at one that passes neither, which stays, the list falls in two
  module _ (P Q : List ℕ) (y : ℕ) (out : either B A y ≡ false) where
    rest_fill : List ℕ
    rest_fill = filter A Q ++ filter B P

    fill₁ : List ℕ
    fill₁ = filter A P ++ take (length (filter B P)) rest_fill

    fill₂ : List ℕ
    fill₂ = drop (length (filter B P)) rest_fill ++ filter B Q

    fills : filter A (P ++ y ∷ Q) ++ filter B (P ++ y ∷ Q) ≡ fill₁ ++ fill₂
    unfolding fill₁ fill₂ rest_fill filter
    fills =
        let na : A y ≡ false = grind arith in
        let nb : B y ≡ false = grind arith in
        let s = take-append-drop (length (filter B P)) (filter A Q ++ filter B P) in
        simp (filter_append, na, nb, append_assoc)
        (ap (λ u. filter A P ++ u)
        (sym (append_assoc (filter A Q) (filter B P) (filter B Q))
        ∙ ap (λ u. u ++ filter B Q) (sym s)
        ∙ append_assoc (take (length (filter B P)) (filter A Q ++ filter B P)) (drop (length (filter B P)) (filter A Q ++ filter B P)) (filter B Q)))

    length_fill₁ : length fill₁ ≡ length (filter (either B A) P)
    unfolding fill₁ rest_fill
    length_fill₁ = simp (length-append, length-take) (omega (arith, length_fill P))

    every_fill₁ : every (either B A) fill₁ ≡ true
    unfolding fill₁ rest_fill
    every_fill₁ =
        let z = λ (M : List ℕ). every_weaker A (either B A) (λ k e. or_right (B k) (A k) e) M in
        let b = every_weaker B (either B A) (λ k e. or_left (B k) (A k) e) P in
        every_append (either B A) (filter A P) _
        ∙ and_from _ _ (z P) (every_take (either B A) _ (filter A Q ++ filter B P) (every_append (either B A) (filter A Q) (filter B P) ∙ and_from _ _ (z Q) b))

    head : List ℕ
    head = refill (either B A) fill₁ P

    tail : List ℕ
    tail = refill (either B A) fill₂ Q

    refilled_there : refilled B A (P ++ y ∷ Q) ≡ head ++ y ∷ tail
    unfolding refilled head tail
    refilled_there =
        rw (fills, refill_append (either B A) fill₁ fill₂ P (y ∷ Q) length_fill₁, refill_skip (either B A) fill₂ y Q out)

    has_head : (x : ℕ) → either B A x ≡ true → has head x ≡ has fill₁ x
    unfolding head
    has_head x t =
        let e = has_filter (either B A) (refill (either B A) fill₁ P) x in
        let s = ap (λ zs. has zs x) (filter_refill (either B A) fill₁ P every_fill₁ length_fill₁) in
        grind arith

    head_A : (x : ℕ) → A x ≡ true → has P x ≡ true → has head x ≡ true
    unfolding fill₁
    head_A x z h =
        let p = has_head x (or_right (B x) (A x) z) in
        let q = has_append (filter A P) (take (length (filter B P)) rest_fill) x in
        let s = has_filter A P x in
        grind arith

    head_B : (x : ℕ) → B x ≡ true → has P x ≡ false → has head x ≡ false
    unfolding fill₁ rest_fill
    head_B x b h =
        let n = apart x b in
        let p = has_head x (or_left (B x) (A x) b) in
        let q = has_append (filter A P) (take (length (filter B P)) rest_fill) x in
        let t = has_from_take (length (filter B P)) (filter A Q ++ filter B P) x in
        let u = has_append (filter A Q) (filter B P) x in
        let s₁ = has_filter A P x in let s₂ = has_filter A Q x in let s₃ = has_filter B P x in
        grind arith

    head_neither : (x : ℕ) → either B A x ≡ false → has head x ≡ has P x
    unfolding head
    head_neither x n = has_by_test (neither B A) _ P x (others_refill (either B A) fill₁ P every_fill₁) (grind arith)

  -- what passes A and stood before one that passes neither still does
  before_out : (P Q : List ℕ) (x y : ℕ) → either B A y ≡ false → has P y ≡ false → A x ≡ true → place (P ++ y ∷ Q) x < place (P ++ y ∷ Q) y →
      place (refilled B A (P ++ y ∷ Q)) x < place (refilled B A (P ++ y ∷ Q)) y
  before_out P Q x y out h z l =
      let s = place_split P Q y h in
      let hx : has P x ≡ true = elim (cases_Bool (has P x)) [ inl p ↦ p | inr p ↦ absurd (omega (arith, place_right P (y ∷ Q) x p)) ] in
      rw (refilled_there P Q y out)
      (first_before (head P Q y out) (y ∷ tail P Q y out) x y (head_A P Q y out x z hx) (head_neither P Q y out y out ∙ h))

  -- what passes B and stood behind one that passes neither still does
  behind_out : (P Q : List ℕ) (x y : ℕ) → either B A x ≡ false → has P x ≡ false → B y ≡ true → place (P ++ x ∷ Q) x < place (P ++ x ∷ Q) y →
      place (refilled B A (P ++ x ∷ Q)) x < place (refilled B A (P ++ x ∷ Q)) y
  unfolding place
  behind_out P Q x y out h b l =
      let s = place_split P Q x h in
      let hy : has P y ≡ false = elim (cases_Bool (has P y)) [ inl p ↦ absurd (omega (arith, place_left P (x ∷ Q) y p, place_below P y p)) | inr p ↦ p ] in
      let i = eq-eqb x x refl in
      rw (refilled_there P Q x out)
      (both_second (head P Q x out) (x ∷ tail P Q x out) x y (head_neither P Q x out x out ∙ h) (head_B P Q x out y b hy) (grind arith))

  -- one that stood before another still does, unless it passes B and the other does not, or the other passes A and it does not
  pub before_refilled : (M : List ℕ) (x y : ℕ) → has M x ≡ true → has M y ≡ true → (B x ≡ true → B y ≡ true) → (A y ≡ true → A x ≡ true) →
      place M x < place M y → place (refilled B A M) x < place (refilled B A M) y
  before_refilled M x y hx hy kb ka l =
      elim (cases_Bool (B x)) [
        | inl bx ↦ before_by_test B M (refilled B A M) x y (filter_refilled_B M) bx (kb bx) l
        | inr bx ↦ elim (cases_Bool (A x)) [
          | inl ax ↦ elim (cases_Bool (A y)) [
            | inl ay ↦ before_by_test A M (refilled B A M) x y (filter_refilled_A M) ax ay l
            | inr ay ↦ elim (cases_Bool (B y)) [
              | inl by' ↦ ends_refilled M x y hx ax by'
              | inr by' ↦
                  let w = split_at M y hy in
                  rw w.2 (before_out w.0 w.1 x y (grind arith) w.3 ax (rw w.2 at l))
            ]
          ]
          | inr ax ↦ elim (cases_Bool (B y)) [
            | inl by' ↦
                let w = split_at M x hx in
                rw w.2 (behind_out w.0 w.1 x y (grind arith) w.3 by' (rw w.2 at l))
            | inr by' ↦
                before_by_test (neither B A) M (refilled B A M) x y (filter_refilled_neither M) (grind arith)
                (let k : A y ≡ false = grind arith in grind arith) l
          ]
        ]
      ]

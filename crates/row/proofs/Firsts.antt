-- The first number from one on that passes a test.
use Rattle.std.proofs.Common.{◌≡◌, ℕ, zero, suc, ◌+◌, ◌-◌, ◌<◌, ◌≤◌, min, Bool, true, false, List, sym, ap, ◌∙◌, inl, inr, arith}
use Rattle.std.proofs.lemmas.Bool.{cases_Bool, cases_lt, cases_eq}
use Rattle.row.specs.declared.layout.TheConstants.{SEATS_MOST}
use Rattle.row.specs.Meaning.{taken}
use Rattle.row.specs.Telling.{first_from, next_seat}
use Rattle.row.specs.Laws.{Next}
use Rattle.row.proofs.Words.{taken_low}

module _ (f : ℕ → Bool) where
  pub first_is : (n p q : ℕ) → p ≤ q → q < p + n → f q ≡ true → ((r : ℕ) → p ≤ r → r < q → f r ≡ false) → first_from f n p ≡ q
  unfolding first_from
  first_is zero p q l u h o = absurd (omega arith)
  first_is (suc n) p q l u h o = elim (cases_eq p q) [
    | inl e ↦ let t : f p ≡ true = ap f e ∙ h in rw t e
    | inr ne ↦ let t = o p (omega arith) (omega arith) in rw t (first_is n (p + 1) q (omega arith) (omega arith) h (λ r a b. o r (omega arith) b))
  ]

  pub first_none : (n p : ℕ) → ((r : ℕ) → p ≤ r → r < p + n → f r ≡ false) → first_from f n p ≡ p + n
  unfolding first_from
  first_none zero p o = omega arith
  first_none (suc n) p o =
      let t = o p (omega arith) (omega arith) in
      rw t (first_none n (p + 1) (λ r a b. o r (omega arith) (omega arith)) ∙ omega arith)

  pub first_holds : (n p : ℕ) → (p ≤ first_from f n p) × (first_from f n p ≤ p + n) × (first_from f n p < p + n → f (first_from f n p) ≡ true)
      × ((r : ℕ) → p ≤ r → r < first_from f n p → f r ≡ false)
  unfolding first_from
  first_holds zero p = (omega arith, omega arith, λ l. absurd (omega arith), λ r a b. absurd (omega arith))
  first_holds (suc n) p = elim (cases_Bool (f p)) [
    | inl t ↦ rw t (omega arith, omega arith, λ _. t, λ r a b. absurd (omega arith))
    | inr t ↦
        let h = first_holds n (p + 1) in
        let q : ℕ = first_from f n (p + 1) in
        let a = h.0 in let b = h.1 in
        rw t (omega arith, omega arith, λ l. h.2 (omega arith), λ r x y. elim (cases_eq r p) [ inl e ↦ ap f e ∙ t | inr ne ↦ h.3 r (omega arith) y ])
  ]

pub next_holds : (m : List ℕ) (p : ℕ) → Next (taken m) p (next_seat m p)
unfolding next_seat
next_holds m p =
    let h = first_holds (taken m) (SEATS_MOST - p) (min p SEATS_MOST) in
    let a = h.0 in let b = h.1 in
    record { room = omega arith; here = λ l. h.2 (omega arith); first = λ r x y. h.3 r (omega arith) y; from = λ l. omega arith }

pub next_is : (m : List ℕ) (p q : ℕ) → Next (taken m) p q → q ≡ next_seat m p
unfolding next_seat
next_is m p q x = elim (cases_lt q SEATS_MOST) [
  | inl l ↦
      let a = x.from l in
      let e : min p SEATS_MOST ≡ p = omega arith in
      sym (ap (first_from (taken m) (SEATS_MOST - p)) e ∙ first_is (taken m) (SEATS_MOST - p) p q a (omega arith) (x.here l) x.first)
  | inr l ↦
      let a = x.room in
      sym (first_none (taken m) (SEATS_MOST - p) (min p SEATS_MOST) (λ r b c. x.first r (omega arith) (omega arith)) ∙ omega arith)
]

-- a taken seat is the next one from itself on
pub next_here : (m : List ℕ) (p : ℕ) → taken m p ≡ true → Next (taken m) p p
next_here m p h = record {
  room = let l = taken_low m p h in omega arith;
  here = λ _. h;
  first = λ r l u. absurd (omega arith);
  from = λ _. omega arith;
}

-- past the last seat there is none
pub next_past : (m : List ℕ) (p : ℕ) → SEATS_MOST ≤ p → next_seat m p ≡ SEATS_MOST
next_past m p h =
    let x = next_holds m p in
    let r = x.room in
    elim (cases_lt (next_seat m p) SEATS_MOST) [ inl l ↦ absurd (let f = x.from l in omega arith) | inr l ↦ omega arith ]

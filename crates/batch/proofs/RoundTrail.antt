-- What is followed step by step back along links until it is where it began, turned round, is a circle.
use Rattle.std.proofs.Common.{◌≡◌, ℕ, zero, suc, ◌<◌, ◌≤◌, Bool, true, false, List, [], ◌∷◌, refl, ap, ◌∙◌, subst, inl, inr, arith}
use mathlib.Core.List.{reverse_aux}
use Rattle.std.proofs.lemmas.Bool.{cases_Bool, cases_eq, eq-eqb, ne_eqb, and_from}
use Rattle.order.specs.Lists.{every, any, has, distinct}
use Rattle.order.specs.Board.{Board, linked}
use Rattle.order.specs.Reordering.{follows, last_of}
use Rattle.order.proofs.Members.{has_on}
use Rattle.search.specs.Way.{trail}
use Rattle.search.proofs.Rounds.{Runs, runs_more}
use Rattle.batch.specs.Several.{circle}
use Rattle.batch.specs.Circling.{back}
use Rattle.batch.proofs.Within.{distinct_cons}

-- how many steps it is from s to e, for the first time
module _ (next : ℕ → ℕ) (e : ℕ) where
  abbrev pub Away : ℕ → ℕ → Type 0
  Away zero s = s ≡ e
  Away (suc n) s = (s ≡ e → ⊥) × Away n (next s)

  pub away_first : (n s : ℕ) → back next n s ≡ e → (q : ℕ) × (q ≤ n) × Away q s
  unfolding back
  away_first zero s h = (0, omega arith, h)
  away_first (suc n) s h = elim (cases_eq s e) [
    | inl z ↦ (0, omega arith, z)
    | inr z ↦ let w = away_first n (next s) h in (suc w.0, omega arith, (z, w.2))
  ]

  away_one : (m n s : ℕ) → Away m s → Away n s → m ≡ n
  away_one zero zero s a b = refl
  away_one zero (suc n) s a b = absurd (b.0 a)
  away_one (suc m) zero s a b = absurd (a.0 b)
  away_one (suc m) (suc n) s a b = ap suc (away_one m n (next s) a.1 b.1)

  -- all of ks are at least n steps away
  abbrev pub Far : ℕ → List ℕ → Type 0
  Far n ks = (k : ℕ) → has ks k ≡ true → (m : ℕ) × (n ≤ m) × Away m k

  far_more : (n s : ℕ) (ks : List ℕ) → Away n s → Far (suc n) ks → Far n (s ∷ ks)
  far_more n s ks a f k h = elim (cases_eq s k) [
    | inl z ↦ (n, omega arith, subst (Away n) z a)
    | inr z ↦ let w = f k (has_on s k ks z h) in (w.0, omega arith, w.2)
  ]

  far_not : (n s : ℕ) (ks : List ℕ) → Away n s → Far (suc n) ks → has ks s ≡ false
  far_not n s ks a f = elim (cases_Bool (has ks s)) [
    | inl h ↦ absurd (let w = f s h in omega (arith, away_one n w.0 s a w.2))
    | inr h ↦ h
  ]

module _ (r : Board) (D : ℕ → Bool) (next : ℕ → ℕ) (on : (s : ℕ) → D s ≡ true → (D (next s) ≡ true) × (linked r (next s) s ≡ true)) (e : ℕ) where
  turned : (n q s a : ℕ) (zs : List ℕ) → q < n → Away next e q s → D s ≡ true → Runs r D s a (s ∷ zs) → distinct (s ∷ zs) ≡ true → Far next e q (s ∷ zs) →
      Runs r D e a (reverse_aux (trail next n e s) zs) × (distinct (reverse_aux (trail next n e s) zs) ≡ true)
  unfolding trail
  turned zero q s a zs l w d u v f = absurd (omega arith)
  turned (suc n) zero s a zs l w d u v f = rw (eq-eqb s e w) (subst (λ (k : ℕ). Runs r D k a (s ∷ zs)) w u, v)
  turned (suc n) (suc q) s a zs l w d u v f =
      rw (ne_eqb s e w.0) (turned n q (next s) a (s ∷ zs) (omega arith) w.1 (on s d).0
      (runs_more r D (next s) s a (s ∷ zs) (on s d).0 (on s d).1 u)
      (distinct_cons (next s) (s ∷ zs) (far_not next e q (next s) (s ∷ zs) w.1 f) v)
      (far_more next e q (next s) (s ∷ zs) w.1 f))

  pub round_circle : (n p : ℕ) → p < n → back next p (next e) ≡ e → D e ≡ true →
      (circle r (reverse_aux (trail next n e (next e)) []) ≡ true) × (every D (reverse_aux (trail next n e (next e)) []) ≡ true)
  unfolding circle follows last_of every distinct any
  round_circle n p l h d =
      let s = next e in
      let w = away_first next e p s h in
      let t = turned n w.0 s s [] (omega arith) w.2 (on e d).0
      (record { rest = []; is = refl; links = refl; ends = refl; all = and_from _ _ (on e d).0 refl }) refl
      (far_more next e w.0 s [] w.2 (λ k i. absurd (let z : false ≡ true = i in grind arith))) in
      let u = t.0 in
      let x = subst (λ (ks : List ℕ). distinct ks ≡ true) u.is t.1 in (
        ap (circle r) u.is ∙ and_from _ _ (rw u.ends (on e d).1) (and_from _ _ u.links x),
        ap (every D) u.is ∙ u.all,
      )

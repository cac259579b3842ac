-- The two searches in turn, to their end.
use Rattle.std.proofs.Common.{◌≡◌, ℕ, zero, suc, ◌+◌, ◌-◌, ◌*◌, ◌<◌, ◌≤◌, true, false, cond, ◌&&◌, List, Some, None, Option, Continue, Break, ControlFlow, sym, refl, ap, ◌∙◌, arith}
use Rattle.std.proofs.lemmas.Bool.{and_parts, both_ways, cond_both}
use Rattle.search.proofs.Common.{Link, ◌⟶◌, given, marked, Side, Fore, Hind, Part, Front, marks_of, other, gone_on, idle, Met, met_with, hunt_on, hunted}
use Rattle.search.proofs.Common.{part_of, Parted}
use Rattle.memory.proofs.Fuel.{fuel_step, fuel_end}
use Rattle.search.specs.HuntLaws.{Found}
use Rattle.search.proofs.Between.{Setting, part_tells, Sound}
use Rattle.search.proofs.Entering.{each_side}
use Rattle.search.proofs.Parting.{Closed, parted}
use Rattle.search.proofs.Advancing.{passed, ahead_of, left_over, Placed, Fronted, placed_same, Tells, goes}

module _ (m : List ℕ) (a b : ℕ) (S : Setting m a b) where
  abbrev w : Part
  w = part_of m (a ⟶ b)

  -- neither has anything to go on from
  module _ (n : List ℕ) (s : Sound m a b n) (c e : Front) (o : e.side ≡ other c.side) (hc : Fronted m a b n c) (he : Fronted m a b n e)
      (pc : (q : ℕ) → passed c.side c.cursor q ≡ true) (pe : (q : ℕ) → passed e.side e.cursor q ≡ true) where
    closed_both : (d : Side) (q : ℕ) → marked n (marks_of d) q ≡ true → Closed m a b d n q
    closed_both =
        each_side (λ d. (q : ℕ) → marked n (marks_of d) q ≡ true → Closed m a b d n q) c.side (λ q h. hc.closed q h (pc q))
        (rw (← o) (λ q h. he.closed q h (pe q)))

    both_done : Parted m n a b
    both_done = parted m a b S n s closed_both

  none_left : (n : List ℕ) (s : Sound m a b n) (d : Side) (o : Option ℕ) (f : ℕ) → Placed m a b n d o f → ahead_of d o ≡ 0 → (q : ℕ) → passed d o q ≡ true
  none_left n s d None f h z q = refl
  none_left n s d (Some p) f h z q = absurd (omega (arith, left_over d p (part_tells m a b S p (s.within d p (h.there p refl)).1).2))

  idle_none : (d : Side) (o : Option ℕ) → given o true (λ p. false) ≡ true → (q : ℕ) → passed d o q ≡ true
  idle_none d None h q = refl
  idle_none d (Some p) h q = absurd (both_ways true (sym h) refl)

  abbrev Right : Met → Type 0
  Right x = Found m x.memory a b x.answer

  by_answer : (n : List ℕ) (c : Front) (u : ControlFlow Link Front) (k : Front → Met) → Tells m a b S n c u
      → ((e : Front) → Tells m a b S n c (Continue e) → Right (k e)) → Right (hunt_on u n k)
  by_answer n c (Break l) k t h = t
  by_answer n c (Continue e) k t h = h e t

  two_sides : (d e f : Side) → e ≡ other d → f ≡ d → f ≡ other e
  two_sides Fore e f p q = q ∙ ap other (sym p)
  two_sides Hind e f p q = q ∙ ap other (sym p)

  abbrev turns : Front → ℕ
  turns c = ahead_of c.side c.cursor

  pub hunts : (f : ℕ) (n : List ℕ) (c e : Front) → Sound m a b n → e.side ≡ other c.side → Fronted m a b n c → Fronted m a b n e
      → 2 * turns c ≤ suc f → 2 * turns e ≤ f → Right (hunted f n w c e)
  unfolding hunted
  hunts zero n c e s o hc he lc le =
      both_done n s c e o hc he (none_left n s c.side c.cursor c.fuel hc (omega arith)) (none_left n s e.side e.cursor e.fuel he (omega arith))
  hunts (suc f) n c e s o hc he lc le =
      let x = gone_on n w c in
      let G = goes m a b S n c s hc in
      let rest : Front → Met = λ k. hunted f x.memory w e k in
      cond_both (idle c && idle e) (met_with None n) (hunt_on x.advance x.memory rest) Right
      (λ i.
      let p = and_parts (idle c) (idle e) i in
      both_done n s c e o hc he (idle_none c.side c.cursor p.0) (idle_none e.side e.cursor p.1))
      (λ _. by_answer x.memory c x.advance rest G.told (λ k t.
      hunts f x.memory e k G.sound (two_sides c.side e.side k.side o t.0)
      (placed_same m a b n x.memory e.side e.cursor e.fuel (rw o G.same_other) he) t.1
      (omega arith) (let u = t.2 in omega arith)))

-- the steps of the loop
module _ (N i : ℕ) (m : List ℕ) (w : Part) (c d : Front) where
  pub hunted_at : i < N → hunted (N - i) m w c d
      ≡ cond (idle c && idle d) (met_with None m)
      (hunt_on (gone_on m w c).advance (gone_on m w c).memory (λ e. hunted (N - (i + 1)) (gone_on m w c).memory w d e))
  unfolding hunted
  hunted_at h = fuel_step (λ f. hunted f m w c d) N i h

  pub hunted_end : N ≤ i → hunted (N - i) m w c d ≡ met_with None m
  unfolding hunted
  hunted_end h = fuel_end (λ f. hunted f m w c d) N i h

pub ruleset hunting = (hunted_at, hunted_end)

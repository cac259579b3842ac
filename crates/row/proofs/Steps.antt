-- The steps of the loops whose models have fuel: what is left of it, one step on, and at the end.
use Rattle.std.proofs.Common.{◌≡◌, ℕ, ◌+◌, ◌-◌, ◌<◌, ◌≤◌, Bool, true, false, cond, List, set, Some, None, ap, ◌∙◌, sym, refl, inl, inr, zero, suc, arith}
use Rattle.std.proofs.lemmas.Bool.{eq-eqb, ne_eqb, cases_Bool}
use Rattle.memory.specs.Columns.{cell, written}
use Rattle.memory.proofs.Fuel.{fuel_step, fuel_end}
use Rattle.row.specs.declared.layout.TheConstants.{SEATS_MOST, HEADS, ENDING, IDS, SLOTS}
use Rattle.row.specs.Lookup.{entry, followed, sought}
use Rattle.row.specs.Meaning.{taken}
use Rattle.row.specs.Moves.{drawn, packed_from}
use Rattle.row.specs.Telling.{next_seat, tells, tellable, told, told_count}
use Rattle.row.proofs.Firsts.{next_past}

-- a card's entry is sought
module _ (N i p k : ℕ) (m : List ℕ) where
  pub sought_over : N ≤ i → sought (N - i) m p k ≡ None
  unfolding sought
  sought_over h = fuel_end (λ f. sought f m p k) N i h

  pub sought_stop : i < N → followed m p ≡ None → sought (N - i) m p k ≡ None
  unfolding sought
  sought_stop h e = fuel_step (λ f. sought f m p k) N i h ∙ rw e

  pub sought_hit : (s : ℕ) → i < N → followed m p ≡ Some s → cell m IDS s ≡ k → sought (N - i) m p k ≡ Some (entry p s)
  unfolding sought
  sought_hit s h e t = fuel_step (λ f. sought f m p k) N i h ∙ rw (e, eq-eqb (cell m IDS s) k t)

  pub sought_on : (s : ℕ) → i < N → followed m p ≡ Some s → (cell m IDS s ≡ k → ⊥) → sought (N - i) m p k ≡ sought (N - (i + 1)) m (HEADS + s) k
  unfolding sought
  sought_on s h e t = fuel_step (λ f. sought f m p k) N i h ∙ rw (e, ne_eqb (cell m IDS s) k t)

pub ruleset seeks = (sought_over, sought_stop, sought_hit, sought_on)

-- slots are drawn to the front
module _ (N p k : ℕ) (m : List ℕ) where
  pub packed_end : N ≤ p → packed_from (N - p) m p k ≡ written m ENDING 0 k
  unfolding packed_from
  packed_end h = fuel_end (λ f. packed_from f m p k) N p h

  pub packed_taken : p < N → taken m p ≡ true → packed_from (N - p) m p k ≡ packed_from (N - (p + 1)) (drawn m p k) (p + 1) (k + 1)
  unfolding packed_from
  packed_taken h e =
      fuel_step (λ f. packed_from f m p k) N p h
      ∙ ap (λ (b : Bool). packed_from (N - (p + 1)) (cond b (drawn m p k) m) (p + 1) (cond b (k + 1) k)) e

  pub packed_free : p < N → taken m p ≡ false → packed_from (N - p) m p k ≡ packed_from (N - (p + 1)) m (p + 1) k
  unfolding packed_from
  packed_free h e =
      fuel_step (λ f. packed_from f m p k) N p h
      ∙ ap (λ (b : Bool). packed_from (N - (p + 1)) (cond b (drawn m p k) m) (p + 1) (cond b (k + 1) k)) e

pub ruleset packs = (packed_end, packed_taken, packed_free)

-- cards are told
module _ (N i p : ℕ) (m out : List ℕ) where
  pub tells_end : N ≤ i → tells (N - i) m p i out ≡ out
  unfolding tells
  tells_end h = fuel_end (λ f. tells f m p i out) N i h

  pub tells_on : i < N → tells (N - i) m p i out ≡ tells (N - (i + 1)) m (next_seat m p + 1) (i + 1) (set out i (cell m IDS (cell m SLOTS (next_seat m p))))
  unfolding tells
  tells_on h = fuel_step (λ f. tells f m p i out) N i h

-- from seats behind which the same one is next
pub tells_from : (f p q i : ℕ) (m out : List ℕ) → next_seat m p ≡ next_seat m q → tells f m p i out ≡ tells f m q i out
unfolding tells
tells_from zero p q i m out e = refl
tells_from (suc f) p q i m out e = ap (λ (s : ℕ). tells f m (s + 1) (i + 1) (set out i (cell m IDS (cell m SLOTS s)))) e

-- past the last taken seat
pub tells_past : (N i : ℕ) (m out : List ℕ) → i < N →
    tells (N - i) m SEATS_MOST i out ≡ tells (N - (i + 1)) m SEATS_MOST (i + 1) (set out i (cell m IDS (cell m SLOTS SEATS_MOST)))
tells_past N i m out h =
    let e = next_past m SEATS_MOST (omega arith) in
    let f = next_past m (SEATS_MOST + 1) (omega arith) in
    tells_on N i SEATS_MOST m out h ∙ rw e (tells_from (N - (i + 1)) (SEATS_MOST + 1) SEATS_MOST (i + 1) m _ (f ∙ sym e))

-- of no cards nothing is told
pub told_none : (m : List ℕ) (p n : ℕ) (out : List ℕ) → n ≡ 0 → out ≡ told m p n out
unfolding told tells
told_none m p n out e = rw e (elim (cases_Bool (tellable m p 0 out)) [ inl b ↦ rw b refl | inr b ↦ rw b refl ])

pub none_told : (m : List ℕ) (p n : ℕ) (out : List ℕ) → n ≡ 0 → 0 ≡ told_count m p n out
unfolding told_count
none_told m p n out e = rw e (elim (cases_Bool (tellable m p 0 out)) [ inl b ↦ rw b refl | inr b ↦ rw b refl ])

pub ruleset tellings = (tells_end, tells_on, tells_from, told_none, none_told)

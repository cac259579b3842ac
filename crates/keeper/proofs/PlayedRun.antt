-- A command that is played goes as it runs on the engine: the same memory after it, and refused for the reason by which the run ended.
use Rattle.std.proofs.Common.{◌≡◌, ℕ, zero, suc, ◌≤◌, true, cond, ◌&&◌, eqb, ltb, leb, List, [], length, take, drop, Ok, Err, Result, sym, refl, ap, ◌∙◌, subst, inl, inr, arith, length-append, length-drop}
use lib.ListN.{length-replicate}
use Rattle.std.proofs.lemmas.Bool.Decides.{nat_tests as tests}
use Rattle.std.proofs.lemmas.Bool.{cases_Bool}
use Rattle.order.specs.declared.board.Refusal.{Refusal}
use Rattle.order.specs.declared.board.Refusal.TheVariants.{Missing, Exists, Cycle, Full}
use Rattle.order.specs.Reordering.{number}
use Rattle.command.specs.Commands.{Told, after}
use Rattle.memory.specs.declared.column.TheConstants.{MEMORY}
use Rattle.keeper.specs.declared.layout.TheConstants.{OUTPUT, TOLD}
use Rattle.keeper.specs.declared.event.Event.{Event}
use Rattle.keeper.specs.declared.event.Event.TheVariants.{Said, Next}
use Rattle.keeper.specs.declared.event.Reason.{Reason}
use Rattle.keeper.specs.declared.event.Reason.TheVariants.{Unfit, Idle, Busy, Board as ByBoard}
use Rattle.keeper.specs.declared.event.Act.{Act}
use Rattle.keeper.specs.declared.event.Act.TheVariants.{Tells, Shows, Done}
use Rattle.keeper.specs.Engine.{action_of, Ran, one_act, runs, run_of}
use Rattle.keeper.specs.Promise.{Refused as RefusedSo}
use Rattle.keeper.specs.Sister.{DoneFirm}
use Rattle.keeper.specs.Sized.{small_event}
use Rattle.keeper.specs.Own.{answer, steps, own, step_fits}
use Rattle.keeper.specs.declared.event.Telling.TheVariants.{PassedOver}
use Rattle.keeper.specs.Answers.{as_told}
use Rattle.keeper.specs.Meaning.{Means}
use Rattle.keeper.specs.Playing.{fronted, stepped, Ending, by_act, plays}
use Rattle.keeper.specs.PlayLaws.{Plays, PlaysUnfit}
use Rattle.keeper.proofs.Ends.{Go}
use Rattle.keeper.proofs.Size.{guarded_small}
use Rattle.keeper.proofs.OwnSize.{sized_answer}
use Rattle.keeper.proofs.Saying.{number_fits}
use Rattle.keeper.proofs.Wholly.{kept, whole_own, whole_in_own}

-- done if the run was done, and refused by the board if the run was
abbrev pub SoEnded : ℕ → List ℕ → Result (Unit {0}) Reason → List ℕ → Type 0
SoEnded k m o m₁ = (k ≡ 0 → (o ≡ Ok tt) × (m₁ ≡ m)) × ((w : Refusal) → k ≡ number w → (o ≡ Err (ByBoard w)) × (m₁ ≡ m))

abbrev pub Agrees : Ran → Ending → Type 0
Agrees v p = SoEnded v.end v.memory p.answer.outcome p.memory

by_number : ℕ → Refusal
by_number n = cond (eqb n (number Missing)) Missing (cond (eqb n (number Exists)) Exists (cond (eqb n (number Cycle)) Cycle Full))

by_number_is : (w : Refusal) → by_number (number w) ≡ w
unfolding by_number
by_number_is Missing = refl
by_number_is Exists = refl
by_number_is Cycle = refl
by_number_is Full = refl

number_once : (v w : Refusal) → number v ≡ number w → v ≡ w
number_once v w e = sym (by_number_is v) ∙ ap by_number e ∙ by_number_is w

-- an end that is neither of them
pub neither : (k : ℕ) (m : List ℕ) (o : Result (Unit {0}) Reason) (m₁ : List ℕ) → (k ≡ 0 → ⊥) → ((w : Refusal) → k ≡ number w → ⊥) → SoEnded k m o m₁
neither k m o m₁ h g = ((λ z. absurd (h z)), λ w z. absurd (g w z))

pub high : (k : ℕ) → 1000 ≤ k → (w : Refusal) → k ≡ number w → ⊥
high k l w e = let f = number_fits w in omega arith

-- the end of a run that the board refused
ended_by : (v : Refusal) → cond (leb 1 (number v) && ltb (number v) 1000) (number v) 1001 ≡ number v
ended_by v = let f = number_fits v in grind (arith, tests)

board_agrees : (v : Refusal) (k : ℕ) (m : List ℕ) → k ≡ number v → SoEnded k m (Err (ByBoard v)) m
board_agrees v k m e =
    ((λ z. absurd (omega (arith, (number_fits v).0))), λ w z. (ap (λ (x : Refusal). Err (ByBoard x)) (number_once v w (sym e ∙ z)), refl))

module _ (go : Go) (on : List ℕ → List ℕ → ℕ → Ending) (ts : List Told) (ss : List (List ℕ)) (m out : List ℕ) (s : ℕ) where
  refused_agrees : (e : Reason) (ks : List ℕ) → Agrees (one_act go ts ss m (action_of (Err e) ks)) (by_act on m out s (Err e))
  unfolding one_act by_act
  refused_agrees Unfit ks = neither 1001 _ _ _ (λ z. omega arith) (high 1001 (omega arith))
  refused_agrees Idle ks = neither 1 _ _ _ (λ z. omega arith) (λ w z. omega (arith, (number_fits w).0))
  refused_agrees Busy ks = neither 2 _ _ _ (λ z. omega arith) (λ w z. omega (arith, (number_fits w).0))
  refused_agrees (ByBoard v) ks = board_agrees v _ m (ended_by v)

  pub act_agrees : ((ts₁ : List Told) (ss₁ : List (List ℕ)) (s₁ : ℕ) → Agrees (go m ts₁ ss₁) (on m out s₁)) →
      (a : Result Act Reason) (ks : List ℕ) → Agrees (one_act go ts ss m (action_of a ks)) (by_act on m out s a)
  unfolding one_act by_act
  act_agrees h (Ok (Tells p n)) ks = elim (cases_Bool (leb (length (take n ks)) TOLD)) [
    | inl t ↦ rw t (h _ ss s)
    | inr t ↦ rw t (neither 1001 _ _ _ (λ z. omega arith) (high 1001 (omega arith)))
  ]
  act_agrees h (Ok (Shows n)) ks = h ts _ n
  act_agrees h (Ok Done) ks = ((λ _. (refl, refl)), λ w z. absurd (omega (arith, (number_fits w).0)))
  act_agrees h (Err e) ks = refused_agrees e ks

stepped_fits : (m : List ℕ) (ev : Event) (out : List ℕ) → length m ≡ MEMORY → OUTPUT ≤ length out →
    stepped PassedOver m ev out
    ≡ record { act = (answer m ev).act; memory = (answer m ev).memory; out = fronted (as_told PassedOver (answer m ev)).numbers out }
unfolding stepped
stepped_fits m ev out l o = let f : step_fits m out ≡ true = grind (arith, tests) in rw f

pub long_fronted : (ks out : List ℕ) → OUTPUT ≤ length out → OUTPUT ≤ length (fronted ks out)
long_fronted ks out o = omega (arith, length-append ks (drop (length ks) out), length-drop (length ks) out)

run_agrees : (n : ℕ) (m : List ℕ) (ev : Event) (out : List ℕ) (ts : List Told) (ss : List (List ℕ)) (s : ℕ) → length m ≡ MEMORY → OUTPUT ≤ length out →
    small_event ev ≡ true → Agrees (runs n own m ev ts ss) (plays n m ev out s)
unfolding runs plays small_event
run_agrees zero m ev out ts ss s l o q = neither 1000 _ _ _ (λ z. omega arith) (high 1000 (omega arith))
run_agrees (suc n) m ev out ts ss s l o q =
    rw (guarded_small steps m ev q, stepped_fits m ev out l o)
    (act_agrees (λ m₁ ts₁ ss₁. runs n own m₁ Next ts₁ ss₁) (λ m₁ out₁ s₁. plays n m₁ Next out₁ s₁) ts ss (answer m ev).memory
    (fronted (as_told PassedOver (answer m ev)).numbers out) s
    (λ ts₁ ss₁ s₁. run_agrees n _ Next _ ts₁ ss₁ s₁ ((sized_answer m ev q).0.0 ∙ l) (long_fronted (as_told PassedOver (answer m ev)).numbers out o) refl)
    (answer m ev).act (answer m ev).numbers)

pub plays_right : Plays
unfolding DoneFirm RefusedSo small_event
plays_right m r c out l a M f sm o =
    let k = kept m r c (l ∙ sym (length-replicate {A = ℕ} MEMORY 0)) a M f sm in
    let g = run_agrees 3 m (Said c) out [] [] 0 l o sm in (
      (λ z.
          let d = k.0 z in
          let h = g.0 d.0.0 in
          let b = after r c (run_of 3 own m c).told in
          (h.0, (b, subst (λ (x : List ℕ). Means x b) (sym h.1) d.1, d.0.2, d.0.3, refl))),
      (λ w z.
          let d = k.1 w z in
          let h = g.1 w d.0.0 in
          (h.0, subst (λ (x : List ℕ). Means x r) (sym h.1) d.1)),
    )

pub plays_unfit : PlaysUnfit
unfolding plays by_act stepped
plays_unfit m c out f = rw f

pub ruleset playing = (plays_right, whole_own, whole_in_own)

-- Engines that refuse everything, or never come to an end, don't meet the promise: the first card can't come.
use Rattle.std.proofs.Common.{◌≡◌, ℕ, zero, suc, leb, ◌≢◌, List, [], ◌∷◌, length, refl, inl, inr, arith}
use Rattle.std.proofs.lemmas.Bool.{cases_Bool}
use Rattle.std.proofs.lemmas.Bool.Decides.{nat_tests as tests}
use Rattle.command.specs.declared.command.Command.TheVariants.{Comes}
use Rattle.order.specs.Lists.{every, any}
use Rattle.order.specs.Reordering.{link_refusal}
use Rattle.command.specs.Commands.{Told, refusal}
use Rattle.keeper.specs.declared.layout.TheConstants.{TOLD}
use Rattle.keeper.specs.declared.event.Event.{Event}
use Rattle.keeper.specs.declared.event.Event.TheVariants.{Said, Next}
use Rattle.keeper.specs.Engine.{Action, tells, shows, done, refused, Engine, one_act, runs}
use Rattle.keeper.specs.Promise.{Done, small_command, Right, Whole}
use Rattle.keeper.specs.Excluded.{Idle, IdleIsNot, Endless, EndlessIsNot}
use Rattle.keeper.proofs.Ends.{Go}

-- no run is ever done
abbrev Never : Engine → Type 0
Never e = (n : ℕ) (m : List ℕ) (ev : Event) (ts : List Told) (ss : List (List ℕ)) → (runs n e m ev ts ss).end ≡ 0 → ⊥

never_whole : (e : Engine) → Never e → Whole e → ⊥
unfolding Whole Right Done every any refusal link_refusal small_command
never_whole e x w = let p = w.1 (Comes 1 ∷ []) refl in x p.0 e.start (Said (Comes 1)) [] [] (p.1.0 refl).0.0

idle_never : (e : Engine) → Idle e → Never e
unfolding runs one_act
idle_never e i zero m ev ts ss h = omega arith
idle_never e i (suc n) m ev ts ss h = let q = (i m ev).1 in let g = rw q at h in grind (arith, tests)

pub idle_is_not : IdleIsNot
idle_is_not e i = never_whole e (idle_never e i)

act_never : (go : Go) → ((m : List ℕ) (ts : List Told) (ss : List (List ℕ)) → (go m ts ss).end ≡ 0 → ⊥) →
    (ts : List Told) (ss : List (List ℕ)) (m : List ℕ) (a : Action) → a ≢ done → ((k : ℕ) → a ≢ refused k) → (one_act go ts ss m a).end ≡ 0 → ⊥
unfolding one_act
act_never go x ts ss m (tells i ks) d f h = elim (cases_Bool (leb (length ks) TOLD)) [
  | inl t ↦ x m _ ss (rw t at h)
  | inr t ↦ let g = rw t at h in omega arith
]
act_never go x ts ss m (shows ks) d f h = x m ts _ h
act_never go x ts ss m done d f h = d refl
act_never go x ts ss m (refused k) d f h = f k refl

endless_never : (e : Engine) → Endless e → Never e
unfolding runs
endless_never e x zero m ev ts ss h = omega arith
endless_never e x (suc n) m ev ts ss h =
    act_never (λ m₁ ts₁ ss₁. runs n e m₁ Next ts₁ ss₁) (λ m₁ ts₁ ss₁ g. endless_never e x n m₁ Next ts₁ ss₁ g) ts ss (e.step m ev).memory
    (e.step m ev).action (x m ev).0 (x m ev).1 h

pub endless_is_not : EndlessIsNot
endless_is_not e x = never_whole e (endless_never e x)

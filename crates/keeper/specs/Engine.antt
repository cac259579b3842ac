-- What an engine is, and how a command runs on it. These are definitions: nothing is assumed.
--   reason_number e   the number by which a reason is told
--   Action            what an engine answers: it tells cards from a place on, it shows numbers, the command is done, or it is refused by a number
--   action_of a out   what an answer of the code means, an act or a reason, together with the numbers in the lent output
--   Step              the memory after one step, and the answer
--   Engine            the memory at the start, and the step
--   Ran               how a command went: the memory then, all that was told, all that was shown, and how it ended
--                     (0 done, a refusal's number, 1000 still at it, 1001 a fault)
--   one_act           what comes of one answer: go on, or be at the end; to tell more than 4,096 cards at once is a fault, and so is a refusal by 0
--   runs n            an event and what comes of it, in at most n steps
--   run_of n e m c    how the command c goes on the engine e from the memory m on, in at most n steps
use Rattle.std.specs.Prelude.{ℕ, zero, suc, cond, ◌&&◌, List, [], ◌∷◌, ◌++◌, length, take, Result, Ok, Err, nat_le, nat_lt}
use Rattle.command.specs.declared.command.Command.{Command}
use Rattle.order.specs.Reordering.{number}
use Rattle.command.specs.Commands.{Told}
use Rattle.keeper.specs.declared.layout.TheConstants.{TOLD}
use Rattle.keeper.specs.declared.event.Event.{Event}
use Rattle.keeper.specs.declared.event.Event.TheVariants.{Said, Next}
use Rattle.keeper.specs.declared.event.Reason.{Reason}
use Rattle.keeper.specs.declared.event.Reason.TheVariants.{Unfit, Idle, Busy, Board}
use Rattle.keeper.specs.declared.event.Act.{Act}
use Rattle.keeper.specs.declared.event.Act.TheVariants.{Tells, Shows, Done}

abbrev pub reason_number : Reason → ℕ
reason_number Unfit = 0
reason_number Idle = 1
reason_number Busy = 2
reason_number (Board e) = number e

pub data Action : Type 0 where
  tells : ℕ → List ℕ → Action
  shows : List ℕ → Action
  done : Action
  refused : ℕ → Action

abbrev pub action_of : Result Act Reason → List ℕ → Action
action_of (Ok (Tells p n)) out = tells p (take n out)
action_of (Ok (Shows n)) out = shows (take n out)
action_of (Ok Done) out = done
action_of (Err e) out = refused (reason_number e)

pub record Step : Type 0 where
  pub memory : List ℕ
  pub action : Action

pub record Engine : Type 0 where
  pub start : List ℕ
  pub step : List ℕ → Event → Step

pub record Ran : Type 0 where
  pub memory : List ℕ
  pub told : List Told
  pub showed : List (List ℕ)
  pub end : ℕ

abbrev pub ran : List ℕ → List Told → List (List ℕ) → ℕ → Ran
ran m ts ss e = record { memory = m; told = ts; showed = ss; end = e }

unfoldable pub one_act : (List ℕ → List Told → List (List ℕ) → Ran) → List Told → List (List ℕ) → List ℕ → Action → Ran
one_act go ts ss m (tells i ks) = cond (nat_le (length ks) TOLD) (go m (ts ++ record { at = i; cards = ks } ∷ []) ss) (ran m ts ss 1001)
one_act go ts ss m (shows ks) = go m ts (ss ++ ks ∷ [])
one_act go ts ss m done = ran m ts ss 0
one_act go ts ss m (refused k) = ran m ts ss (cond (nat_le 1 k && nat_lt k 1000) k 1001)

unfoldable pub runs : ℕ → Engine → List ℕ → Event → List Told → List (List ℕ) → Ran
runs zero e m ev ts ss = ran m ts ss 1000
runs (suc n) e m ev ts ss = one_act (λ m₁ ts₁ ss₁. runs n e m₁ Next ts₁ ss₁) ts ss (e.step m ev).memory (e.step m ev).action

abbrev pub run_of : ℕ → Engine → List ℕ → Command → Ran
run_of n e m c = runs n e m (Said c) [] []

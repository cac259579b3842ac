-- Sayings, and how they run on an engine. These are definitions: nothing is assumed. `Step`, `Ran` and `one_act` are words of the keeper.
--   Saying            a command of the keeper, several links at once, or the row made anew from the order of the cards' numbers
--   Heard             a saying, or to go on with the last one
--   heard ev ls       what an Event of the code means, together with the links of the lent batch
--   Engine            the memory at the start, and the step
--   runs n            what is heard and what comes of it, in at most n steps
--   run_of n e m s    how the saying s goes on the engine e from the memory m on, in at most n steps
use Rattle.std.specs.Prelude.{ℕ, zero, suc, List, []}
use Rattle.order.specs.declared.board.Link.{Link}
use Rattle.command.specs.declared.command.Command.{Command}
use Rattle.command.specs.Commands.{Told}
use Rattle.keeper.specs.Engine.{Step, Ran, ran, one_act}
use Rattle.batch.specs.declared.event.Event.{Event}
use Rattle.batch.specs.declared.event.Event.TheVariants.{Said, Several, Anew, Next}

pub data Saying : Type 0 where
  one : Command → Saying
  several : List Link → Saying
  anew : Saying

pub data Heard : Type 0 where
  said : Saying → Heard
  next : Heard

abbrev pub heard : Event → List Link → Heard
heard (Said c) ls = said (one c)
heard Several ls = said (several ls)
heard Anew ls = said anew
heard Next ls = next

pub record Engine : Type 0 where
  pub start : List ℕ
  pub step : List ℕ → Heard → Step

unfoldable pub runs : ℕ → Engine → List ℕ → Heard → List Told → List (List ℕ) → Ran
runs zero e m h ts ss = ran m ts ss 1000
runs (suc n) e m h ts ss = one_act (λ m₁ ts₁ ss₁. runs n e m₁ next ts₁ ss₁) ts ss (e.step m h).memory (e.step m h).action

abbrev pub run_of : ℕ → Engine → List ℕ → Saying → Ran
run_of n e m s = runs n e m (said s) [] []

-- A saying played to its end, as the code goes. `fronted`, `Stepped`, `Ending` and `by_act` are words of the keeper.
--
--   stepped w m h out  a step on memory and output: the engine's, with its numbers at the front of the output, but for those told if they are passed over;
--                      where the memory or the output doesn't fit, refused, and nothing is changed
--   plays n m h out s  what is heard played to its end, in at most n steps; s numbers are shown so far
--   played m h out     in at most three
use Rattle.std.specs.Prelude.{ℕ, zero, suc, cond, List, Err}
use Rattle.keeper.specs.declared.event.Reason.TheVariants.{Unfit, Busy}
use Rattle.keeper.specs.declared.event.Telling.{Telling}
use Rattle.keeper.specs.declared.event.Telling.TheVariants.{PassedOver}
use Rattle.keeper.specs.Answers.{as_told}
use Rattle.keeper.specs.Own.{step_fits}
use Rattle.keeper.specs.Playing.{fronted, Stepped, Ending, by_act}
use Rattle.batch.specs.Engine.{Heard, next}
use Rattle.batch.specs.Own.{answer}

unfoldable pub stepped : Telling → List ℕ → Heard → List ℕ → Stepped
stepped w m h out =
    cond (step_fits m out) (record { act = (answer m h).act; memory = (answer m h).memory; out = fronted (as_told w (answer m h)).numbers out })
    (record { act = Err Unfit; memory = m; out = out })

unfoldable pub plays : ℕ → List ℕ → Heard → List ℕ → ℕ → Ending
plays zero m h out s = record { answer = record { shown = s; outcome = Err Busy }; memory = m; out = out }
plays (suc n) m h out s =
    by_act (λ m₁ out₁ s₁. plays n m₁ next out₁ s₁) (stepped PassedOver m h out).memory (stepped PassedOver m h out).out s
    (stepped PassedOver m h out).act

abbrev pub played : List ℕ → Heard → List ℕ → Ending
played m h out = plays 3 m h out 0

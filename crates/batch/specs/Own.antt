-- The engine of this crate, as the code goes.
--
--   whole_row m        the span of the whole row
--   said_anew m        the row made anew, when nothing is pending
--   when_idle m a      the answer a, if nothing is pending; else the saying is refused
--   answer m h         a step
--   own                the engine: zeros at the start, and the steps of `answer`; numbers that don't fit 64 bits are refused
--   StepSays           what the function `step` promises: it takes the engine's step, and tells its answer by the act and the front of the output; where
--                      the memory or the output doesn't fit, nothing is changed
use Rattle.std.specs.Prelude.{◌≡◌, ℕ, Bool, true, false, cond, List, replicate, Err, Result, ◌==◌}
use Rattle.memory.specs.declared.column.TheConstants.{MEMORY}
use Rattle.row.specs.Meaning.{count}
use Rattle.keeper.specs.declared.event.Event.TheVariants.{Said, Next}
use Rattle.keeper.specs.declared.event.Reason.{Reason}
use Rattle.keeper.specs.declared.event.Reason.TheVariants.{Unfit, Busy}
use Rattle.keeper.specs.declared.event.Act.{Act}
use Rattle.keeper.specs.Engine.{reason_number, refused, action_of, Step}
use Rattle.keeper.specs.Answers.{Answer, quiet, ends, pending}
use Rattle.keeper.specs.Own.{step_fits, answer as keeper_answer}
use Rattle.keeper.specs.Playing.{fronted}
use Rattle.batch.specs.declared.seating.Span.{Span}
use Rattle.batch.specs.Saying.{told_span, said_several}
use Rattle.batch.specs.Tidying.{tidied}
use Rattle.batch.specs.Engine.{one, several, anew, Heard, said, next, Engine}
use Rattle.batch.specs.Promise.{small_heard}

abbrev pub whole_row : List ℕ → Span
whole_row m = record { low = 0; high = count m }

unfoldable pub said_anew : List ℕ → Answer
said_anew m =
    cond (tidied m).all (told_span (tidied m).memory (whole_row (tidied m).memory)) (quiet (ends (Err Unfit) (tidied m).memory))

unfoldable pub when_idle : List ℕ → Answer → Answer
when_idle m a = cond (pending m == 0) a (quiet (ends (Err Busy) m))

unfoldable pub answer : List ℕ → Heard → Answer
answer m (said (one c)) = keeper_answer m (Said c)
answer m (said (several ls)) = when_idle m (said_several m ls)
answer m (said anew) = when_idle m (said_anew m)
answer m next = keeper_answer m Next

abbrev pub steps : List ℕ → Heard → Step
steps m h = record { memory = (answer m h).memory; action = action_of (answer m h).act (answer m h).numbers }

unfoldable pub guarded : List ℕ → Heard → Step
guarded m h = cond (small_heard h) (steps m h) (record { memory = m; action = refused (reason_number Unfit) })

abbrev pub own : Engine
own = record { start = replicate MEMORY 0; step = guarded }

-- the engine's step, told: the act with the numbers is its action, and the numbers stand at the front of the output
pub record Taken (m : List ℕ) (h : Heard) (out₀ : List ℕ) (r : Result Act Reason) (m₁ out₁ : List ℕ) : Type 0 where
  pub act : r ≡ (answer m h).act
  pub after : m₁ ≡ (answer m h).memory
  pub out : out₁ ≡ fronted (answer m h).numbers out₀
  pub own_step : small_heard h ≡ true → own.step m h ≡ record { memory = m₁; action = action_of r (answer m h).numbers }

-- nothing changed
pub record Untaken (m out₀ : List ℕ) (r : Result Act Reason) (m₁ out₁ : List ℕ) : Type 0 where
  pub act : r ≡ Err Unfit
  pub after : m₁ ≡ m
  pub out : out₁ ≡ out₀

unfoldable pub StepBy : Bool → List ℕ → Heard → List ℕ → Result Act Reason → List ℕ → List ℕ → Type 0
StepBy true m h out r m₁ out₁ = Taken m h out r m₁ out₁
StepBy false m h out r m₁ out₁ = Untaken m out r m₁ out₁

abbrev pub StepSays : List ℕ → Heard → List ℕ → Result Act Reason → List ℕ → List ℕ → Type 0
StepSays m h out r m₁ out₁ = StepBy (step_fits m out) m h out r m₁ out₁

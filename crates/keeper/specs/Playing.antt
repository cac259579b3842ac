-- A command, played to its end, as the code goes.
--
--   fronted ks out      the output with these numbers at its front
--   Stepped             a step's answer, the memory and the output after it
--   stepped w m ev out  a step on memory and output: the engine's, with its numbers at the front of the output, but for those told if they are passed over;
--                       where the memory or the output doesn't fit, refused, and nothing is changed
--   StepsTo s           what came of it is the step s
--   Ending              how a command went: what is answered of it, the memory and the output after it
--   Went e              what came of it is the ending e
--   by_act go           what comes of one answer: go on, or be at the end; what is told is passed over, and of what is shown the count is noted
--   plays n             an event and what comes of it, in at most n steps; if they aren't enough, it is refused
--   shown_then s a      how many numbers it has shown after the answer a, if it had shown s before; none, if a is its end
--   ended_by s a        how it ended, if it had shown s numbers before its last answer a
--   played_on n         an answer and what comes of it, in at most n more steps
--   played m c out      the command c, in at most three steps
--   row_read m out      `out` with the row at its front, as the memory has it; read_count: how many cards that are; none, where the memory doesn't fit
use Rattle.std.specs.Prelude.{◌≡◌, ℕ, zero, suc, cond, List, ◌++◌, length, drop, Some, None, Option, Ok, Err, Result, ◌==◌}
use Rattle.command.specs.declared.command.Command.{Command}
use Rattle.keeper.specs.declared.event.Event.{Event}
use Rattle.keeper.specs.declared.event.Event.TheVariants.{Said, Next}
use Rattle.keeper.specs.declared.event.Reason.{Reason}
use Rattle.keeper.specs.declared.event.Reason.TheVariants.{Unfit, Busy}
use Rattle.keeper.specs.declared.event.Act.{Act}
use Rattle.keeper.specs.declared.event.Act.TheVariants.{Tells, Shows, Done}
use Rattle.keeper.specs.declared.playing.Played.{Played}
use Rattle.keeper.specs.declared.event.Telling.{Telling}
use Rattle.keeper.specs.declared.event.Telling.TheVariants.{PassedOver}
use Rattle.keeper.specs.Answers.{as_told}
use Rattle.keeper.specs.Own.{answer, step_fits}
use Rattle.memory.specs.declared.column.TheConstants.{MEMORY}
use Rattle.row.specs.Meaning.{count}
use Rattle.row.specs.Telling.{told, told_count}

abbrev pub fronted : List ℕ → List ℕ → List ℕ
fronted ks out = ks ++ drop (length ks) out

pub record Stepped : Type 0 where
  pub act : Result Act Reason
  pub memory : List ℕ
  pub out : List ℕ

unfoldable pub stepped : Telling → List ℕ → Event → List ℕ → Stepped
stepped w m ev out =
    cond (step_fits m out)
    (record { act = (answer m ev).act; memory = (answer m ev).memory; out = fronted (as_told w (answer m ev)).numbers out })
    (record { act = Err Unfit; memory = m; out = out })

pub record StepsTo (s : Stepped) (r : Result Act Reason) (m₁ out₁ : List ℕ) : Type 0 where
  pub act : r ≡ s.act
  pub after : m₁ ≡ s.memory
  pub out : out₁ ≡ s.out

pub record Ending : Type 0 where
  pub answer : Played
  pub memory : List ℕ
  pub out : List ℕ

pub record Went (e : Ending) (r : Played) (m₁ out₁ : List ℕ) : Type 0 where
  pub answer : r ≡ e.answer
  pub after : m₁ ≡ e.memory
  pub out : out₁ ≡ e.out

unfoldable pub by_act : (List ℕ → List ℕ → ℕ → Ending) → List ℕ → List ℕ → ℕ → Result Act Reason → Ending
by_act go m out s (Ok (Tells p n)) = go m out s
by_act go m out s (Ok (Shows n)) = go m out n
by_act go m out s (Ok Done) = record { answer = record { shown = s; outcome = Ok tt }; memory = m; out = out }
by_act go m out s (Err e) = record { answer = record { shown = s; outcome = Err e }; memory = m; out = out }

unfoldable pub plays : ℕ → List ℕ → Event → List ℕ → ℕ → Ending
plays zero m ev out s = record { answer = record { shown = s; outcome = Err Busy }; memory = m; out = out }
plays (suc n) m ev out s =
    by_act (λ m₁ out₁ s₁. plays n m₁ Next out₁ s₁) (stepped PassedOver m ev out).memory (stepped PassedOver m ev out).out s
    (stepped PassedOver m ev out).act

abbrev pub shown_then : ℕ → Result Act Reason → Option ℕ
shown_then s (Ok (Tells p n)) = Some s
shown_then s (Ok (Shows n)) = Some n
shown_then s (Ok Done) = None
shown_then s (Err e) = None

abbrev pub ended_by : ℕ → Result Act Reason → Played
ended_by s (Ok (Tells p n)) = record { shown = s; outcome = Err Busy }
ended_by s (Ok (Shows n)) = record { shown = n; outcome = Err Busy }
ended_by s (Ok Done) = record { shown = s; outcome = Ok tt }
ended_by s (Err e) = record { shown = s; outcome = Err e }

abbrev pub played_on : ℕ → List ℕ → Result Act Reason → List ℕ → ℕ → Ending
played_on n m a out s = by_act (λ m₁ out₁ s₁. plays n m₁ Next out₁ s₁) m out s a

abbrev pub played : List ℕ → Command → List ℕ → Ending
played m c out = plays 3 m (Said c) out 0

unfoldable pub row_read : List ℕ → List ℕ → List ℕ
row_read m out = cond (length m == MEMORY) (told m 0 (count m) out) out

unfoldable pub read_count : List ℕ → List ℕ → ℕ
read_count m out = cond (length m == MEMORY) (told_count m 0 (count m) out) 0

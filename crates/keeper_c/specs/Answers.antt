-- What the functions for C answer.
--
--   ended o s      the answer of what ended by the outcome o and has shown s numbers
--   CameTo e       what came of it is the ending e, as C is told it
use Rattle.std.specs.Prelude.{◌≡◌, ℕ, List, Ok, Err, Result}
use Rattle.keeper.specs.declared.event.Reason.{Reason}
use Rattle.keeper.specs.Engine.{reason_number}
use Rattle.keeper.specs.Playing.{Ending}
use Rattle.keeper_c.specs.declared.answer.KeeperAnswer.{KeeperAnswer}

abbrev pub ended : Result (Unit {0}) Reason → ℕ → KeeperAnswer
ended (Ok x) s = record { done = 1; reason = 0; shown = s }
ended (Err e) s = record { done = 0; reason = reason_number e; shown = s }

pub record CameTo (e : Ending) (r : KeeperAnswer) (m₁ out₁ : List ℕ) : Type 0 where
  pub answer : r ≡ ended e.answer.outcome e.answer.shown
  pub after : m₁ ≡ e.memory
  pub out : out₁ ≡ e.out

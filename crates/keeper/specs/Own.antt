-- The keeper's engine, as the code goes.
--
--   ended o m        how a command ends that an operation has done or refused
--   left m k         a card goes, and its links with it
--   shown_places     the places of two cards, shown
--   said m c         a command is said, when nothing is pending
--   finished m       the end of the last command
--   went_on m        the keeper goes on with the last command: more of the row, or its end
--   answer m ev      a step: a command said before the last one's end is refused
--   own              the engine: 524,288 zeros at the start, and the steps of `answer`; numbers of an event that don't fit 64 bits are refused
--   step_fits        the memory has the engine's length, and the output room for 8,192 numbers
--   StepSays         what the function `step` promises: it takes the engine's step, and tells its answer by the act and the front of the output; where
--                    the memory or the output doesn't fit, nothing is changed
use Rattle.std.specs.Prelude.{◌≡◌, ℕ, Bool, true, false, cond, ◌&&◌, List, [], ◌∷◌, ◌++◌, length, drop, replicate, Result, Ok, Err, ◌==◌, nat_le}
use Rattle.command.specs.declared.command.Command.{Command}
use Rattle.command.specs.declared.command.Command.TheVariants.{Comes, Goes, Link as Links, Unlink as Unlinks, Places}
use Rattle.order.specs.declared.board.Refusal.{Refusal}
use Rattle.order.specs.declared.board.Refusal.TheVariants.{Missing, Cycle}
use Rattle.memory.specs.declared.column.TheConstants.{MEMORY}
use Rattle.memory.specs.Columns.{cell}
use Rattle.memory.specs.Options.{given}
use Rattle.row.specs.Moves.{came, gone, place_found}
use Rattle.links.specs.Entries.{removed_all}
use Rattle.keeper.specs.declared.layout.TheConstants.{OUTPUT, MORE_FROM, MORE_TO}
use Rattle.keeper.specs.declared.event.Event.{Event}
use Rattle.keeper.specs.declared.event.Event.TheVariants.{Said, Next}
use Rattle.keeper.specs.declared.event.Reason.{Reason}
use Rattle.keeper.specs.declared.event.Reason.TheVariants.{Unfit, Idle, Busy, Board}
use Rattle.keeper.specs.declared.event.Act.{Act}
use Rattle.keeper.specs.declared.event.Act.TheVariants.{Shows, Done}
use Rattle.keeper.specs.Engine.{action_of, Step, Engine}
use Rattle.keeper.specs.Sized.{small_event, guarded}
use Rattle.keeper.specs.declared.pending.Pending.TheVariants.{Nothing, Done as DonePending}
use Rattle.keeper.specs.Answers.{Answer, Ended, quiet, ends, refuses, pending, noted, by_result}
use Rattle.keeper.specs.Telling.{told_part}
use Rattle.keeper.specs.Linking.{linked, unlinked}

abbrev pub ended : Result ℕ Refusal → List ℕ → Ended
ended o m = by_result o (λ s. ends (Ok Done) m) (λ e. refuses m e)

abbrev pub left : List ℕ → ℕ → Ended
left m k = by_result (gone m k).answer (λ s. ends (Ok Done) (removed_all (gone m k).memory s)) (λ e. refuses (gone m k).memory e)

abbrev pub shown_places : List ℕ → ℕ → ℕ → Answer
shown_places m a b =
    given (place_found m a) (quiet (refuses m Missing)) (λ p.
    given (place_found m b) (quiet (refuses m Missing)) (λ q.
    record { act = Ok (Shows 2); memory = noted m DonePending; numbers = p ∷ q ∷ [] }))

unfoldable pub said : List ℕ → Command → Answer
said m (Comes k) = quiet (ended (came m k).answer (came m k).memory)
said m (Goes k) = quiet (left m k)
said m (Links l) = linked m l
said m (Unlinks l) = quiet (unlinked m l)
said m (Places a b) = shown_places m a b

abbrev pub finished : List ℕ → Ended
finished m =
    ends (cond (pending m == 1) (Ok Done) (cond (pending m == 2) (Err (Board Cycle)) (Err Idle))) (noted m Nothing)

unfoldable pub went_on : List ℕ → Answer
went_on m = cond (pending m == 3) (told_part m (cell m MORE_FROM 0) (cell m MORE_TO 0)) (quiet (finished m))

unfoldable pub answer : List ℕ → Event → Answer
answer m (Said c) = cond (pending m == 0) (said m c) (quiet (ends (Err Busy) m))
answer m Next = went_on m

abbrev pub steps : List ℕ → Event → Step
steps m ev = record { memory = (answer m ev).memory; action = action_of (answer m ev).act (answer m ev).numbers }

abbrev pub own : Engine
own = record { start = replicate MEMORY 0; step = guarded steps }

abbrev pub step_fits : List ℕ → List ℕ → Bool
step_fits m out = length m == MEMORY && nat_le OUTPUT (length out)

-- the engine's step, told: the act with the numbers is its action, and the numbers stand at the front of the output
pub record Taken (m : List ℕ) (ev : Event) (out₀ : List ℕ) (r : Result Act Reason) (m₁ out₁ : List ℕ) : Type 0 where
  pub act : r ≡ (answer m ev).act
  pub after : m₁ ≡ (answer m ev).memory
  pub out : out₁ ≡ (answer m ev).numbers ++ drop (length (answer m ev).numbers) out₀
  pub own_step : small_event ev ≡ true → own.step m ev ≡ record { memory = m₁; action = action_of r (answer m ev).numbers }

-- nothing changed
pub record Untaken (m out₀ : List ℕ) (r : Result Act Reason) (m₁ out₁ : List ℕ) : Type 0 where
  pub act : r ≡ Err Unfit
  pub after : m₁ ≡ m
  pub out : out₁ ≡ out₀

unfoldable pub StepBy : Bool → List ℕ → Event → List ℕ → Result Act Reason → List ℕ → List ℕ → Type 0
StepBy true m ev out r m₁ out₁ = Taken m ev out r m₁ out₁
StepBy false m ev out r m₁ out₁ = Untaken m out r m₁ out₁

abbrev pub StepSays : List ℕ → Event → List ℕ → Result Act Reason → List ℕ → List ℕ → Type 0
StepSays m ev out r m₁ out₁ = StepBy (step_fits m out) m ev out r m₁ out₁

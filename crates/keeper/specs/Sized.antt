-- Numbers of 64 bits, and what carries them. These are definitions: nothing is assumed.
--   small_event ev   the numbers in the event are below 2^64
--   guarded f        the step f for small events; what isn't small is refused, and nothing is changed
--   KeepsSize m s    the step leaves the memory as long as it was, and its numbers below 2^64 if they were
--   fits a           the answer fits what carries it: a place in the row and at most 4,096 cards, or at most 8,192 numbers, each below 2^64
--   Fits e           each answer of the engine fits, whatever stands in its memory
use Rattle.std.specs.Prelude.{◌≡◌, ℕ, Bool, true, cond, ◌&&◌, List, length, nat_le, nat_lt}
use Rattle.order.specs.declared.board.TheConstants.{CARDS}
use Rattle.keeper.specs.declared.layout.TheConstants.{OUTPUT, TOLD}
use Rattle.keeper.specs.declared.event.Event.{Event}
use Rattle.keeper.specs.declared.event.Event.TheVariants.{Said, Next}
use Rattle.keeper.specs.declared.event.Reason.TheVariants.{Unfit}
use Rattle.keeper.specs.Engine.{reason_number, Action, tells, shows, done, refused, Step, Engine}
use Rattle.keeper.specs.Promise.{all_small, small_command}

unfoldable pub small_event : Event → Bool
small_event (Said c) = small_command c
small_event Next = true

unfoldable pub guarded : (List ℕ → Event → Step) → List ℕ → Event → Step
guarded f m ev = cond (small_event ev) (f m ev) (record { memory = m; action = refused (reason_number Unfit) })

abbrev pub KeepsSize : List ℕ → List ℕ → Type 0
KeepsSize m m₁ = (length m₁ ≡ length m) × (all_small m ≡ true → all_small m₁ ≡ true)

unfoldable pub fits : Action → Bool
fits (tells i ks) = nat_le i CARDS && (nat_le (length ks) TOLD && all_small ks)
fits (shows ks) = nat_le (length ks) OUTPUT && all_small ks
fits done = true
fits (refused k) = nat_lt k 1000

abbrev pub Fits : Engine → Type 0
Fits e = (m : List ℕ) (ev : Event) → all_small m ≡ true → fits (e.step m ev).action ≡ true

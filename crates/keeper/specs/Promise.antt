-- What is promised of an engine. These are definitions: nothing is assumed.
--
-- Commands are said to an engine, which keeps a memory of numbers. It answers each command step by step, until the command is done or refused. What it has
-- to answer is said by a board, cards in a row with links, of which the engine knows nothing: the board begins empty, and each command changes it. The
-- promise is that, whatever the commands are, each is done if the board lets it be done, and refused for the right reason if not.
-- `Board`, `refusal`, `after`, `may_be`, `keeps` and `goes_round` are words of the crates `order` and `command`.
--   empty              the board at the start
--   all_small ms       each of the numbers is below 2^64
--   Steady e           the engine's memory is as asked
--   shown_for r c      what has to be shown if the command is done
--   Done r c v         the command was done, and rightly
--   RoundShown r c ss what was shown is a way by which the link would go round
--   Refused r c w v    the command was refused for the reason w, and rightly
--   small_command c    the numbers in the command are below 2^64
--   Right e m r cs     from the memory m and the board r on, each of the commands is done or refused rightly
--   Whole e            the promise
use Rattle.std.specs.Prelude.{◌≡◌, ℕ, zero, ◌≤◌, Bool, true, ◌&&◌, ltb, ◌≢◌, List, [], ◌∷◌, length, Some, None, nat_eq, nat_lt}
use Rattle.command.specs.declared.command.Command.{Command}
use Rattle.command.specs.declared.command.Command.TheVariants.{Comes, Goes, Link as Links, Unlink as Unlinks, Places}
use Rattle.memory.specs.declared.column.TheConstants.{MEMORY}
use Rattle.order.specs.declared.board.Refusal.{Refusal}
use Rattle.order.specs.declared.board.Refusal.TheVariants.{Cycle}
use Rattle.order.specs.Lists.{every, place}
use Rattle.order.specs.Board.{Board, keeps}
use Rattle.order.specs.Reordering.{number, goes_round}
use Rattle.command.specs.Commands.{refusal, after, may_be}
use Rattle.keeper.specs.declared.event.Event.{Event}
use Rattle.keeper.specs.Engine.{Engine, Ran, run_of}

abbrev pub empty : Board
empty = record { row = []; links = [] }

unfoldable pub all_small : List ℕ → Bool
all_small ms = every (λ m. ltb m 18446744073709551616) ms

-- The memory has at most 524,288 numbers, all 0 at the start. No step makes it longer or shorter, whatever stands in it, nor leaves in it a number that
-- does not fit 64 bits, if none was there.
unfoldable pub Steady : Engine → Type 0
Steady e =
    (length e.start ≤ MEMORY) × (every (λ m. nat_eq m 0) e.start ≡ true)
    × ((m : List ℕ) (ev : Event) → (length (e.step m ev).memory ≡ length m) × (all_small m ≡ true → all_small (e.step m ev).memory ≡ true))

-- If two places are asked for, they are shown; nothing else is.
unfoldable pub shown_for : Board → Command → List (List ℕ)
shown_for r (Comes k) = []
shown_for r (Goes k) = []
shown_for r (Links l) = []
shown_for r (Unlinks l) = []
shown_for r (Places a b) = (place r.row a ∷ place r.row b ∷ []) ∷ []

-- Done: the run came to its end, showed what it had to, and told a row that may be so and that keeps all links, the new one too.
unfoldable pub Done : Board → Command → Ran → Type 0
Done r c v =
    (v.end ≡ 0) × (v.showed ≡ shown_for r c) × (may_be r c (after r c v.told).row ≡ true)
    × (keeps (after r c v.told).row (after r c v.told).links ≡ true)

-- Of a link that would go round, one way is shown by which it would.
unfoldable pub RoundShown : Board → Command → List (List ℕ) → Type 0
RoundShown r (Comes k) ss = ss ≡ []
RoundShown r (Goes k) ss = ss ≡ []
RoundShown r (Links l) ss = (way : List ℕ) × (ss ≡ way ∷ []) × (goes_round r l.from l.to way ≡ true)
RoundShown r (Unlinks l) ss = ss ≡ []
RoundShown r (Places a b) ss = ss ≡ []

-- Refused: the run ended with the reason's number, told nothing, and showed nothing but a way that would go round.
unfoldable pub Refused : Board → Command → Refusal → Ran → Type 0
Refused r c why v =
    (v.end ≡ number why) × (v.told ≡ []) × (why ≡ Cycle → RoundShown r c v.showed) × (why ≢ Cycle → v.showed ≡ [])

unfoldable pub small_command : Command → Bool
small_command (Comes k) = nat_lt k 18446744073709551616
small_command (Goes k) = nat_lt k 18446744073709551616
small_command (Links l) = nat_lt l.from 18446744073709551616 && nat_lt l.to 18446744073709551616
small_command (Unlinks l) = nat_lt l.from 18446744073709551616 && nat_lt l.to 18446744073709551616
small_command (Places a b) = nat_lt a 18446744073709551616 && nat_lt b 18446744073709551616

-- Commands, one after the other; of none nothing is asked. A command is at its end after some number of steps. If the board doesn't refuse it, it is done,
-- and the others go right from the memory and the board that it leaves. If the board refuses it, it is refused for that reason, and the others go right
-- from the memory that it leaves and the same board.
unfoldable pub Right : Engine → List ℕ → Board → List Command → Type 0
Right e m r [] = zero ≡ zero
Right e m r (c ∷ cs) =
    (n : ℕ)
    × ((refusal r c ≡ None → Done r c (run_of n e m c) × Right e (run_of n e m c).memory (after r c (run_of n e m c).told) cs)
    × ((why : Refusal) → refusal r c ≡ Some why → Refused r c why (run_of n e m c) × Right e (run_of n e m c).memory r cs))

-- THE PROMISE: from the start and the empty board on, whatever the commands are, they go right.
unfoldable pub Whole : Engine → Type 0
Whole e = Steady e × ((cs : List Command) → every small_command cs ≡ true → Right e e.start empty cs)

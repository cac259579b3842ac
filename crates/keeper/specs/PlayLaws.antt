-- What playing a command does, in terms of the board.
--
--   DoneSo r c m     the memory means a board on which the command is done: the row is as it has to be, all links are kept, and the links are those that
--                    the command leaves
--   Plays            from a memory that means a board on, a command that the board lets be done is done, and the memory then means the board after it; a
--                    command that the board refuses is refused for the board's reason, and the memory means the same board
--   PlaysUnfit       where the memory or the output doesn't fit, the command is refused, and nothing is changed
--   Reads m out n out₁  n is answered, and out₁ is what is written, of the memory m to the output `out`: if m means a board, and there is room, how many
--                    cards the board has, and its row at the output's front
--   ReadsRow         the row that is told, and the row that is read, from a memory that means a board is the board's
use Rattle.std.specs.Prelude.{◌≡◌, ℕ, ◌≤◌, true, false, List, ◌++◌, length, drop, Some, None, Ok, Err}
use Rattle.command.specs.declared.command.Command.{Command}
use Rattle.order.specs.declared.board.Refusal.{Refusal}
use Rattle.order.specs.Board.{Board, fine, keeps}
use Rattle.command.specs.Commands.{refusal, must_be, links_after}
use Rattle.memory.specs.declared.column.TheConstants.{MEMORY}
use Rattle.keeper.specs.declared.layout.TheConstants.{OUTPUT}
use Rattle.keeper.specs.declared.event.Reason.TheVariants.{Unfit, Board as ByBoard}
use Rattle.keeper.specs.Promise.{all_small, small_command}
use Rattle.keeper.specs.Own.{step_fits}
use Rattle.keeper.specs.Meaning.{Means}
use Rattle.row.specs.Meaning.{count}
use Rattle.row.specs.Telling.{told, told_count}
use Rattle.keeper.specs.Playing.{played, row_read, read_count}

abbrev pub DoneSo : Board → Command → List ℕ → Type 0
DoneSo r c m =
    (b : Board) × Means m b × (must_be r c b.row ≡ true) × (keeps b.row b.links ≡ true) × (b.links ≡ links_after r c)

abbrev pub Plays : Type 0
Plays =
    (m : List ℕ) (r : Board) (c : Command) (out : List ℕ) → length m ≡ MEMORY → all_small m ≡ true → Means m r → fine r ≡ true →
    small_command c ≡ true → OUTPUT ≤ length out →
    (refusal r c ≡ None → ((played m c out).answer.outcome ≡ Ok tt) × DoneSo r c (played m c out).memory)
    × ((why : Refusal) → refusal r c ≡ Some why → ((played m c out).answer.outcome ≡ Err (ByBoard why)) × Means (played m c out).memory r)

abbrev pub PlaysUnfit : Type 0
PlaysUnfit =
    (m : List ℕ) (c : Command) (out : List ℕ) → step_fits m out ≡ false →
    played m c out ≡ record { answer = record { shown = 0; outcome = Err Unfit }; memory = m; out = out }

abbrev pub Reads : List ℕ → List ℕ → ℕ → List ℕ → Type 0
Reads m out n out₁ =
    (r : Board) → length m ≡ MEMORY → Means m r → length r.row ≤ length out → (n ≡ length r.row) × (out₁ ≡ r.row ++ drop (length r.row) out)

abbrev pub ReadsRow : Type 0
ReadsRow =
    ((m : List ℕ) (r : Board) (out : List ℕ) → Means m r → length r.row ≤ length out →
    (told_count m 0 (count m) out ≡ length r.row) × (told m 0 (count m) out ≡ r.row ++ drop (length r.row) out))
    × ((m out : List ℕ) → Reads m out (read_count m out) (row_read m out))

-- The promise, firmer: each command is at its end within a number of steps said beforehand, no more is told than is needed, and no choice is left in what
-- the row becomes. These are definitions: nothing is assumed.
--   within i j t     what is told lies from the place i up to the place j
--   ToldNeeded       nothing is told unless the row has to change; for a link that goes backward, nothing but from the second card's place to the first's
--   DoneFirm r c v   the command was done, the row is as it has to be, and no more was told than needed
--   RightIn n        from a memory and a board on, each of the commands is done or refused rightly within n steps
--   WholeIn n e      the firmer promise
--   SoonIsMore       what meets the firmer promise meets the promise
--   EndStays         a run that is at its end stays as it is with more steps
--   board_after      the board after commands, as an engine told it
--   OneBoard         two engines that meet the firmer promise come to the same board, whatever the commands are
use Rattle.std.specs.Prelude.{◌≡◌, ℕ, zero, suc, ◌+◌, Bool, true, false, ◌&&◌, ◌≢◌, List, [], ◌∷◌, length, Some, None, nat_le}
use Rattle.command.specs.declared.command.Command.{Command}
use Rattle.command.specs.declared.command.Command.TheVariants.{Comes, Goes, Link as Links, Unlink as Unlinks, Places}
use Rattle.order.specs.declared.board.Refusal.{Refusal}
use Rattle.order.specs.Lists.{every, place}
use Rattle.order.specs.Board.{Board, keeps}
use Rattle.command.specs.Commands.{refusal, Told, after, must_be}
use Rattle.order.specs.Reordering.{backward}
use Rattle.memory.specs.Options.{given}
use Rattle.keeper.specs.Engine.{Engine, Ran, run_of}
use Rattle.keeper.specs.Promise.{empty, Steady, shown_for, Refused, small_command, Whole}

abbrev pub within : ℕ → ℕ → Told → Bool
within i j t = nat_le i t.at && nat_le (t.at + length t.cards) j

unfoldable pub ToldNeeded : Board → Command → List Told → Type 0
ToldNeeded r (Comes k) ts = ts ≡ []
ToldNeeded r (Goes k) ts = ts ≡ []
ToldNeeded r (Links l) ts =
    (backward r l.from l.to ≡ false → ts ≡ [])
    × (backward r l.from l.to ≡ true → every (within (place r.row l.to) (suc (place r.row l.from))) ts ≡ true)
ToldNeeded r (Unlinks l) ts = ts ≡ []
ToldNeeded r (Places a b) ts = ts ≡ []

unfoldable pub DoneFirm : Board → Command → Ran → Type 0
DoneFirm r c v =
    (v.end ≡ 0) × (v.showed ≡ shown_for r c) × (must_be r c (after r c v.told).row ≡ true)
    × (keeps (after r c v.told).row (after r c v.told).links ≡ true) × ToldNeeded r c v.told

unfoldable pub RightIn : ℕ → Engine → List ℕ → Board → List Command → Type 0
RightIn n e m r [] = zero ≡ zero
RightIn n e m r (c ∷ cs) =
    (refusal r c ≡ None → DoneFirm r c (run_of n e m c) × RightIn n e (run_of n e m c).memory (after r c (run_of n e m c).told) cs)
    × ((why : Refusal) → refusal r c ≡ Some why → Refused r c why (run_of n e m c) × RightIn n e (run_of n e m c).memory r cs)

unfoldable pub WholeIn : ℕ → Engine → Type 0
WholeIn n e = Steady e × ((cs : List Command) → every small_command cs ≡ true → RightIn n e e.start empty cs)

abbrev pub SoonIsMore : Type 0
SoonIsMore = (n : ℕ) (e : Engine) → WholeIn n e → Whole e

abbrev pub EndStays : Type 0
EndStays = (n k : ℕ) (e : Engine) (m : List ℕ) (c : Command) → (run_of n e m c).end ≢ 1000 → run_of (n + k) e m c ≡ run_of n e m c

unfoldable pub board_after : ℕ → Engine → List ℕ → Board → List Command → Board
board_after n e m r [] = r
board_after n e m r (c ∷ cs) = board_after n e (run_of n e m c).memory (given (refusal r c) (after r c (run_of n e m c).told) (λ _. r)) cs

abbrev pub OneBoard : Type 0
OneBoard =
    (n n₁ : ℕ) (e e₁ : Engine) (cs : List Command) → WholeIn n e → WholeIn n₁ e₁ → every small_command cs ≡ true →
    board_after n e e.start empty cs ≡ board_after n₁ e₁ e₁.start empty cs

-- What is promised of an engine that takes commands, several links at once, and the wish for a row made anew. These are definitions: nothing is assumed.
--
-- As the keeper's promise: what the engine has to answer is said by a board, which begins empty. For a command it is what the keeper promises, in its firmer
-- form. `refusal`, `must_be`, `keeps`, `goes_round` are words of the crate `row`; `several_refusal`, `Becomes`, `circle`, `Ruled` of this one.
--   small_link l       the numbers of the link are below 2^64; small_saying s: those of the saying; small_heard h: those of what is heard
--   Steady e           the engine's memory is as asked
--   refused_for r s    why the board refuses the saying, the first reason that applies; None: it can be done
--   row_first r s      the row that the saying leaves, before anything is told
--   links_then r s     the links that it leaves
--   after r s ts       the board that it leaves, if ts is told
--   Settled r ls row   what the row is after the links ls: the one that they make, with only cards from the first to the last that they name at another
--                      place; the same, if it keeps them already; and for one link as if it were said alone
--   RowSo r s row      what the row is after the saying
--   ToldSo r s ts row no more is told than is needed; of a row made anew, all of it
--   Done r s v         the saying was done, and rightly
--   RoundSo r s ss     what was shown is a way that goes round: for several links a circle of links, old and new
--   Refused r s w v    the saying was refused for the reason w, and rightly
--   RightIn n e m r    from the memory m and the board r on, each of the sayings is done or refused rightly within n steps
--   WholeIn n e        the promise
--   Fits e             each answer of the engine fits what carries it, whatever stands in its memory
use Rattle.std.specs.Prelude.{◌≡◌, ℕ, zero, ◌≤◌, Bool, true, ◌≢◌, List, [], ◌∷◌, ◌++◌, length, Some, None, Option, nat_eq}
use Rattle.memory.specs.declared.column.TheConstants.{MEMORY}
use Rattle.order.specs.declared.board.Link.{Link}
use Rattle.command.specs.declared.command.Command.TheVariants.{Link as Links}
use Rattle.order.specs.declared.board.Refusal.{Refusal}
use Rattle.order.specs.declared.board.Refusal.TheVariants.{Cycle}
use Rattle.order.specs.Lists.{every}
use Rattle.order.specs.Board.{Board, keeps}
use Rattle.order.specs.Reordering.{number}
use Rattle.command.specs.Commands.{refusal, Told, told_rows, row_before, links_after, must_be}
use Rattle.keeper.specs.Engine.{Ran}
use Rattle.keeper.specs.Promise.{empty, all_small, small_command, shown_for, RoundShown}
use Rattle.keeper.specs.Sister.{within, ToldNeeded}
use Rattle.keeper.specs.Sized.{fits}
use Rattle.batch.specs.Several.{with_links, several_refusal, Becomes, first_named, past_named, circle}
use Rattle.batch.specs.SeveralLaws.{Between}
use Rattle.batch.specs.Rule.{Ruled, sorted}
use Rattle.batch.specs.Engine.{Saying, one, several, anew, Heard, said, next, Engine, run_of}

abbrev pub small_link : Link → Bool
small_link l = small_command (Links l)

unfoldable pub small_saying : Saying → Bool
small_saying (one c) = small_command c
small_saying (several ls) = every small_link ls
small_saying anew = true

unfoldable pub small_heard : Heard → Bool
small_heard (said s) = small_saying s
small_heard next = true

-- The memory has at most MEMORY numbers, all 0 at the start. No step makes it longer or shorter, whatever stands in it, nor leaves in it a number that
-- does not fit 64 bits, if none was there.
unfoldable pub Steady : Engine → Type 0
Steady e =
    (length e.start ≤ MEMORY) × (every (λ m. nat_eq m 0) e.start ≡ true)
    × ((m : List ℕ) (h : Heard) → (length (e.step m h).memory ≡ length m) × (all_small m ≡ true → all_small (e.step m h).memory ≡ true))

abbrev pub refused_for : Board → Saying → Option Refusal
refused_for r (one c) = refusal r c
refused_for r (several ls) = several_refusal r ls
refused_for r anew = None

abbrev pub row_first : Board → Saying → List ℕ
row_first r (one c) = row_before r c
row_first r (several ls) = r.row
row_first r anew = r.row

abbrev pub links_then : Board → Saying → List Link
links_then r (one c) = links_after r c
links_then r (several ls) = r.links ++ ls
links_then r anew = r.links

abbrev pub after : Board → Saying → List Told → Board
after r s ts = record { row = told_rows (row_first r s) ts; links = links_then r s }

pub record Settled (r : Board) (ls : List Link) (row : List ℕ) : Type 0 where
  pub becomes : Becomes r ls row
  pub between : Between r ls row
  pub unmoved : keeps r.row (r.links ++ ls) ≡ true → row ≡ r.row
  pub alone : (l : Link) → ls ≡ l ∷ [] → must_be r (Links l) row ≡ true

abbrev pub RowSo : Board → Saying → List ℕ → Type 0
RowSo r (one c) row = must_be r c row ≡ true
RowSo r (several ls) row = Settled r ls row
RowSo r anew row = Ruled r.links (sorted r.row) row

-- of a row made anew: what is told makes it of any row as long
abbrev pub ToldSo : Board → Saying → List Told → List ℕ → Type 0
ToldSo r (one c) ts row = ToldNeeded r c ts
ToldSo r (several ls) ts row =
    (keeps r.row (r.links ++ ls) ≡ true → ts ≡ []) × (every (within (first_named r ls) (past_named r ls)) ts ≡ true)
ToldSo r anew ts row = (old : List ℕ) → length old ≡ length row → told_rows old ts ≡ row

abbrev pub shown_so : Board → Saying → List (List ℕ)
shown_so r (one c) = shown_for r c
shown_so r (several ls) = []
shown_so r anew = []

unfoldable pub Done : Board → Saying → Ran → Type 0
Done r s v =
    (v.end ≡ 0) × (v.showed ≡ shown_so r s) × RowSo r s (after r s v.told).row
    × (keeps (after r s v.told).row (after r s v.told).links ≡ true) × ToldSo r s v.told (after r s v.told).row

abbrev pub RoundSo : Board → Saying → List (List ℕ) → Type 0
RoundSo r (one c) ss = RoundShown r c ss
RoundSo r (several ls) ss = (way : List ℕ) × (ss ≡ way ∷ []) × (circle (with_links r ls) way ≡ true)
RoundSo r anew ss = ss ≡ []

unfoldable pub Refused : Board → Saying → Refusal → Ran → Type 0
Refused r s why v = (v.end ≡ number why) × (v.told ≡ []) × (why ≡ Cycle → RoundSo r s v.showed) × (why ≢ Cycle → v.showed ≡ [])

unfoldable pub RightIn : ℕ → Engine → List ℕ → Board → List Saying → Type 0
RightIn n e m r [] = zero ≡ zero
RightIn n e m r (s ∷ ss) =
    (refused_for r s ≡ None → Done r s (run_of n e m s) × RightIn n e (run_of n e m s).memory (after r s (run_of n e m s).told) ss)
    × ((why : Refusal) → refused_for r s ≡ Some why → Refused r s why (run_of n e m s) × RightIn n e (run_of n e m s).memory r ss)

-- THE PROMISE: from the start and the empty board on, whatever the sayings are, each is done or refused rightly, within n steps.
unfoldable pub WholeIn : ℕ → Engine → Type 0
WholeIn n e = Steady e × ((ss : List Saying) → every small_saying ss ≡ true → RightIn n e e.start empty ss)

abbrev pub Fits : Engine → Type 0
Fits e = (m : List ℕ) (h : Heard) → all_small m ≡ true → fits (e.step m h).action ≡ true

-- What is so of links that were tried and are taken out again. Each of the last four names is a statement; its proof is asked for by a function of
-- src/trying_laws.rt.
--
--   put_aside m s          the memory with the part of the row that a span names put aside
--   Covers s r ls          this part has all cards that the links name, and lies in the row
--   UndoesIn m r ls n s w  after the links were tried, and n of them put in by the row w, these are taken out, and the row is seated as it was: the
--                          memory means the board that it meant before
--   NoPart o               there is no span, or there is no place in it
--
--   SavesMeans             the row put aside is no part of what the memory means
--   TakesOut               links that were put in last are taken out again: the memory means the board without them
--   Undoes                 links that were tried are undone so, of a row without gaps; and of each memory that means a board, once its row is packed
--   UndoesNone             the same where the row stayed as it was, and no part of it was put aside
use Rattle.std.specs.Prelude.{◌≡◌, ℕ, ◌-◌, ◌≤◌, min, true, List, ◌++◌, length, take, Some, Option}
use Rattle.memory.specs.declared.column.TheConstants.{MEMORY}
use Rattle.order.specs.declared.board.TheConstants.{CARDS}
use Rattle.order.specs.declared.board.Link.{Link}
use Rattle.command.specs.declared.command.Command.TheVariants.{Link as Links}
use Rattle.order.specs.Lists.{every}
use Rattle.order.specs.Board.{Board}
use Rattle.row.specs.Moves.{packed}
use Rattle.keeper.specs.Promise.{small_command}
use Rattle.keeper.specs.Meaning.{Means}
use Rattle.batch.specs.declared.seating.Span.{Span}
use Rattle.batch.specs.Dense.{Dense}
use Rattle.batch.specs.Several.{all_there, with_links, Becomes, first_named, past_named}
use Rattle.batch.specs.Joining.{tried, taken_out}
use Rattle.batch.specs.Seating.{saved}
use Rattle.batch.specs.Saying.{undone}

abbrev pub put_aside : List ℕ → Span → List ℕ
put_aside m s = saved (min s.high CARDS - s.low) m s.low

pub record Covers (s : Span) (r : Board) (ls : List Link) : Type 0 where
  pub lower : s.low ≤ first_named r ls
  pub higher : past_named r ls ≤ s.high
  pub within : s.high ≤ length r.row

abbrev pub SavesMeans : Type 0
SavesMeans = (m : List ℕ) (r : Board) (n p : ℕ) → Means m r → Means (saved n m p) r

abbrev pub TakesOut : Type 0
TakesOut =
    (m : List ℕ) (r : Board) (ls : List Link) → every (λ l. small_command (Links l)) ls ≡ true → Means m (with_links r ls) → Means (taken_out m ls) r

abbrev pub UndoesIn : List ℕ → Board → List Link → ℕ → Span → List ℕ → Type 0
UndoesIn m r ls n s row =
    Means (tried (put_aside m s) ls 0).memory (record { row = row; links = r.links ++ take n ls }) →
    Means (undone (tried (put_aside m s) ls 0).memory (take n ls) (Some s)) r

abbrev pub Undoes : Type 0
Undoes =
    ((m : List ℕ) (r : Board) (ls : List Link) (n : ℕ) (s : Span) (row : List ℕ) → Means m r → Dense m →
    every (λ l. small_command (Links l)) ls ≡ true → all_there r ls ≡ true → length m ≡ MEMORY → Covers s r ls → Becomes r (take n ls) row →
    UndoesIn m r ls n s row)
    × ((m : List ℕ) (r : Board) (ls : List Link) (n : ℕ) (s : Span) (row : List ℕ) → Means m r →
    every (λ l. small_command (Links l)) ls ≡ true → all_there r ls ≡ true → length m ≡ MEMORY → Covers s r ls → Becomes r (take n ls) row →
    UndoesIn (packed m) r ls n s row)

abbrev pub NoPart : Option Span → Type 0
NoPart o = (s : Span) → o ≡ Some s → s.high ≤ s.low

abbrev pub UndoesNone : Type 0
UndoesNone =
    (m : List ℕ) (r : Board) (ls : List Link) (o : Option Span) → every (λ l. small_command (Links l)) ls ≡ true → NoPart o → Means m (with_links r ls) →
    Means (undone m ls o) r

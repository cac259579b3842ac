-- What is so of links that are tried, in the words of the board. Each of the two last names is a statement; its proof is asked for by a function of
-- src/trying_laws.rt.
--
--   PutIn m r l       the link was put in, and the row is as if the link were said alone
--   GoesRound m r l   the link goes round, by the way that was found, and the memory means the same board
--   AllIn m r ls      the links were all put in, and the row is the one that they make
--   Stopped m r ls    a link goes round, there is a circle of links, old and new, and those before it were put in
--
--   Joins             of a link that wasn't said before, between cards that are there, one or the other is so, if there's room in the table
--   Tries             the same of links
use Rattle.std.specs.Prelude.{◌≡◌, ℕ, ◌+◌, ◌<◌, ◌≤◌, true, false, List, ◌++◌, length, take, Some, None}
use Rattle.order.specs.declared.board.Link.{Link}
use Rattle.command.specs.declared.command.Command.TheVariants.{Link as Links}
use Rattle.order.specs.Lists.{every, has}
use Rattle.order.specs.Board.{Board, linked, keeps, leads}
use Rattle.order.specs.Reordering.{with_link, goes_round}
use Rattle.command.specs.Commands.{must_be}
use Rattle.links.specs.declared.layout.TheConstants.{ENTRIES}
use Rattle.keeper.specs.Promise.{small_command}
use Rattle.keeper.specs.Meaning.{Means}
use Rattle.batch.specs.Several.{all_there, after_link, with_links, said_before, closes, Becomes, circle}
use Rattle.batch.specs.Joining.{joined, tried}

pub record PutIn (m : List ℕ) (r : Board) (l : Link) : Type 0 where
  pub no_way : (joined m l).way ≡ None
  pub row : List ℕ
  pub is_row : must_be r (Links l) row ≡ true
  pub keeps_all : keeps row (with_link r l.from l.to) ≡ true
  pub means : Means (joined m l).memory (after_link r l row)

pub record GoesRound (m : List ℕ) (r : Board) (l : Link) : Type 0 where
  pub way : List ℕ
  pub is_way : (joined m l).way ≡ Some way
  pub round : goes_round r l.from l.to way ≡ true
  pub means : Means (joined m l).memory r

abbrev pub Joins : Type 0
Joins =
    (m : List ℕ) (r : Board) (l : Link) → Means m r → small_command (Links l) ≡ true → has r.row l.from ≡ true → has r.row l.to ≡ true →
    linked r l.from l.to ≡ false → length r.links < ENTRIES →
    (leads r l.to l.from ≡ false → PutIn m r l) × (leads r l.to l.from ≡ true → GoesRound m r l)

pub record AllIn (m : List ℕ) (r : Board) (ls : List Link) : Type 0 where
  pub no_way : (tried m ls 0).way ≡ None
  pub row : List ℕ
  pub becomes : Becomes r ls row
  pub means : Means (tried m ls 0).memory (record { row = row; links = r.links ++ ls })

pub record Stopped (m : List ℕ) (r : Board) (ls : List Link) : Type 0 where
  pub way : List ℕ
  pub is_way : (tried m ls 0).way ≡ Some way
  pub round : circle (with_links r ls) way ≡ true
  pub row : List ℕ
  pub becomes : Becomes r (take (tried m ls 0).count ls) row
  pub means : Means (tried m ls 0).memory (record { row = row; links = r.links ++ take (tried m ls 0).count ls })

abbrev pub Tries : Type 0
Tries =
    (m : List ℕ) (r : Board) (ls : List Link) → Means m r → every (λ l. small_command (Links l)) ls ≡ true → all_there r ls ≡ true →
    said_before r ls ≡ false → length r.links + length ls ≤ ENTRIES → (closes r ls ≡ false → AllIn m r ls) × (closes r ls ≡ true → Stopped m r ls)

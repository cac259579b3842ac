-- What is proved of the search from both ends. m is the memory before, m' after.
--   Found m m' a b o   by what a search answers: the searches came to their ends, or they met at a link
--   Meets m l o m'     for a link that goes backward the answer is right: no link if its second end doesn't lead to its first, else a link at which the
--                      searches met, with a way there from the one end and on to the other
use Rattle.std.specs.Prelude.{◌≡◌, ℕ, ◌<◌, true, List, Some, None, Option}
use Rattle.order.specs.declared.board.Link.{Link}
use Rattle.memory.specs.Columns.{cell}
use Rattle.row.specs.declared.layout.TheConstants.{SEATS}
use Rattle.row.specs.Meaning.{used}
use Rattle.search.specs.Meaning.{Ready, Parted, Trailed}

abbrev pub Found : List ℕ → List ℕ → ℕ → ℕ → Option Link → Type 0
Found m m' a b None = Parted m m' a b
Found m m' a b (Some l) = Trailed m m' a b l.from l.to

unfoldable pub Meets : List ℕ → Link → Option Link → List ℕ → Type 0
Meets m l o m' =
    Ready m → used m l.from ≡ true → used m l.to ≡ true → cell m SEATS l.to < cell m SEATS l.from → Found m m' l.from l.to o

-- What is looked at before links are tried, as the code goes.
--
--   all_found m ls        each card that a link names has a slot
--   known m l             the table has the link
--   repeated m ps ls      one of ls is in the table, or is one of ps or of those before it in ls
--   widened s a b         the span of links and whether one goes backward, widened to the seats a and b of one more link's cards
--   wider m l s           so to the seats of the link's two cards
--   spanned m ls s        so for each of the links
--   no_span               the span of no links
--   moving s              the span, if a link goes backward there; None: no seat has to change
--   span m ls             the seats of the part of the row that may change for the links; None: none has to
use Rattle.std.specs.Prelude.{ℕ, ◌+◌, min, max, Bool, false, cond, ◌||◌, List, [], ◌∷◌, ◌++◌, Some, None, Option, is_some, nat_le}
use Rattle.order.specs.declared.board.Link.{Link}
use Rattle.memory.specs.Columns.{cell}
use Rattle.order.specs.declared.board.TheConstants.{CARDS}
use Rattle.row.specs.declared.layout.TheConstants.{SEATS}
use Rattle.memory.specs.Options.{given}
use Rattle.links.specs.Pairs.{joins}
use Rattle.links.specs.Entries.{found as entry_found}
use Rattle.keeper.specs.Linking.{slots_found}
use Rattle.batch.specs.declared.seating.Span.{Span}
use Rattle.batch.specs.declared.checking.Named.{Named}
use Rattle.std.specs.List.{fold, list_all, list_any}

abbrev pub all_found : List ℕ → List Link → Bool
all_found m ls = list_all (λ l. is_some (slots_found m l)) ls

unfoldable pub known : List ℕ → Link → Bool
known m l = given (slots_found m l) false (λ x. is_some (entry_found m x))

unfoldable pub repeated : List ℕ → List Link → List Link → Bool
repeated m ps [] = false
repeated m ps (l ∷ ls) = (known m l || list_any (joins l) ps) || repeated m (ps ++ l ∷ []) ls

-- a seat and the one behind it fit 64 bits
abbrev pub behind : ℕ → ℕ
behind p = min (p + 1) 18446744073709551615

unfoldable pub widened : Named → ℕ → ℕ → Named
widened s a b =
    record { span = record { low = min s.span.low (min a b); high = max s.span.high (behind (max a b)) }; back = s.back || nat_le b a }

unfoldable pub wider : List ℕ → Link → Named → Named
wider m l s = given (slots_found m l) s (λ x. widened s (cell m SEATS x.from) (cell m SEATS x.to))

unfoldable pub spanned : List ℕ → List Link → Named → Named
spanned m ls s = fold (λ x l. wider m l x) s ls

abbrev pub no_span : Named
no_span = record { span = record { low = CARDS; high = 0 }; back = false }

unfoldable pub moving : Named → Option Span
moving s = cond s.back (Some s.span) None

abbrev pub span : List ℕ → List Link → Option Span
span m ls = moving (spanned m ls no_span)

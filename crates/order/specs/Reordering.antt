-- One link more: whether it may be, what the row may become for it, and the way that it would close. These are definitions: nothing is assumed.
--   number e              the number by which a refusal is told
--   link_refusal r l      why the link can't be made, the first reason that applies; None: it can be made
--   with_link r a b       the links with one more behind them, from a to b
--   backward r a b        b stands before a, so that a link from a to b asks for another row
--   touched r a b k       links lead from b to k, or from k to a
--   little r a b row      the row is the board's, little changed for a link from a to b: the same before b's place and behind a's, and in the same order
--                         the cards that aren't touched, those that b leads to, and those that lead to a
--   firm r a b row        little, and each card that isn't touched keeps its very place
--   link_may_be r l row   the row may be so once the link is made: little changed if the link goes backward, else the board's
--   link_must_be r l row  the row has to be so once the link is made: the same with firm
--   follows r ks          each of ks is linked to the next
--   last_of k ks          the last of k and ks
--   goes_round r a b ks   ks is a way by which a link from a to b would go round: it begins with b, ends with a, each card is linked to the next, none twice
use Rattle.std.specs.Prelude.{ℕ, suc, Bool, true, false, cond, not, ◌&&◌, ◌||◌, List, [], ◌∷◌, ◌++◌, length, take, drop, Some, None, Option, ◌==◌, nat_le, nat_lt}
use Rattle.order.specs.declared.board.Link.{Link}
use Rattle.order.specs.declared.board.Refusal.{Refusal}
use Rattle.order.specs.declared.board.Refusal.TheVariants.{Missing, Exists, Cycle, Full}
use Rattle.order.specs.declared.board.TheConstants.{LINKS}
use Rattle.order.specs.Lists.{every, filter, has, place, distinct, same}
use Rattle.order.specs.Board.{Board, ◌⟶◌, linked, leads}

abbrev pub number : Refusal → ℕ
number Missing = 3
number Exists = 4
number Cycle = 5
number Full = 7

unfoldable pub link_refusal : Board → Link → Option Refusal
link_refusal r l =
    cond (has r.row l.from && has r.row l.to)
    (cond (linked r l.from l.to) (Some Exists)
    (cond (leads r l.to l.from) (Some Cycle) (cond (nat_le LINKS (length r.links)) (Some Full) None)))
    (Some Missing)

abbrev pub with_link : Board → ℕ → ℕ → List Link
with_link r a b = r.links ++ (a ⟶ b) ∷ []

abbrev pub backward : Board → ℕ → ℕ → Bool
backward r a b = nat_lt (place r.row b) (place r.row a)

abbrev pub touched : Board → ℕ → ℕ → ℕ → Bool
touched r a b k = leads r b k || leads r k a

abbrev pub little : Board → ℕ → ℕ → List ℕ → Bool
little r a b row =
    (same (take (place r.row b) row) (take (place r.row b) r.row)
    && same (drop (suc (place r.row a)) row) (drop (suc (place r.row a)) r.row))
    && (same (filter (λ k. not (touched r a b k)) row) (filter (λ k. not (touched r a b k)) r.row)
    && (same (filter (leads r b) row) (filter (leads r b) r.row)
    && same (filter (λ k. leads r k a) row) (filter (λ k. leads r k a) r.row)))

abbrev pub firm : Board → ℕ → ℕ → List ℕ → Bool
firm r a b row = little r a b row && every (λ k. touched r a b k || place row k == place r.row k) r.row

unfoldable pub link_may_be : Board → Link → List ℕ → Bool
link_may_be r l row = cond (backward r l.from l.to) (little r l.from l.to row) (same row r.row)

unfoldable pub link_must_be : Board → Link → List ℕ → Bool
link_must_be r l row = cond (backward r l.from l.to) (firm r l.from l.to row) (same row r.row)

unfoldable pub follows : Board → List ℕ → Bool
follows r [] = true
follows r (k ∷ []) = true
follows r (k ∷ j ∷ ks) = linked r k j && follows r (j ∷ ks)

unfoldable pub last_of : ℕ → List ℕ → ℕ
last_of k [] = k
last_of k (j ∷ js) = last_of j js

unfoldable pub goes_round : Board → ℕ → ℕ → List ℕ → Bool
goes_round r a b [] = false
goes_round r a b (k ∷ ks) = (k == b && last_of k ks == a) && (follows r (k ∷ ks) && distinct (k ∷ ks))

-- What is proved of the rule by which a row is made anew, for any row and any links. Each of these names is a statement, a type; `src/rule_laws.rt` has a
-- function for it, whose contract it is.
--   AnewRuled        if all cards come, they come by the rule
--   RuledOnly        there is only one row by the rule
--   RuledCards       it has the cards of the given row, each once
--   RuledKeeps       it keeps all links
--   KeptIsRuled      a row that keeps its links is left as it is
--   AnewRound        not all cards come just if the links go round: then there is a circle of cards that stand in the row; and if there is one, not all come
--   SortedSo         what is sorted has the same cards, as often, and rises; and a list of the same cards that rises is it
use Rattle.std.specs.Prelude.{◌≡◌, ℕ, ◌<◌, ◌≤◌, true, ◌&&◌, List, length}
use Rattle.std.specs.List.Sorted.{IsPermutation, IsNonDecreasing}
use Rattle.order.specs.declared.board.Link.{Link}
use Rattle.order.specs.Lists.{every, has, distinct}
use Rattle.order.specs.Board.{keeps}
use Rattle.batch.specs.Several.{circle}
use Rattle.batch.specs.Rule.{anew, Ruled, sorted}

-- each link is between cards of the row
abbrev pub within_row : List ℕ → List Link → Type 0
within_row row ls = every (λ l. has row l.from && has row l.to) ls ≡ true

abbrev pub AnewRuled : Type 0
AnewRuled = (ls : List Link) (row : List ℕ) → distinct row ≡ true → length (anew ls row) ≡ length row → Ruled ls row (anew ls row)

abbrev pub RuledOnly : Type 0
RuledOnly = (ls : List Link) (row new new₁ : List ℕ) → Ruled ls row new → Ruled ls row new₁ → new ≡ new₁

abbrev pub RuledCards : Type 0
RuledCards =
    (ls : List Link) (row new : List ℕ) → distinct row ≡ true → Ruled ls row new →
    (distinct new ≡ true) × (length new ≡ length row) × ((k : ℕ) → has new k ≡ has row k)

abbrev pub RuledKeeps : Type 0
RuledKeeps = (ls : List Link) (row new : List ℕ) → distinct row ≡ true → within_row row ls → Ruled ls row new → keeps new ls ≡ true

abbrev pub KeptIsRuled : Type 0
KeptIsRuled = (ls : List Link) (row : List ℕ) → distinct row ≡ true → keeps row ls ≡ true → Ruled ls row row × (anew ls row ≡ row)

abbrev pub AnewRound : Type 0
AnewRound =
    (ls : List Link) (row : List ℕ) → distinct row ≡ true →
    (length (anew ls row) ≤ length row)
    × (length (anew ls row) < length row → (way : List ℕ) × (circle (record { row = row; links = ls }) way ≡ true) × (every (has row) way ≡ true))
    × ((way : List ℕ) → circle (record { row = row; links = ls }) way ≡ true → every (has row) way ≡ true → length (anew ls row) < length row)

abbrev pub SortedSo : Type 0
SortedSo =
    (ks : List ℕ) → IsPermutation ks (sorted ks) × IsNonDecreasing (sorted ks) × ((js : List ℕ) → IsPermutation ks js → IsNonDecreasing js → js ≡ sorted ks)

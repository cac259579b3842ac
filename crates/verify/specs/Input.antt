-- What the bytes of the input say.
--
--   numbers_of bs       the numbers that the bytes spell, two bytes to a number, the low one first
--   Says ns row links   the numbers say how many cards there are, the cards of the row, and the links
--   Split ns o          it holds the row and the links that the numbers say; or nothing, and they say none
use Rattle.std.specs.Prelude.{◌≡◌, ℕ, ◌+◌, ◌*◌, List, [], ◌∷◌, ◌++◌, length, Some, None, Option}
use Rattle.verify.specs.declared.input.Question.{Question}

unfoldable pub numbers_of : List ℕ → List ℕ
numbers_of [] = []
numbers_of (b ∷ []) = []
numbers_of (low ∷ high ∷ bs) = (low + 256 * high) ∷ numbers_of bs

abbrev pub Says : List ℕ → List ℕ → List ℕ → Type 0
Says ns row links = ns ≡ length row ∷ row ++ links

abbrev pub Split : List ℕ → Option Question → Type 0
Split ns None = (row links : List ℕ) → Says ns row links → ⊥
Split ns (Some q) = Says ns q.row.now q.links.now

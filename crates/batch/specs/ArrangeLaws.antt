-- What is so of the row put into the order of the cards' numbers. The last name is a statement; its proof is asked for by a function of src/tidy_laws.rt.
--
--   InOrder m m'         m' is the memory m with the cards in the order of their numbers: it is packed, with the same cards in the same slots
--
--   Arranges             the cards come to stand in the order of their numbers
use Rattle.std.specs.Prelude.{◌≡◌, ℕ, ◌+◌, ◌≤◌, List, length}
use Rattle.memory.specs.Footprints.{Writes}
use Rattle.row.specs.Meaning.{cards, used, IsRow}
use Rattle.batch.specs.declared.layout.TheConstants.{NUMBERS}
use Rattle.batch.specs.Columns.{arranging}
use Rattle.batch.specs.Dense.{Dense}
use Rattle.batch.specs.Rule.{sorted}
use Rattle.batch.specs.Arranging.{arranged}

pub record InOrder (m m' : List ℕ) : Type 0 where
  pub wrote : Writes arranging m m'
  pub dense : Dense m'
  pub cards_are : cards m' ≡ sorted (cards m)
  pub same_used : (s : ℕ) → used m' s ≡ used m s

abbrev pub Arranges : Type 0
Arranges = (m : List ℕ) → NUMBERS.base + NUMBERS.size ≤ length m → IsRow m → InOrder m (arranged m)

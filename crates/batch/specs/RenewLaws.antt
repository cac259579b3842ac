-- What is so of the row made anew in its memory. The last name is a statement; its proof is asked for by a function of src/memory_laws.rt.
--
--   MadeAnew m m' n     m' is m with the row made anew in SPARE, of n cards: row and table are as they were, and no place is marked
--
--   Renews              from the row and the links of the memory, just those come that come by the rule, in their order
use Rattle.std.specs.Prelude.{◌≡◌, ℕ, ◌+◌, ◌≤◌, false, List, map, length}
use Rattle.std.specs.List.{range_with_len}
use Rattle.memory.specs.Columns.{cell}
use Rattle.memory.specs.Footprints.{Writes}
use Rattle.memory.specs.PlaceSets.{marked}
use Rattle.memory.specs.PlaceSetLaws.{Summed}
use Rattle.row.specs.Meaning.{row_of, cards, used, IsRow}
use Rattle.links.specs.Table.{edges, IsTable}
use Rattle.search.specs.declared.layout.TheConstants.{FORE}
use Rattle.batch.specs.declared.layout.TheConstants.{SPARE, LEAVES}
use Rattle.batch.specs.Columns.{renewing}
use Rattle.batch.specs.Dense.{Dense}
use Rattle.batch.specs.Renewing.{renewed}
use Rattle.batch.specs.Rule.{anew}
use Rattle.batch.specs.RuleLaws.{within_row}

pub record MadeAnew (m m' : List ℕ) (n : ℕ) : Type 0 where
  pub wrote : Writes renewing m m'
  pub dense : Dense m'
  pub is_table : IsTable m'
  pub same_row : row_of m' ≡ row_of m
  pub same_cards : cards m' ≡ cards m
  pub same_used : (s : ℕ) → used m' s ≡ used m s
  pub same_edges : edges m' ≡ edges m
  pub fore_summed : Summed m' FORE.column
  pub fore_none : (p : ℕ) → marked m' FORE.column p ≡ false
  pub as_many : n ≡ length (anew (edges m) (row_of m))
  pub come : map (cell m' SPARE) (range_with_len 0 n) ≡ anew (edges m) (row_of m)

abbrev pub Renews : Type 0
Renews =
    (m : List ℕ) → LEAVES.base + LEAVES.size ≤ length m → IsRow m → IsTable m → Summed m FORE.column → ((p : ℕ) → marked m FORE.column p ≡ false) →
    within_row (row_of m) (edges m) → MadeAnew m (renewed m).memory (renewed m).came

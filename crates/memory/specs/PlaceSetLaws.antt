-- What is proved of sets of places. m is the memory before, m' after.
--
--   Summed m c           the column lies within the memory, its words are below 2 ^ 64, and the summary names just the words that aren't 0
--   JustAfter f p o      o is the first number after p that passes the test f, or there is none
--   JustBefore f p o     o is the last number before p that passes the test f, or there is none
--   Least f o            o is the first number that passes the test f, or there is none
--   sweep_up n f p       the first of the n numbers after p that passes the test f, tried one after another
--   sweep_down f p       the last number before p that passes the test f, tried one after another
--
--   Adds m c p b m'      p is marked from then on, if it is a place; nothing else changes; b says whether it wasn't
--   Removes m c p b m'   p isn't marked any more; nothing else changes; b says whether it was
--   Wipes m c m'         nothing is marked
--   NextUp m c p o       o is the first marked place after p; NextDown: the last before it; Firsts: the first of all
--   Skips                passing over what isn't marked changes nothing: trying place after place finds the same
--   Zeros                a column of zeros marks nothing
--   CellsAlone           what is marked depends on the column's cells alone
use Rattle.std.specs.Prelude.{◌≡◌, ℕ, zero, suc, ◌+◌, ◌^◌, ◌<◌, ◌≤◌, Bool, true, false, cond, not, ◌&&◌, ◌||◌, List, length, Some, None, Option, ◌==◌, nat_lt}
use Rattle.memory.specs.declared.column.Column.{Column}
use Rattle.memory.specs.declared.place_set.TheConstants.{PLACES, WORDS, SET_WORDS}
use Rattle.memory.specs.Columns.{cell}
use Rattle.memory.specs.PlaceSets.{bit, marked, next_up, next_down}

pub record Summed (m : List ℕ) (c : Column) : Type 0 where
  pub room : SET_WORDS ≤ c.size
  pub lies : c.base + c.size ≤ length m
  pub fits : (i : ℕ) → cell m c i < 2 ^ 64
  pub sums : (w : ℕ) → w < WORDS → bit m c WORDS w ≡ not (cell m c w == 0)

abbrev pub JustAfter : (ℕ → Bool) → ℕ → Option ℕ → Type 0
JustAfter f p None = (r : ℕ) → p < r → f r ≡ false
JustAfter f p (Some q) = (p < q) × (f q ≡ true) × ((r : ℕ) → p < r → r < q → f r ≡ false)

abbrev pub JustBefore : (ℕ → Bool) → ℕ → Option ℕ → Type 0
JustBefore f p None = (r : ℕ) → r < p → f r ≡ false
JustBefore f p (Some q) = (q < p) × (f q ≡ true) × ((r : ℕ) → q < r → r < p → f r ≡ false)

abbrev pub Least : (ℕ → Bool) → Option ℕ → Type 0
Least f None = (r : ℕ) → f r ≡ false
Least f (Some q) = (f q ≡ true) × ((r : ℕ) → r < q → f r ≡ false)

unfoldable pub sweep_up : ℕ → (ℕ → Bool) → ℕ → Option ℕ
sweep_up zero f p = None
sweep_up (suc n) f p = cond (f (p + 1)) (Some (p + 1)) (sweep_up n f (p + 1))

unfoldable pub sweep_down : (ℕ → Bool) → ℕ → Option ℕ
sweep_down f zero = None
sweep_down f (suc p) = cond (f p) (Some p) (sweep_down f p)

unfoldable pub Adds : List ℕ → Column → ℕ → Bool → List ℕ → Type 0
Adds m c p b m' =
    Summed m c →
    Summed m' c × (b ≡ (nat_lt p PLACES && not (marked m c p))) × ((q : ℕ) → marked m' c q ≡ ((q == p && nat_lt p PLACES) || marked m c q))

unfoldable pub Removes : List ℕ → Column → ℕ → Bool → List ℕ → Type 0
Removes m c p b m' = Summed m c → Summed m' c × (b ≡ marked m c p) × ((q : ℕ) → marked m' c q ≡ (marked m c q && not (q == p)))

unfoldable pub Wipes : List ℕ → Column → List ℕ → Type 0
Wipes m c m' = Summed m c → Summed m' c × ((q : ℕ) → marked m' c q ≡ false)

unfoldable pub NextUp : List ℕ → Column → ℕ → Option ℕ → Type 0
NextUp m c p o = Summed m c → JustAfter (marked m c) p o

unfoldable pub NextDown : List ℕ → Column → ℕ → Option ℕ → Type 0
NextDown m c p o = Summed m c → JustBefore (marked m c) p o

unfoldable pub Firsts : List ℕ → Column → Option ℕ → Type 0
Firsts m c o = Summed m c → Least (marked m c) o

unfoldable pub Skips : Type 0
Skips =
    (m : List ℕ) (c : Column) (p : ℕ) → Summed m c →
    (next_up m c p ≡ sweep_up PLACES (marked m c) p) × (next_down m c p ≡ sweep_down (marked m c) p)

unfoldable pub Zeros : Type 0
Zeros =
    (m : List ℕ) (c : Column) → SET_WORDS ≤ c.size → c.base + c.size ≤ length m → ((i : ℕ) → cell m c i ≡ 0) →
    Summed m c × ((q : ℕ) → marked m c q ≡ false)

unfoldable pub CellsAlone : Type 0
CellsAlone =
    (m n : List ℕ) (c : Column) → ((i : ℕ) → cell n c i ≡ cell m c i) →
    ((q : ℕ) → marked n c q ≡ marked m c q) × (c.base + c.size ≤ length n → Summed m c → Summed n c)

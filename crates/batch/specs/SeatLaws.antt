-- What is so of the row put aside and seated again. `Saves` and `Reseats` are statements, whose proofs are asked for by a function of src/memory_laws.rt.
--
--   Seated m m' lo n ks   m' is the memory m with the slots ks at the n places from lo on: it is packed, with the same cards in the same slots
--
--   SavesIn m p n         if the row has n cards from the place p on, what is put aside is that part of it
--   Saves                 what is put aside is the slots at n seats from p on; what was put aside for the others stays. So it is the part of a row without
--                         gaps; and of each row, once it is packed
--   ReseatsIn m lo n      if the row has n cards from the place lo on, and the slots put aside are theirs in some order, they stand there in that order, and the
--                         row is packed
--   Reseats               so it is of a row without gaps; and of each row, once it is packed
use Rattle.std.specs.Prelude.{◌≡◌, ℕ, ◌+◌, ◌<◌, ◌≤◌, true, ◌⊎◌, List, ◌++◌, map, length, take, drop}
use Rattle.std.specs.List.{range_with_len}
use Rattle.order.specs.declared.board.TheConstants.{CARDS}
use Rattle.order.specs.Lists.{has, distinct}
use Rattle.memory.specs.Columns.{cell}
use Rattle.row.specs.declared.layout.TheConstants.{SLOTS}
use Rattle.row.specs.Meaning.{count, row_of, used, IsRow}
use Rattle.row.specs.Moves.{packed}
use Rattle.batch.specs.declared.layout.TheConstants.{SPARE}
use Rattle.batch.specs.Dense.{Dense}
use Rattle.batch.specs.Seating.{saved, reseated}

pub record Seated (m m' : List ℕ) (lo n : ℕ) (ks : List ℕ) : Type 0 where
  pub dense : Dense m'
  pub row_is : row_of m' ≡ take lo (row_of m) ++ (ks ++ drop (lo + n) (row_of m))
  pub same_used : (s : ℕ) → used m' s ≡ used m s

abbrev pub SavesIn : List ℕ → ℕ → ℕ → Type 0
SavesIn m p n = p + n ≤ count m → map (cell (saved n m p) SPARE) (range_with_len p n) ≡ take n (drop p (row_of m))

abbrev pub Saves : Type 0
Saves =
    (m : List ℕ) (p n : ℕ) → SPARE.base + SPARE.size ≤ length m →
    ((q : ℕ) → p ≤ q → q < p + n → q < CARDS → cell (saved n m p) SPARE q ≡ cell m SLOTS q)
    × ((q : ℕ) → (q < p) ⊎ (p + n ≤ q) → cell (saved n m p) SPARE q ≡ cell m SPARE q)
    × (Dense m → SavesIn m p n) × (IsRow m → SavesIn (packed m) p n)

abbrev pub ReseatsIn : List ℕ → ℕ → ℕ → Type 0
ReseatsIn m lo n =
    lo + n ≤ count m → distinct (map (cell m SPARE) (range_with_len lo n)) ≡ true →
    ((s : ℕ) → has (map (cell m SPARE) (range_with_len lo n)) s ≡ has (map (cell m SLOTS) (range_with_len lo n)) s) →
    Seated m (reseated n m lo) lo n (map (cell m SPARE) (range_with_len lo n))

abbrev pub Reseats : Type 0
Reseats = ((m : List ℕ) (lo n : ℕ) → Dense m → ReseatsIn m lo n) × ((m : List ℕ) (lo n : ℕ) → IsRow m → ReseatsIn (packed m) lo n)

-- A packed row.
--
--   Dense m   the row is sound, and just the first seats are taken: so a card's seat is its place, and the row has the slots at the first seats
use Rattle.std.specs.Prelude.{◌≡◌, ℕ, List, nat_lt}
use Rattle.row.specs.Meaning.{count, taken, IsRow}

pub record Dense (m : List ℕ) : Type 0 where
  pub is_row : IsRow m
  pub full : (p : ℕ) → taken m p ≡ nat_lt p (count m)

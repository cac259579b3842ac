-- A part of the lent memory with its numbers in their order. These are definitions: nothing is assumed.
--   sorted_part m low high   m with its numbers from low on, below high, in their order; m where there are no such
use Rattle.std.specs.Prelude.{ℕ, cond, ◌&&◌, List, ◌++◌, length, take, drop, nat_le}
use Rattle.std.specs.List.{between}
use Rattle.batch.specs.Rule.{sorted}

unfoldable pub sorted_part : List ℕ → ℕ → ℕ → List ℕ
sorted_part m low high = cond (nat_le low high && nat_le high (length m)) (take low m ++ (sorted (between low high m) ++ drop high m)) m

use Rattle.std.proofs.Common.{sym, arith}
use Rattle.std.proofs.lemmas.List.Sorted.{IsNonDecreasingBy-from_sort}
use Rattle.batch.proofs.PartSorted.{part_sorted, no_part}
use Rattle.batch.proofs.sorting.sort_part.Goals as goal

pub returns-then-high-le-MEMORY : goal.returns-then-high-le-MEMORY
returns-then-high-le-MEMORY c =
    let s = c.sort_unstable.ensures in
    part_sorted c.args.memory.now c.args.low c.args.high (omega arith) (omega arith) c.sort_unstable.new.self s.permutation
    (IsNonDecreasingBy-from_sort (λ x. x) _ s.sorted)

pub returns-else-low-high : goal.returns-else-low-high
returns-else-low-high c = sym (no_part c.args.memory.now c.args.low c.args.high (λ l h. grind arith))

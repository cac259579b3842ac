use Rattle.std.proofs.Common.{◌≡◌, drop}
use Rattle.batch.specs.Joining.{tried}
use Rattle.batch.proofs.joining.join_all.Given as goal

abbrev pub invariant-loop-count : goal.invariant-loop-count
invariant-loop-count l = (tried l.memory (drop l.count-counter l.batch) l.count-counter ≡ tried l.initial.memory l.batch 0) × (l.out ≡ l.initial.out)

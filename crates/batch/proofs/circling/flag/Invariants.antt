use Rattle.std.proofs.Common.{◌≡◌, ◌-◌}
use Rattle.batch.specs.Circling.{flagged}
use Rattle.batch.proofs.circling.flag.Given as goal

abbrev pub invariant-loop-i : goal.invariant-loop-i
invariant-loop-i l = flagged (l.n - l.i) l.memory l.i ≡ flagged l.n l.initial.memory 0

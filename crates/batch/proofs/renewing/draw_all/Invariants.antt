use Rattle.std.proofs.Common.{◌≡◌, ◌-◌}
use Rattle.batch.specs.Renewing.{renewing}
use Rattle.batch.proofs.renewing.draw_all.Given as goal

abbrev pub invariant-loop-i : goal.invariant-loop-i
invariant-loop-i l = renewing (l.n - l.i) l.memory l.i ≡ renewing l.n l.initial.memory 0

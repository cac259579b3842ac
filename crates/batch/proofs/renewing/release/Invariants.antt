use Rattle.std.proofs.Common.{◌≡◌, ◌-◌}
use Rattle.batch.specs.Renewing.{released}
use Rattle.batch.proofs.renewing.release.Given as goal

abbrev pub invariant-loop-turn : goal.invariant-loop-turn
invariant-loop-turn l = released (l.turns - l._turn) l.memory l.place ≡ released l.turns l.initial.memory l.slot

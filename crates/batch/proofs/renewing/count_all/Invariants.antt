use Rattle.std.proofs.Common.{◌≡◌, ◌-◌}
use Rattle.links.specs.declared.layout.TheConstants.{ENTRIES, AGE, ALL}
use Rattle.batch.specs.Along.{along}
use Rattle.batch.specs.Renewing.{counted}
use Rattle.batch.proofs.renewing.count_all.Given as goal

abbrev pub invariant-loop-turn : goal.invariant-loop-turn
invariant-loop-turn l = along AGE counted (ENTRIES - l._turn) l.memory l.place ≡ along AGE counted ENTRIES l.initial.memory ALL

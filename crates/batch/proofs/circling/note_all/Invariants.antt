use Rattle.std.proofs.Common.{◌≡◌, ◌-◌}
use Rattle.links.specs.declared.layout.TheConstants.{ENTRIES, AGE, ALL}
use Rattle.batch.specs.Along.{along}
use Rattle.batch.specs.Circling.{noted}
use Rattle.batch.proofs.circling.note_all.Given as goal

abbrev pub invariant-loop-turn : goal.invariant-loop-turn
invariant-loop-turn l = along AGE noted (ENTRIES - l._turn) l.memory l.place ≡ along AGE noted ENTRIES l.initial.memory ALL

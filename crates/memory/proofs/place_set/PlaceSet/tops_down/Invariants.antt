use Rattle.std.proofs.Common.{◌≡◌}
use Rattle.memory.specs.PlaceSets.{tops_down}
use Rattle.memory.proofs.place_set.PlaceSet.tops_down.Given as goal

abbrev pub invariant-loop-top : goal.invariant-loop-top
invariant-loop-top l = tops_down l.memory l.self.column l.top ≡ tops_down l.memory l.self.column l.tops

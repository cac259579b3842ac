use Rattle.std.proofs.Common.{◌≡◌, ◌-◌}
use Rattle.memory.specs.declared.place_set.TheConstants.{TOPS}
use Rattle.memory.specs.PlaceSets.{tops_up}
use Rattle.memory.proofs.place_set.PlaceSet.tops_up.Given as goal

abbrev pub invariant-loop-top : goal.invariant-loop-top
invariant-loop-top l = tops_up (TOPS - l.top) l.memory l.self.column l.top ≡ tops_up (TOPS - l.first) l.memory l.self.column l.first

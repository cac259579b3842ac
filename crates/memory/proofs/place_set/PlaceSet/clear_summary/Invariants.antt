use Rattle.std.proofs.Common.{◌≡◌, ◌-◌, [], ◌∷◌}
use Rattle.memory.specs.declared.place_set.TheConstants.{TOPS}
use Rattle.memory.specs.Footprints.{Writes}
use Rattle.memory.specs.PlaceSets.{untopped}
use Rattle.memory.proofs.place_set.PlaceSet.clear_summary.Given as goal

abbrev pub invariant-loop-top : goal.invariant-loop-top
invariant-loop-top l =
    (untopped (TOPS - l.top) l.memory l.self.column l.top ≡ untopped TOPS l.initial.memory l.self.column 0)
    × Writes (l.self.column ∷ []) l.initial.memory l.memory

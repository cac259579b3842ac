use Rattle.std.proofs.Common.{◌≡◌, ◌-◌, [], ◌∷◌}
use Rattle.memory.specs.declared.place_set.TheConstants.{WORDS}
use Rattle.memory.specs.Footprints.{Writes}
use Rattle.memory.specs.PlaceSets.{cleared}
use Rattle.memory.proofs.place_set.PlaceSet.clear.Given as goal

abbrev pub invariant-loop-turn : goal.invariant-loop-turn
invariant-loop-turn l =
    (cleared (WORDS - l._turn) l.memory l.self.column l.word ≡ cleared WORDS l.initial.memory l.self.column 0)
    × Writes (l.self.column ∷ []) l.initial.memory l.memory

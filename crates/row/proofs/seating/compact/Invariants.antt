use Rattle.std.proofs.Common.{◌≡◌, ◌-◌, ◌≤◌, []}
use Rattle.std.specs.Prelude.{◌∷◌}
use Rattle.memory.specs.Footprints.{Writes}
use Rattle.row.specs.declared.layout.TheConstants.{SLOTS, SEATS, TAKEN}
use Rattle.row.specs.Meaning.{ending}
use Rattle.row.specs.Moves.{packed_from}
use Rattle.row.proofs.seating.compact.Given as goal

abbrev pub invariant-loop-seat : goal.invariant-loop-seat
invariant-loop-seat l = record {
  model : packed_from (ending l.initial.memory - l.seat) l.memory l.seat l.next ≡ packed_from (ending l.initial.memory) l.initial.memory 0 0;
  below : l.next ≤ l.seat;
  wrote : Writes (SLOTS ∷ SEATS ∷ TAKEN ∷ []) l.initial.memory l.memory;
}

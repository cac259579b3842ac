use Rattle.std.proofs.Common.{◌≡◌, ◌-◌, length}
use Rattle.row.specs.declared.layout.TheConstants.{SEATS_MOST}
use Rattle.row.specs.Telling.{tells}
use Rattle.row.proofs.telling.tell_past.Given as goal

abbrev pub invariant-loop-told : goal.invariant-loop-told
invariant-loop-told l = record {
  long : length l.out ≡ length l.initial.out;
  same : tells (l.n - l.told) l.memory SEATS_MOST l.told l.out ≡ tells (l.n - l.at) l.memory SEATS_MOST l.at l.initial.out;
}

use Rattle.std.proofs.Common.{◌≡◌, ◌-◌, [], ◌∷◌}
use Rattle.search.proofs.Common.{CARDS, Writes, SLOTS, SEATS, both_first, dealt}
use Rattle.search.proofs.settling.deal.Given as goal

abbrev pub invariant-loop-i : goal.invariant-loop-i
invariant-loop-i l = record {
  is : dealt (CARDS - l.i) l.memory l.next l.i ≡ dealt CARDS l.initial.memory (both_first l.initial.memory) 0;
  wrote : Writes (SLOTS ∷ SEATS ∷ []) l.initial.memory l.memory;
}

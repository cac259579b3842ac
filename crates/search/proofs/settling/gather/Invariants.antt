use Rattle.std.proofs.Common.{◌≡◌, ◌+◌, ◌-◌, [], ◌∷◌}
use Rattle.search.proofs.Common.{CARDS, Writes, CHOSEN, gathered, gathers}
use Rattle.search.proofs.settling.gather.Given as goal

abbrev pub invariant-loop-end : goal.invariant-loop-end
invariant-loop-end l = record {
  is : gathered (l.from + CARDS - l.end) l.memory l.set.column l.next l.end ≡ gathers l.initial.memory l.set.column l.from;
  wrote : Writes (CHOSEN ∷ []) l.initial.memory l.memory;
}

use Rattle.search.proofs.Common.{cell, IDS}
use Rattle.search.proofs.Joining.{Walked}
use Rattle.search.proofs.way.show_trail.Given as goal

abbrev pub invariant-loop-i : goal.invariant-loop-i
invariant-loop-i l = Walked (cell l.memory l.by) (cell l.memory IDS) l.last l.first l.initial.out l.out l.i l.slot

use Rattle.std.proofs.Common.{◌≡◌, ◌++◌, map, take, drop}
use Rattle.memory.specs.Columns.{cell}
use Rattle.row.specs.declared.layout.TheConstants.{IDS}
use Rattle.batch.specs.MakingAnew.{new_row}
use Rattle.batch.proofs.making_anew.show_row.Given as goal

abbrev pub invariant-loop-i : goal.invariant-loop-i
invariant-loop-i l = l.out ≡ map (cell l.memory IDS) (take l.i (new_row l.memory l.n)) ++ drop l.i l.initial.out

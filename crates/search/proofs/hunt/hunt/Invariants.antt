use Rattle.std.proofs.Common.{◌≡◌, ◌-◌}
use Rattle.search.proofs.Common.{Writes, searched, hunted}
use Rattle.search.specs.declared.hunt.TheConstants.{TURNS}
use Rattle.search.proofs.hunt.hunt.Given as goal

abbrev pub invariant-loop-turn : goal.invariant-loop-turn
invariant-loop-turn l = record {
  is : hunted (TURNS - l._turn) l.memory l.part l.near l.far ≡ hunted TURNS l.initial.memory l.part l.initial.near l.initial.far;
  wrote : Writes searched l.initial.memory l.memory;
}

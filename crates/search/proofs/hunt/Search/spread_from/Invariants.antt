use Rattle.std.proofs.Common.{◌≡◌, ◌-◌}
use Rattle.search.proofs.Common.{Writes, searched, spreading}
use Rattle.search.proofs.hunt.Search.spread_from.Given as goal

abbrev pub invariant-loop-i : goal.invariant-loop-i
invariant-loop-i l = record {
  is : spreading (l.fuel - l.i) l.memory l.self.side l.self.part l.slot l.place ≡ spreading l.fuel l.initial.memory l.self.side l.self.part l.slot l.slot;
  wrote : Writes searched l.initial.memory l.memory;
}

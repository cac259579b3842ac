use Rattle.std.proofs.Common.{◌≡◌, ◌-◌}
use Rattle.order.specs.declared.board.TheConstants.{CARDS}
use Rattle.row.specs.Lookup.{bucket, sought}
use Rattle.row.proofs.lookup.seek.Given as goal

abbrev pub invariant-loop-step : goal.invariant-loop-step
invariant-loop-step l = sought (CARDS - l._step) l.memory l.pointer l.card ≡ sought CARDS l.memory (bucket l.card) l.card

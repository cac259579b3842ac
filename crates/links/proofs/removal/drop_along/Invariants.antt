use Rattle.std.proofs.Common.{◌≡◌, ◌-◌}
use Rattle.links.specs.declared.layout.TheConstants.{ENTRIES}
use Rattle.links.specs.Entries.{dropped}
use Rattle.links.proofs.removal.drop_along.Given as goal

abbrev pub invariant-loop-step : goal.invariant-loop-step
invariant-loop-step l = dropped (ENTRIES - l._step) l.along l.across l.memory l.place ≡ dropped ENTRIES l.initial.along l.initial.across l.initial.memory l.slot

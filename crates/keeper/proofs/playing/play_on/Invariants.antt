use Rattle.std.proofs.Common.{◌≡◌, ◌-◌}
use Rattle.keeper.specs.Playing.{played_on}
use Rattle.keeper.proofs.playing.play_on.Given as goal

abbrev pub invariant-loop-step : goal.invariant-loop-step
invariant-loop-step l = played_on (2 - l._step) l.memory l.answer l.out l.shown ≡ played_on 2 l.initial.memory l.initial.answer l.initial.out l.initial.shown

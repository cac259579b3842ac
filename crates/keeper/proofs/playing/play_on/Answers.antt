use Rattle.keeper.proofs.PlayedOn.{ends, last_ends}
use Rattle.keeper.proofs.playing.play_on.Goals.{else-loop-step-test, then-loop-step-test+in_default}
use Rattle.keeper.proofs.playing.play_on.Goals as goal

pub returns : goal.returns
returns c =
    let l = c.loop-step in
    elim c.loop-step-test.branch [
      | else-loop-step-test w ↦ last_ends l._step l.memory l.answer l.out l.shown _ _ w.loop-step-test.false l.invariant c.end.ensures
      | then-loop-step-test+in_default w ↦
          ends l._step l.memory l.answer l.out l.shown _ _ _ w.shown_then.ensures w.in_default.is l.invariant c.end.ensures
    ]

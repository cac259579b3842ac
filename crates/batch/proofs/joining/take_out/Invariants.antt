use Rattle.std.proofs.Common.{◌≡◌, take}
use Rattle.batch.specs.Joining.{taken_out}
use Rattle.batch.proofs.joining.take_out.Given as goal

abbrev pub invariant-loop-link : goal.invariant-loop-link
invariant-loop-link l = l.memory ≡ taken_out l.initial.memory (take l.link-index l.batch)

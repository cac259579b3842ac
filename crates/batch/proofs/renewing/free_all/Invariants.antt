use Rattle.std.proofs.Common.{◌≡◌, ◌-◌}
use Rattle.batch.specs.Renewing.{freed_all}
use Rattle.batch.proofs.renewing.free_all.Given as goal

abbrev pub invariant-loop-place : goal.invariant-loop-place
invariant-loop-place l = freed_all (l.place-end - l.place) l.memory l.place ≡ freed_all l.place-end l.initial.memory 0

use Rattle.std.proofs.Common.{◌≡◌, take}
use Rattle.batch.specs.Loading.{put_all}
use Rattle.batch.proofs.loading.put_all.Given as goal

abbrev pub invariant-loop-link : goal.invariant-loop-link
invariant-loop-link l = l.memory ≡ put_all l.initial.memory (take l.link-index l.links)

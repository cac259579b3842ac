use Rattle.batch.proofs.Reseating.{reseats}
use Rattle.batch.proofs.memory_laws.reseats_stands.Goals as goal

pub returns : goal.returns
returns c = reseats

use Rattle.batch.proofs.Tries.{joins}
use Rattle.batch.proofs.trying_laws.joins_stands.Goals as goal

pub returns : goal.returns
returns c = joins

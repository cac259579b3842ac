use Rattle.batch.proofs.Tries.{tries}
use Rattle.batch.proofs.trying_laws.tries_stands.Goals as goal

pub returns : goal.returns
returns c = tries

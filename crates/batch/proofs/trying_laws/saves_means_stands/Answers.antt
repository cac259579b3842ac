use Rattle.batch.proofs.ReadyAgain.{saves_means}
use Rattle.batch.proofs.trying_laws.saves_means_stands.Goals as goal

pub returns : goal.returns
returns c = saves_means

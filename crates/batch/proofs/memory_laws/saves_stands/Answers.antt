use Rattle.batch.proofs.Saving.{saves}
use Rattle.batch.proofs.memory_laws.saves_stands.Goals as goal

pub returns : goal.returns
returns c = saves

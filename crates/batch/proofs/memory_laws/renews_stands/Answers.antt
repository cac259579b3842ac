use Rattle.batch.proofs.MadeAnew.{renews}
use Rattle.batch.proofs.memory_laws.renews_stands.Goals as goal

pub returns : goal.returns
returns c = renews

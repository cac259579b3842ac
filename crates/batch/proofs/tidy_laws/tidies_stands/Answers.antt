use Rattle.batch.proofs.Tidies.{tidies}
use Rattle.batch.proofs.tidy_laws.tidies_stands.Goals as goal

pub returns : goal.returns
returns c = tidies

use Rattle.batch.proofs.Writing.{tidies_only}
use Rattle.batch.proofs.tidy_laws.tidies_only_stands.Goals as goal

pub returns : goal.returns
returns c = tidies_only

use Rattle.batch.proofs.InOrder.{arranges}
use Rattle.batch.proofs.tidy_laws.arranges_stands.Goals as goal

pub returns : goal.returns
returns c = arranges

use Rattle.batch.proofs.SeveralRows.{several_single}
use Rattle.batch.proofs.several_laws.several_single_stands.Goals as goal

pub returns : goal.returns
returns c = several_single

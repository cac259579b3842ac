use Rattle.batch.proofs.Spanning.{spans}
use Rattle.batch.proofs.check_laws.spans_stands.Goals as goal

pub returns : goal.returns
returns c = spans

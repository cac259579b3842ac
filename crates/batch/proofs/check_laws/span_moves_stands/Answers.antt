use Rattle.batch.proofs.Spanning.{span_moves}
use Rattle.batch.proofs.check_laws.span_moves_stands.Goals as goal

pub returns : goal.returns
returns c = span_moves

use Rattle.batch.proofs.Undoing.{takes_out}
use Rattle.batch.proofs.trying_laws.takes_out_stands.Goals as goal

pub returns : goal.returns
returns c = takes_out

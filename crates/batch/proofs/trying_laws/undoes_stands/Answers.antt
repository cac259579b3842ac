use Rattle.batch.proofs.Undoing.{undoes}
use Rattle.batch.proofs.trying_laws.undoes_stands.Goals as goal

pub returns : goal.returns
returns c = undoes

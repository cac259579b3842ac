use Rattle.batch.proofs.Undoing.{undoes_none}
use Rattle.batch.proofs.trying_laws.undoes_none_stands.Goals as goal

pub returns : goal.returns
returns c = undoes_none

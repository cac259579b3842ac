use Rattle.row.proofs.Beginning.{begins}
use Rattle.row.proofs.theory.begins_stands.Goals as goal

pub returns : goal.returns
returns c = begins

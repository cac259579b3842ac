use Rattle.order.proofs.Renames.{renames}
use Rattle.order.proofs.theory.renames_stands.Goals as goal

pub returns : goal.returns
returns c = renames

use Rattle.order.proofs.Leading.{leads_on}
use Rattle.order.proofs.theory.leads_on_stands.Goals as goal

pub returns : goal.returns
returns c = leads_on

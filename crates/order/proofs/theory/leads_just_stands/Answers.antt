use Rattle.order.proofs.Leading.{leads_just}
use Rattle.order.proofs.theory.leads_just_stands.Goals as goal

pub returns : goal.returns
returns c = leads_just

use Rattle.order.proofs.Replies.{broken_just}
use Rattle.order.proofs.theory.broken_just_stands.Goals as goal

pub returns : goal.returns
returns c = broken_just

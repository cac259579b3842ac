use Rattle.std.proofs.Common.{refl}
use Rattle.memory.proofs.Footprints.{less, after}
use Rattle.row.proofs.cards.goes.Goals as goal

pub returns-clause-wrote : goal.returns-clause-wrote
returns-clause-wrote c =
    after _ _ _ _ _ refl c.tidy.ensures.wrote (after _ _ _ _ _ refl c.leave.ensures.wrote (less _ _ _ _ refl c.withdraw.ensures.wrote))

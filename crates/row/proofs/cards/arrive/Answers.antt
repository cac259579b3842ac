use Rattle.std.proofs.Common.{refl}
use Rattle.memory.proofs.Footprints.{less, after}
use Rattle.row.proofs.cards.arrive.Goals as goal

pub returns-clause-wrote : goal.returns-clause-wrote
returns-clause-wrote c =
    after _ _ _ _ _ refl c.set.ensures.wrote
    (after _ _ _ _ _ refl c.join.ensures.wrote (after _ _ _ _ _ refl c.enter.ensures.wrote (less _ _ _ _ refl c.take_slot.ensures.wrote)))

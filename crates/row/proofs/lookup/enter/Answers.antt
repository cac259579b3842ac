use Rattle.std.proofs.Common.{refl}
use Rattle.memory.proofs.Footprints.{less, after}
use Rattle.row.proofs.lookup.enter.Goals as goal

pub returns-clause-wrote : goal.returns-clause-wrote
returns-clause-wrote c =
    after _ _ _ _ _ refl c.set-3.ensures.wrote (after _ _ _ _ _ refl c.set-2.ensures.wrote (less _ _ _ _ refl c.set.ensures.wrote))

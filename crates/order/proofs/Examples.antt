-- The example of three cards, by computation.
use Rattle.std.proofs.Common.{refl}
use Rattle.order.specs.Lists.{every, any, filter, place, distinct, same, with_all, flat}
use Rattle.order.specs.Board.{nexts, rounds}
use Rattle.order.specs.Theory.{LittleIsLoose}

pub little_is_loose : LittleIsLoose
unfolding every any filter place distinct same with_all nexts flat rounds
little_is_loose = (refl, refl, refl, refl, refl, refl)

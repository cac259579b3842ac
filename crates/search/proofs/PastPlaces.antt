-- A place past the last one can't be added.
use Rattle.std.proofs.Common.{arith}
use Rattle.std.proofs.lemmas.Bool.Decides.{nat_tests}
use Rattle.memory.specs.PlaceSets.{fresh, added}
use Rattle.memory.proofs.Adding.{marked_past}
use Rattle.search.specs.MarkLaws.{AddingPast}

pub adding_past : AddingPast
unfolding AddingPast fresh added
adding_past m c p h = (grind (arith, nat_tests), grind (arith, nat_tests), marked_past m c p h)

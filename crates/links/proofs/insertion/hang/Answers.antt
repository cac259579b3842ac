use Rattle.memory.proofs.Footprints.{footprints}
use Rattle.links.proofs.insertion.hang.Goals as goal

pub returns-clause-wrote : goal.returns-clause-wrote
returns-clause-wrote c = search footprints

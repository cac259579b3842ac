use Rattle.keeper.proofs.PlayedOn.{plays_went}
use Rattle.keeper.proofs.playing.play.Goals as goal

pub returns-clause-went : goal.returns-clause-went
returns-clause-went c = plays_went _ _ _ _ _ _ _ _ _ c.step_as-first.ensures c.play_on.ensures

use Rattle.batch.proofs.PlayedRun.{shows_right}
use Rattle.batch.proofs.playing.play.Goals as goal

pub returns-clause-shows : goal.returns-clause-shows
returns-clause-shows c = shows_right

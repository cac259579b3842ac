use Rattle.batch.proofs.PlayedRun.{shows_right}
use Rattle.batch.proofs.theory.plays_shows_stands.Goals as goal

pub returns : goal.returns
returns c = shows_right

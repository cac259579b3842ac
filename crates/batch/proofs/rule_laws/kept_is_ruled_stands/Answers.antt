use Rattle.batch.proofs.RuleRounds.{kept_is_ruled}
use Rattle.batch.proofs.rule_laws.kept_is_ruled_stands.Goals as goal

pub returns : goal.returns
returns c = kept_is_ruled

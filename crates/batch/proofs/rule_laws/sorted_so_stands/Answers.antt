use Rattle.batch.proofs.Sorts.{sorted_so}
use Rattle.batch.proofs.rule_laws.sorted_so_stands.Goals as goal

pub returns : goal.returns
returns c = sorted_so

use Rattle.std.proofs.Common.{rules, arith}
use Rattle.batch.proofs.MakesAnew.{made_long}
use Rattle.batch.proofs.making_anew.make_anew.Goals as goal

pub returns-clause-made : goal.returns-clause-made
returns-clause-made c =
    made_long c.args.memory.now c.in-Some.memory.now c.args.row.now c.args.links.now c.args.out.now (search rules) c.make.result c.make.new.memory c.make.new.out
    (search rules) (omega arith) c.make.ensures

use Rattle.std.proofs.Common.{◌+◌, arith}
use Rattle.row.proofs.Halving.{below_is, upper, lower}
use Rattle.row.proofs.telling.half.Goals as goal

pub returns-then-below-wanted-clause-law : goal.returns-then-below-wanted-clause-law
returns-then-below-wanted-clause-law c =
    let e = below_is c.args.bits (c.args.at + c.args.span) (omega arith) in
    upper c.args.bits c.args.wanted c.args.at c.args.span (omega arith)

pub returns-else-below-wanted-clause-law : goal.returns-else-below-wanted-clause-law
returns-else-below-wanted-clause-law c =
    let e = below_is c.args.bits (c.args.at + c.args.span) (omega arith) in
    lower c.args.bits c.args.wanted c.args.at c.args.span (omega arith)

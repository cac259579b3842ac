use Rattle.std.proofs.Common.{arith}
use Rattle.row.proofs.Halving.{whole}
use Rattle.row.proofs.telling.nth_bit.Goals as goal

pub returns-clause-law : goal.returns-clause-law
returns-clause-law c h =
    c.half.ensures.law (c.half-at-5.ensures.law (c.half-at-4.ensures.law (c.half-at-3.ensures.law (c.half-at-2.ensures.law
    (c.half-at.ensures.law (whole c.args.bits c.args.wanted (omega arith) h))))))

use Rattle.std.proofs.Common.{arith}
use Rattle.search.proofs.Joining.{walked_more, walked_last, walked_end}
use Rattle.search.proofs.way.show_trail.Goals as goal

pub returns-then-slot-last : goal.returns-then-slot-last
returns-then-slot-last c =
    let w = walked_last _ _ _ _ _ _ _ _ c.loop-i.invariant _ (omega arith) c.if-slot-last.true c.get.ensures in
    record { is = w.0; out = w.1; within = omega arith }

pub loop-i-preserved : goal.loop-i-preserved
loop-i-preserved c =
    walked_more _ _ _ _ _ _ _ _ c.loop-i.invariant _ _ (omega arith) c.if-slot-last.false c.get.ensures c.get-slot.ensures

pub returns : goal.returns
returns c =
    let w = walked_end _ _ _ _ _ _ _ _ c.loop-i.invariant _ (omega arith) (omega arith) c.loop-i.auto.out in
    record { is = w.0; out = w.1; within = omega arith }

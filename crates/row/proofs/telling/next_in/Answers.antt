use Rattle.std.proofs.Common.{arith}
use Rattle.std.proofs.lemmas.Bool.{eq-eqb, ne_eqb}
use Rattle.row.proofs.Words.{first_taken, taken_low}
use Rattle.row.proofs.telling.next_in.Goals as goal

pub returns-then-rest-eq0 : goal.returns-then-rest-eq0
returns-then-rest-eq0 c r l u =
    let f = first_taken c.args.memory.now c.args.seat c.get.result c.get.ensures (omega arith) in
    (rw (eq-eqb _ _ c.if-rest-eq0.true) at f) r (l, omega arith)

pub overflow_add-result : goal.overflow_add-result
overflow_add-result c =
    let f = rw (ne_eqb _ _ c.if-rest-eq0.false) at (first_taken c.args.memory.now c.args.seat c.get.result c.get.ensures (omega arith)) in
    let l = taken_low c.args.memory.now _ f.1 in
    omega arith

pub returns : goal.returns
returns c =
    let f = rw (ne_eqb _ _ c.if-rest-eq0.false) at (first_taken c.args.memory.now c.args.seat c.get.result c.get.ensures (omega arith)) in
    (taken_low c.args.memory.now _ f.1, f.1, f.0.0, λ r l u. f.2 r (l, omega arith) u)

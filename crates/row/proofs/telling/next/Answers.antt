use Rattle.std.proofs.Common.{◌≤◌, sym, ◌∙◌, arith}
use Rattle.row.specs.declared.layout.TheConstants.{SEATS_MOST}
use Rattle.row.specs.Meaning.{taken}
use Rattle.row.specs.Laws.{Next}
use Rattle.row.proofs.Firsts.{next_here, next_is}
use Rattle.row.proofs.telling.next.Goals as goal

pub returns-then-is_taken : goal.returns-then-is_taken
returns-then-is_taken c =
    let x = next_here c.args.memory.now c.args.seat (sym c.is_taken.ensures ∙ c.if-is_taken.true) in
    record { is = next_is c.args.memory.now c.args.seat c.args.seat x; law = x }

pub returns : goal.returns
returns c =
    let m = c.args.memory.now in
    let i = c.loop-word.invariant in
    let e : SEATS_MOST ≤ c.loop-word.from = omega arith in
    let x : Next (taken m) c.args.seat SEATS_MOST =
    record { room = omega arith; here = λ l. absurd (omega arith); first = λ r l u. i.gap r l (omega arith); from = λ l. absurd (omega arith) } in
    record { is = next_is m c.args.seat SEATS_MOST x; law = x }

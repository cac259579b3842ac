use Rattle.std.proofs.Common.{sym, ◌∙◌, arith}
use Rattle.memory.proofs.Footprints.{on}
use Rattle.row.specs.Meaning.{ending}
use Rattle.row.proofs.Steps.{packed_taken, packed_free}
use Rattle.row.proofs.seating.compact.Goals.{then-is_taken, else-is_taken}
use Rattle.row.proofs.seating.compact.Goals as goal

pub loop-seat-preserved : goal.loop-seat-preserved
loop-seat-preserved c =
    let i = c.loop-seat.invariant in
    let n = ending c.args.memory.now in
    let m = c.loop-seat.memory in
    elim c.if-is_taken.branch [
      | then-is_taken w ↦ rw (w.memory-is, w.next-is, w.draw.ensures.is) record {
        model = sym (packed_taken n c.loop-seat.seat c.loop-seat.next m (omega arith) (sym c.is_taken.ensures ∙ w.if-is_taken.true)) ∙ i.model;
        below = let b = i.below in omega arith;
        wrote = on _ _ _ _ i.wrote (rw w.draw.ensures.is at w.draw.ensures.wrote);
      }
      | else-is_taken w ↦ rw (w.memory-is, w.next-is) record {
        model = sym (packed_free n c.loop-seat.seat c.loop-seat.next m (omega arith) (sym c.is_taken.ensures ∙ w.if-is_taken.false)) ∙ i.model;
        below = let b = i.below in omega arith;
        wrote = i.wrote;
      }
    ]

use Rattle.std.proofs.Common.{ℕ}
use Rattle.search.proofs.Common.{cell, VIA}
use Rattle.search.specs.Way.{trail, way}
use Rattle.search.proofs.Joining.{turned_front, joined, joined_length}
use Rattle.search.proofs.way.trace.Goals as goal

pub returns : goal.returns
unfolding way
returns c =
    let l = c.show_trail-back.ensures.is in
    let e = turned_front _ _ _ _ l _ _ c.show_trail-back.ensures.out c.reverse.ensures.after in
    let rest = λ (n : ℕ). trail (cell c.args.memory.now VIA) n c.args.link.from c.args.joint.to in
    record {
      is = joined_length _ _ _ _ l rest _ e _ c.show_trail.ensures.is;
      out = joined _ _ _ _ l rest _ e _ _ c.show_trail.ensures.out;
    }

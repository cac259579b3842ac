use Rattle.std.proofs.Common.{ℕ, List, ◌++◌, length, drop, sym, ap, ◌∙◌, arith}
use Rattle.std.proofs.lemmas.Bool.Decides.{nat_tests}
use Rattle.std.proofs.lemmas.List.{length-map}
use Rattle.search.proofs.Common.{CARDS, cell, IDS, VIA}
use Rattle.search.specs.Way.{way, shown}
use Rattle.search.proofs.Joining.{way_few, shown_is, fronted}
use Rattle.search.proofs.way.show.Goals as goal

pub returns-then-out-room : goal.returns-then-out-room
unfolding shown
returns-then-out-room c = record { count = grind (arith, nat_tests); out = grind (arith, nat_tests) }

pub returns : goal.returns
returns c =
    let m = c.args.memory.now in
    let out = c.args.out.now in
    let ws = λ (n : ℕ). way (cell m VIA) n c.args.link c.args.joint in
    let f = fronted _ ws CARDS _ _ _ c.if-out-room.false (way_few (cell m VIA) CARDS c.args.link c.args.joint) c.trace.ensures.is
    c.trace.ensures.out in
    let s = sym (shown_is m c.args.link c.args.joint out c.if-out-room.false) in
    record {
      count = f.0 ∙ sym (length-map (ws CARDS) (cell m IDS)) ∙ ap length s;
      out = f.1 ∙ ap (λ (xs : List ℕ). xs ++ drop c.trace.result out) s;
    }

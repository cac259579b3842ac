use Rattle.std.proofs.Common.{◌≡◌, ◌-◌, ℕ, min, sym, ap, ◌∙◌, arith}
use Rattle.order.specs.declared.board.TheConstants.{CARDS}
use Rattle.batch.specs.Seating.{reseated}
use Rattle.batch.proofs.LoopSteps.{each_end}
use Rattle.batch.proofs.Writing.{reseated_wrote}
use Rattle.batch.proofs.seating.Span.reseat.Goals as goal

pub returns-clause-wrote : goal.returns-clause-wrote
unfolding reseated
returns-clause-wrote c =
    let l = c.loop-place in
    let m = c.args.memory.now in
    let p = c.args.self.low in
    let e : l.memory ≡ reseated (min c.args.self.high CARDS - p) m p =
    sym (each_end _ c.min-place-end.result l.place l.place l.memory (omega arith)) ∙ l.invariant ∙ ap (λ (n : ℕ). reseated (n - p) m p) c.min-place-end.ensures in
    reseated_wrote m l.memory p c.args.self.high (omega arith) e

use Rattle.std.proofs.Common.{ℕ, List, take, subst}
use Rattle.order.specs.declared.board.TheConstants.{CARDS}
use Rattle.keeper.specs.Answers.{Gives, as_told}
use Rattle.batch.specs.Engine.{heard}
use Rattle.batch.specs.Own.{answer}
use Rattle.batch.proofs.PlayedRun.{took}
use Rattle.batch.proofs.stepping.step_as.Goals as goal

pub returns : goal.returns
returns c =
    let w = c.in-Some.ensures.cases in
    let f = c.in-Some-first_chunk_mut.ensures.cases in
    let h = heard c.args.event c.args.batch.now in
    let t = c.args.telling in
    took t c.args.memory.now h c.args.out.now _ _ _ w.long f.enough
    (subst (λ (m : List ℕ). Gives (as_told t (answer m h)) (take CARDS c.args.out.now) c.hear.result c.hear.new.memory c.hear.new.out) w.same
    (subst (λ (o : List ℕ). Gives (as_told t (answer c.in-Some.memory.now h)) o c.hear.result c.hear.new.memory c.hear.new.out) f.same c.hear.ensures))

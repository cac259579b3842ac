use Rattle.std.proofs.Common.{ℕ, List, take, subst}
use Rattle.keeper.specs.declared.layout.TheConstants.{OUTPUT}
use Rattle.keeper.specs.Answers.{Gives, as_told}
use Rattle.keeper.specs.Own.{answer}
use Rattle.keeper.proofs.Fitting.{took}
use Rattle.keeper.proofs.stepping.step_as.Goals as goal

pub returns : goal.returns
returns c =
    let w = c.in-Some.ensures.cases in
    let f = c.in-Some-first_chunk_mut.ensures.cases in
    took c.args.telling c.args.memory.now c.args.event c.args.out.now _ _ _ w.long f.enough
    (subst (λ (m : List ℕ). Gives (as_told c.args.telling (answer m c.args.event)) (take OUTPUT c.args.out.now) c.hear.result c.hear.new.memory c.hear.new.out)
    w.same
    (subst (λ (o : List ℕ). Gives (as_told c.args.telling (answer c.in-Some.memory.now c.args.event)) o c.hear.result c.hear.new.memory c.hear.new.out)
    f.same c.hear.ensures))

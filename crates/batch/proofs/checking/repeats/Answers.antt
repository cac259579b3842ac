use Rattle.std.proofs.Common.{◌∙◌, rules, tests}
use Rattle.std.proofs.lemmas.Iterator.{YieldsList-from_slice}
use Rattle.std.proofs.lemmas.Iterator.Consumers.{YieldsList-from_enumerate}
use Rattle.std.proofs.lemmas.Iterator.Search.{any_from_yields_List}
use Rattle.batch.proofs.Spanning.{seen, finds_repeats}
use Rattle.batch.proofs.checking.repeats.Goals as goal

pub returns : goal.returns
returns c =
    let m = c.args.memory.now in
    let ls = c.args.batch.now in
    any_from_yields_List (seen m ls) _ _ c.any.result c.any.ensures.ran
    (YieldsList-from_enumerate (YieldsList-from_slice ls (search rules)) (search rules)) (λ x b q k. search (rules, tests))
    ∙ finds_repeats m ls

use Rattle.std.proofs.Common.{not, slice_index, rules, tests, arith}
use Rattle.std.proofs.lemmas.Iterator.{YieldsList-from_slice}
use Rattle.std.proofs.lemmas.Iterator.Search.{position_from_yields_List}
use Rattle.order.specs.Kept.{before}
use Rattle.order.proofs.keeping.first_broken.Goals as goal

pub returns : goal.returns
returns c =
    let row = c.args.row.now in
    let e = position_from_yields_List (λ p. not (before row (slice_index p 0) (slice_index p 1))) _ _ c.position.result c.position.ensures.ran (YieldsList-from_slice c.args.links.now cc) (λ x b q k. search (rules, tests)) in
    grind (arith)

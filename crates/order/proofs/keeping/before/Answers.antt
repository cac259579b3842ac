use Rattle.std.proofs.Common.{eqb, ◌||◌, rules, tests, arith}
use Rattle.std.proofs.lemmas.Iterator.{YieldsList-from_slice}
use Rattle.std.proofs.lemmas.Iterator.Search.{find_from_yields_List}
use Rattle.order.proofs.Firsts.{first_met}
use Rattle.order.proofs.keeping.before.Goals as goal

pub returns : goal.returns
returns c =
    let a = c.args.from in
    let b = c.args.to in
    let f = find_from_yields_List (λ x. eqb x a || eqb x b) c.find.new.self _ c.find.result c.find.ensures.ran (YieldsList-from_slice c.args.row.now cc) (λ x r q k. search (rules, tests)) in
    let m = first_met c.args.row.now a b in
    grind arith

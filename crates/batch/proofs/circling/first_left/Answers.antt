use Rattle.std.proofs.Common.{ℕ, sym, ap, ◌∙◌, Option, rules, tests, arith}
use Rattle.std.proofs.lemmas.Iterator.{YieldsList-from_range, YieldsList-from_map}
use Rattle.std.proofs.lemmas.Iterator.Adapters.{option_map_id}
use Rattle.std.proofs.lemmas.Iterator.Search.{find_from_yields_List}
use Rattle.std.specs.Option.{unwrap_or}
use Rattle.memory.specs.Columns.{cell}
use Rattle.row.specs.declared.layout.TheConstants.{SLOTS}
use Rattle.batch.specs.Circling.{stays, first_left}
use Rattle.batch.proofs.CircleSteps.{finds_left}
use Rattle.batch.proofs.circling.first_left.Goals as goal

pub returns : goal.returns
returns c =
    let m = c.args.memory.now in
    let n = c.row_len.result in
    let f = find_from_yields_List (stays m) _ _ c.find.result c.find.ensures.ran
    (YieldsList-from_map _ (cell m SLOTS) (YieldsList-from_range 0 n n c.map.ensures.source (omega arith)) c.map.ensures.closure (λ x r q k. search (rules, tests)))
    (λ x b q k. search (rules, tests)) in
    c.unwrap_or.ensures ∙ ap (λ (o : Option ℕ). unwrap_or o 0) (sym (option_map_id c.find.result) ∙ f) ∙ finds_left m n 0
    ∙ ap (λ (k : ℕ). first_left k m 0) c.row_len.ensures

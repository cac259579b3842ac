use Rattle.std.proofs.Common.{◌≡◌, sym, ap, ◌∙◌, rules, tests}
use Rattle.std.proofs.lemmas.Iterator.Adapters.{option_map_id}
use Rattle.std.proofs.lemmas.Iterator.Consumers.{YieldsList-from_first}
use Rattle.std.proofs.lemmas.Iterator.Search.{find_from_yields_List}
use Rattle.std.specs.Option.{option_map}
use Rattle.std.specs.Prelude.{◌==◌}
use Rattle.chains.specs.declared.cells.Pointer.{Pointer}
use Rattle.chains.specs.Walks.{walk_left}
use Rattle.links.proofs.lookup.seek.Goals as goal

pub returns : goal.returns
returns c =
    let e : c.map.result ≡ option_map (λ (p : Pointer). p.held) c.find.result = search rules in
    let test = λ (p : Pointer). p.label == c.args.label in
    let f = find_from_yields_List test c.find.new.self _ c.find.result c.find.ensures.ran (YieldsList-from_first (λ x. x) walk_left _ c.walk.ensures.is)
    (λ x b q k. search (rules, tests)) in
    e ∙ ap (option_map (λ (p : Pointer). p.held)) (sym (option_map_id c.find.result) ∙ f)

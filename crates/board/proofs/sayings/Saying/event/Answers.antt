use Rattle.std.proofs.Common.{rules}
use Rattle.std.proofs.lemmas.Iterator.{YieldsList-from_slice, YieldsList-from_map}
use Rattle.std.proofs.lemmas.Iterator.Adapters.{items_from_extend}
use Rattle.board.specs.Sayings.{link_of}
use Rattle.board.proofs.sayings.Saying.event.Goals as goal

pub returns-in_ok-extend-in-Several : goal.returns-in_ok-extend-in-Several
returns-in_ok-extend-in-Several c =
    let all = items_from_extend c.extend.result c.extend.ensures.ran (YieldsList-from_map _ link_of (YieldsList-from_slice c.in-Several.links.now (cc)) c.map.ensures.closure (λ x r q k. search rules)) in
    search rules

use Rattle.std.proofs.Common.{◌≡◌, sym, ap, ◌∙◌, rules}
use Rattle.memory.specs.Columns.{cell}
use Rattle.row.specs.declared.layout.TheConstants.{SEATS_MOST, IDS, SLOTS}
use Rattle.row.proofs.Steps.{tells_past}
use Rattle.row.proofs.telling.tell_past.Goals as goal

pub loop-told-preserved : goal.loop-told-preserved
loop-told-preserved c =
    let m = c.args.memory.now in
    let l = c.loop-told in
    let card : c.get-none.result ≡ cell m IDS (cell m SLOTS SEATS_MOST) = c.get-none.ensures ∙ ap (cell m IDS) c.get.ensures in
    record { long = search rules; same = rw card (sym (tells_past c.args.n l.told m l.out c.loop-told-test.true) ∙ l.invariant.same) }

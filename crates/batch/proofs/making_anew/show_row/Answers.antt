use Rattle.std.proofs.Common.{◌≡◌, ℕ, length, get_or, set, sym, ap, ◌∙◌, arith}
use Rattle.std.proofs.lemmas.List.FromFn.{length-map-range_with_len, get_or-map-range_with_len}
use Rattle.memory.specs.Columns.{cell}
use Rattle.row.specs.declared.layout.TheConstants.{IDS}
use Rattle.order.proofs.Fronts.{front_more, front_all}
use Rattle.search.specs.Way.{over}
use Rattle.batch.specs.declared.layout.TheConstants.{SPARE}
use Rattle.batch.specs.MakingAnew.{new_row}
use Rattle.batch.proofs.making_anew.show_row.Goals as goal

pub loop-i-preserved : goal.loop-i-preserved
loop-i-preserved c =
    let l = c.loop-i in
    let m = c.args.memory.now in
    let ks = new_row m c.args.n in
    let g : get_or ks l.i 0 ≡ cell m SPARE l.i = get_or-map-range_with_len (cell m SPARE) 0 c.args.n l.i l.i 0 (omega arith) (omega arith) in
    let n : length ks ≡ c.args.n = length-map-range_with_len (cell m SPARE) 0 c.args.n in
    ap (set l.out l.i) (c.get.ensures ∙ ap (cell m IDS) (c.get-slot.ensures ∙ sym g))
    ∙ front_more (cell m IDS) ks c.args.out.now l.out l.i (omega arith) (omega arith) l.invariant

pub returns : goal.returns
returns c =
    let l = c.loop-i in
    let m = c.args.memory.now in
    let ks = new_row m c.args.n in
    let n : length ks ≡ c.args.n = length-map-range_with_len (cell m SPARE) 0 c.args.n in
    front_all (cell m IDS) ks c.args.out.now l.out l.i (omega arith) (omega arith) l.invariant
    ∙ ap (λ (k : ℕ). over m ks k c.args.out.now) n

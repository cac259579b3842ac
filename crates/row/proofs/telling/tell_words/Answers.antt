use Rattle.std.proofs.Common.{◌≤◌, sym, ◌∙◌, arith}
use Rattle.row.specs.declared.layout.TheConstants.{SEATS_MOST}
use Rattle.row.proofs.Firsts.{next_past}
use Rattle.row.proofs.Steps.{tells_end, tells_from}
use Rattle.row.proofs.telling.tell_words.Goals as goal

pub returns-then-told-n-clause-on : goal.returns-then-told-n-clause-on
returns-then-told-n-clause-on c =
    let m = c.args.memory.now in
    let o = c.tell_word-told.new.out in
    let n = c.args.n in
    sym c.loop-word.invariant.same ∙ c.tell_word-told.ensures.on ∙ tells_end n c.tell_word-told.result _ m o (omega arith) ∙ sym (tells_end n n SEATS_MOST m o (omega arith))

pub returns-clause-on : goal.returns-clause-on
returns-clause-on c =
    let m = c.args.memory.now in
    let i = c.loop-word.invariant in
    let past : SEATS_MOST ≤ c.loop-word.from = let f = i.from_in in omega arith in
    sym i.same ∙ tells_from _ c.loop-word.from SEATS_MOST c.loop-word.told m c.loop-word.out (next_past m c.loop-word.from past ∙ sym (next_past m SEATS_MOST (omega arith)))

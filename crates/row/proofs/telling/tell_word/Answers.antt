use Rattle.std.proofs.Common.{◌≡◌, ◌+◌, ◌*◌, ◌/◌, ◌<◌, sym, ap, ◌∙◌, inl, inr, rules, arith}
use lib.Count.{count_trailing_zeros}
use Rattle.std.proofs.lemmas.Bool.{cases_lt}
use Rattle.memory.specs.Columns.{cell}
use Rattle.row.specs.declared.layout.TheConstants.{IDS, SLOTS}
use Rattle.row.specs.Telling.{next_seat}
use Rattle.row.proofs.Clearing.{some_ones, no_ones, ones_cleared}
use Rattle.row.proofs.Resting.{slot_here, lowest, coming_low, coming_first, coming_behind, coming_none}
use Rattle.row.proofs.Steps.{tells_on, tells_end, tells_from}
use Rattle.row.proofs.telling.tell_word.Goals as goal

pub loop-i-init : goal.loop-i-init
loop-i-init c =
    let coming = c.rest_of-bits.ensures in
    record {
      long = search rules;
      same = search rules;
      coming = coming;
      left = search rules;
      room = λ l. coming_low c.args.memory.now (c.args.seat / 64) c.args.seat _ coming (some_ones _ (omega arith));
      low = omega arith;
      high = omega arith;
    }

pub loop-i-preserved : goal.loop-i-preserved
loop-i-preserved c =
    let i = c.loop-i.invariant in
    let m = c.args.memory.now in
    let w = c.args.seat / 64 in
    let r = c.loop-i.rest in
    let p = c.loop-i.from in
    let at = c.args.at + c.loop-i.i in
    let left = i.left in
    let some : 0 < r = some_ones r (omega arith) in
    let low = coming_low m w p r i.coming some in
    let in_word = (lowest m w p r i.coming some).0 in
    let found : w * 64 + count_trailing_zeros 64 r ≡ next_seat m p = coming_first m w p r i.coming some i.low in
    let card : c.get.result ≡ cell m IDS (cell m SLOTS (next_seat m p)) = c.get.ensures ∙ ap (cell m IDS) (sym (slot_here m _ low) ∙ ap (cell m SLOTS) found) in
    let next : c.args.at + (c.loop-i.i + 1) ≡ at + 1 = omega arith in
    let behind = coming_behind m w p r i.coming some in
    let fewer = ones_cleared 64 r some i.coming.0 in
    record {
      long = search rules;
      same = rw (next, card, found) (sym (tells_on c.args.n at p m c.loop-i.out (omega arith)) ∙ i.same);
      coming = behind;
      left = omega arith;
      room = λ l. coming_low m w _ _ behind (some_ones _ (omega arith));
      low = omega arith;
      high = omega arith;
    }

pub returns-clause-on : goal.returns-clause-on
returns-clause-on c =
    let i = c.loop-i.invariant in
    let m = c.args.memory.now in
    let w = c.args.seat / 64 in
    let end : c.loop-i.i ≡ c.min-more.result = omega arith in
    let told = c.args.at + c.min-more.result in
    sym (rw end at i.same) ∙ elim (cases_lt told c.args.n) [
      | inl l ↦
          let z = no_ones c.loop-i.rest i.coming.0 (let s = i.left in omega arith) in
          tells_from _ c.loop-i.from ((w + 1) * 64) told m c.loop-i.out (coming_none m w c.loop-i.from c.loop-i.rest i.coming z i.low i.high)
      | inr l ↦ tells_end c.args.n told c.loop-i.from m c.loop-i.out l ∙ sym (tells_end c.args.n told ((w + 1) * 64) m c.loop-i.out l)
    ]

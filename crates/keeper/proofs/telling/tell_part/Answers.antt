use Rattle.std.proofs.Common.{◌≡◌, ◌+◌, ◌≤◌, min, true, length, Ok, sym, subst, arith}
use Rattle.std.proofs.lemmas.Bool.Decides.{nat_tests}
use Rattle.order.specs.declared.board.TheConstants.{CARDS}
use Rattle.row.specs.Meaning.{count}
use Rattle.row.specs.Telling.{tellable}
use Rattle.keeper.specs.declared.event.Telling.{Telling}
use Rattle.keeper.specs.declared.event.Act.TheVariants.{Tells}
use Rattle.keeper.specs.Answers.{written_out, as_told, Gives}
use Rattle.keeper.specs.Telling.{told_part}
use Rattle.keeper.proofs.TellingParts.{told_middle}
use Rattle.keeper.proofs.telling.tell_part.Goals.{in-Written, in-PassedOver}
use Rattle.keeper.proofs.telling.tell_part.Goals as goal

pub overflow_add-first : goal.overflow_add-first
overflow_add-first c =
    let e₁ = c.min.ensures in
    let e₂ = c.min-end.ensures in
    let e₃ = c.min-first.ensures in
    let e₄ = c.saturating_sub.ensures in
    let e₅ = c.min-n.ensures in
    omega arith

pub returns : goal.returns
unfolding told_part written_out as_told
returns c =
    let m = c.args.memory.now in
    let out = c.args.out.now in
    let first = c.min-first.result in
    let n = c.min-n.result in
    let k : c.len.result ≡ count m = c.len.ensures.is in
    let e₁ = c.min.ensures in
    let e₂ = c.min-end.ensures in
    let e₃ = c.min-first.ensures in
    let e₄ = c.saturating_sub.ensures in
    let e₅ = c.min-n.ensures in
    let h : first + n ≤ min (count m) CARDS = omega arith in
    let l : CARDS ≤ length out = omega (arith, c.told-out) in
    let b : tellable m first n out ≡ true = grind (arith, nat_tests) in
    let r = c.note_rest.ensures in
    let gives = λ (w : Telling). Gives (as_told w (told_part m c.args.from c.args.to)) out (Ok (Tells first n)) c.note_rest.new.memory c.match-telling.out in
    elim c.match-telling.branch [
      | in-Written w ↦
          let o = w.tell.ensures.out in
          let p = told_middle m first n out b in
          let s = w.out-is in
          subst gives (sym w.in-Written.is) (record { act = cc; after = cc; out = cc })
      | in-PassedOver w ↦
          let s = w.out-is in
          subst gives (sym w.in-PassedOver.is) (record { act = cc; after = cc; out = cc })
    ]

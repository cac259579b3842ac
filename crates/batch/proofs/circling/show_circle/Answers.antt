use Rattle.std.proofs.Common.{◌≡◌, List, ℕ, ap, ◌∙◌, ◌++◌, drop, subst, rules}
use Rattle.order.specs.declared.board.TheConstants.{CARDS}
use Rattle.memory.specs.Columns.{cell}
use Rattle.batch.specs.declared.layout.TheConstants.{NUMBERS}
use Rattle.batch.specs.Circling.{back, on_circle, RoundSo}
use Rattle.batch.proofs.CircleSteps.{round_so}
use Rattle.batch.proofs.circling.show_circle.Goals as goal

pub returns : goal.returns
unfolding on_circle
returns c =
    let x = c.trace.new.memory in
    let out = c.args.out.now in
    let len = c.show_trail-len.result in
    let front = c.show_trail-len.new.out in
    let on : c.go_back-last.result ≡ on_circle x = c.go_back-last.ensures ∙ ap (back (cell x NUMBERS) CARDS) c.first_left.ensures in
    subst (λ (m : List ℕ). RoundSo m out len x (c.reverse.new.self ++ drop len front)) c.trace.ensures
    (round_so x out c.go_back-last.result len on front c.reverse.new.self (search rules) (search rules) (search rules))

use Rattle.std.proofs.Common.{ℕ, refl, ◌∙◌, rules, tests}
use Rattle.order.specs.declared.board.TheConstants.{CARDS}
use Rattle.std.proofs.lemmas.Iterator.{YieldsList-from_range}
use Rattle.std.proofs.lemmas.Iterator.Consumers.{fold_from_yields_List}
use Rattle.memory.specs.Columns.{cell}
use Rattle.batch.specs.declared.layout.TheConstants.{NUMBERS}
use Rattle.batch.proofs.CircleSteps.{folds_back}
use Rattle.batch.proofs.circling.go_back.Goals as goal

pub returns : goal.returns
returns c =
    let next = cell c.args.memory.now NUMBERS in
    fold_from_yields_List _ (λ (s x : ℕ). next s) _ _ c.fold.ensures.ran (YieldsList-from_range 0 CARDS CARDS refl refl) (λ a x b q k. search (rules, tests))
    ∙ folds_back next CARDS 0 c.args.first

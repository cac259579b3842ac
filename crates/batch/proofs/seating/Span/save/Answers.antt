use Rattle.std.proofs.Common.{ℕ, ◌-◌, List, ap, ◌∙◌, rules}
use Rattle.memory.specs.Columns.{cell}
use Rattle.row.specs.declared.layout.TheConstants.{SLOTS}
use Rattle.batch.specs.Arranging.{filled}
use Rattle.batch.specs.Seating.{saved}
use Rattle.batch.proofs.Saving.{saved_wrote}
use Rattle.batch.proofs.seating.Span.save.Goals as goal

pub returns : goal.returns
unfolding filled saved
returns c =
    let m = c.args.memory.now in
    let p = c.args.self.low in
    let e =
    c.fill.ensures (λ (m₁ : List ℕ) (q : ℕ). cell m₁ SLOTS q) (λ m₁ i r h. search rules)
    ∙ ap (λ (n : ℕ). saved (n - p) m p) c.min.ensures in
    record { is = e; wrote = saved_wrote m _ p _ e }

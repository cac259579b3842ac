use Rattle.std.proofs.Common.{rules, ◌≡◌, ℕ, List, length, Err, Option, sym, ap, ◌∙◌, ap₂, inl, inr, arith}
use Rattle.keeper.specs.Playing.{fronted}
use Rattle.batch.specs.declared.joining.Round.{Round}
use Rattle.batch.specs.Joining.{joined, Tried, unless, way_count, way_cards, round_of}
use Rattle.batch.proofs.Trying.{a_way, tried_up}
use Rattle.batch.proofs.joining.join_all.Goals as goal

pub returns-in_err-map_err-clause-tried : goal.returns-in_err-map_err-clause-tried
returns-in_err-map_err-clause-tried c =
    let l = c.loop-count in
    let j = c.join.ensures in
    let r : c.from_residual.result ≡ Err c.in_err-map_err.field-0.0 = search rules in
    let z = c.in_err-map_err.ensures.cases in
    elim (a_way (joined _ _).way) [
      | inl n ↦ let o = j.is ∙ ap (λ (o : Option (List ℕ)). unless (way_count o)) n in let y = rw o at z in absurd (cc)
      | inr w ↦
          let o = j.is ∙ ap (λ (o : Option (List ℕ)). unless (way_count o)) w.1 in
          let y = rw o at z in
          let s : c.in_err-map_err.field-0.0 ≡ record { count = l.count-counter; shown = length w.0 } = search rules in
          let e = sym (tried_up l.memory c.args.batch.now l.count-counter (omega arith) w.0 w.1) ∙ l.invariant.0 in
          record {
            is = r ∙ ap (λ (x : Round). Err x) s ∙ ap (λ (t : Tried). unless (round_of t)) e;
            after = j.after ∙ ap (λ (t : Tried). t.memory) e;
            out = j.out ∙ ap₂ (λ (ks out : List ℕ). fronted ks out) (ap way_cards w.1 ∙ ap (λ (t : Tried). way_cards t.way) e) l.invariant.1;
          }
    ]

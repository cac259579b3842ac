use Rattle.std.proofs.Common.{ℕ, ◌+◌, ◌-◌, List, sym, ap, ◌∙◌, ap₂, arith}
use Rattle.std.specs.declared.ops.Range.{Range}
use Rattle.memory.specs.Columns.{written}
use Rattle.batch.specs.Arranging.{filled}
use Rattle.batch.proofs.LoopSteps.{each_go, each_end}
use Rattle.batch.proofs.listing.fill.Goals as goal

pub loop-place-init : goal.loop-place-init
loop-place-init g c =
    let e = c.into_iter-place-iterator.ensures.into_iter_gives in
    (ap (λ (x : Range ℕ). x.end) e, λ v h. ap (λ (x : Range ℕ). filled v c.args.column (c.args.places.end - x.start) c.args.memory.now x.start) e)

pub loop-place-preserved : goal.loop-place-preserved
unfolding filled
loop-place-preserved g c =
    let m = c.loop-place.memory in
    let p = c.loop-place.place-iterator.start in
    let d = c.args.column in
    let end = c.args.places.end in
    let s = c.in-Some.ensures.steps in (
      s.0 ∙ c.loop-place.invariant.0,
      λ v h.
          ap (λ (i : ℕ). filled v d (end - i) c.set.new.memory i) s.1.2
          ∙ ap (λ (m₁ : List ℕ). filled v d (end - (p + 1)) m₁ (p + 1))
          (c.set.ensures.is ∙ ap₂ (written m d) s.1.1 (h _ _ _ c.value-number.ensures ∙ ap (v m) s.1.1))
          ∙ sym (each_go _ end p m (omega (arith, s.1.0, c.loop-place.invariant.0))) ∙ c.loop-place.invariant.1 v h,
    )

pub returns : goal.returns
unfolding filled
returns g c = λ v h.
    let p = c.loop-place.place-iterator.start in
    let s = c.in-None.ensures.steps in
    sym (each_end _ c.args.places.end p p c.loop-place.memory (omega (arith, s.1.0, c.loop-place.invariant.0)))
    ∙ c.loop-place.invariant.1 v h

use Rattle.std.proofs.Common.{◌≡◌, ◌-◌}
use Rattle.batch.specs.Seating.{reseated}
use Rattle.batch.proofs.seating.Span.reseat.Given as goal

abbrev pub invariant-loop-place : goal.invariant-loop-place
invariant-loop-place l = reseated (l.place-end - l.place) l.memory l.place ≡ reseated (l.place-end - l.fn.self.low) l.initial.memory l.fn.self.low

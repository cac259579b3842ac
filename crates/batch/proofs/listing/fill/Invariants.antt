use Rattle.std.proofs.Common.{◌≡◌, ◌-◌}
use Rattle.batch.specs.Arranging.{filled}
use Rattle.batch.specs.Listing.{Says}
use Rattle.batch.proofs.listing.fill.Given as goal

abbrev pub invariant-loop-place : goal.invariant-loop-place
invariant-loop-place g l =
    (l.place-iterator.end ≡ l.fn.places.end)
    × ((v : _) → Says (goal.F-post g l.value) v →
    filled v l.column (l.fn.places.end - l.place-iterator.start) l.memory l.place-iterator.start
    ≡ filled v l.column (l.fn.places.end - l.fn.places.start) l.initial.memory l.fn.places.start)

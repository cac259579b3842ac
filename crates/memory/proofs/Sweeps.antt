-- Trying place after place finds the same as passing over what isn't marked.
use Rattle.std.proofs.Common.{◌≡◌, ℕ, zero, suc, ◌+◌, ◌<◌, Bool, false, arith}
use Rattle.memory.specs.declared.place_set.TheConstants.{PLACES}
use Rattle.memory.specs.PlaceSets.{marked, next_up, next_down}
use Rattle.memory.specs.PlaceSetLaws.{sweep_up, sweep_down, Skips}
use Rattle.memory.proofs.Nearest.{Up, Down, Nearest, one, tried}
use Rattle.memory.proofs.Adding.{marked_past}
use Rattle.memory.proofs.Upward.{next_up_nearest}
use Rattle.memory.proofs.Downward.{next_down_nearest}

sweeps_up : (f : ℕ → Bool) (n p : ℕ) → ((r : ℕ) → p + n < r → f r ≡ false) → Nearest Up f (λ r. p < r) (sweep_up n f p)
unfolding sweep_up
sweeps_up f zero p past = λ r l. past r (omega arith)
sweeps_up f (suc n) p past =
    tried Up f (λ r. p + 1 < r) (λ r. p < r) (p + 1) (sweep_up n f (p + 1)) (grind arith) (omega arith) (sweeps_up f n (p + 1) (λ r l. past r (omega arith)))

sweeps_down : (f : ℕ → Bool) (p : ℕ) → Nearest Down f (λ r. r < p) (sweep_down f p)
unfolding sweep_down
sweeps_down f zero = λ r l. absurd (omega arith)
sweeps_down f (suc p) = tried Down f (λ r. r < p) (λ r. r < suc p) p (sweep_down f p) (grind arith) (omega arith) (sweeps_down f p)

pub skips : Skips
unfolding Skips
skips m c p sm = (
  one Up (marked m c) (λ r. p < r) (next_up m c p) (sweep_up PLACES (marked m c) p) (grind arith) (next_up_nearest m c sm p)
      (sweeps_up (marked m c) PLACES p (λ r l. marked_past m c r (omega arith))),
  one Down (marked m c) (λ r. r < p) (next_down m c p) (sweep_down (marked m c) p) (grind arith) (next_down_nearest m c sm p) (sweeps_down (marked m c) p),
)

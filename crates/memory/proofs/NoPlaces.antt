-- A column of zeros marks nothing.
use Rattle.std.proofs.Common.{◌≡◌, ℕ, ◌+◌, ◌≤◌, false, replicate, arith}
use lib.ListN.{length-replicate}
use Rattle.memory.specs.declared.column.Column.{Column}
use Rattle.memory.specs.declared.place_set.TheConstants.{SET_WORDS}
use Rattle.memory.specs.PlaceSets.{marked}
use Rattle.memory.specs.PlaceSetLaws.{Summed, Zeros}
use Rattle.memory.proofs.Zeros.{cell_zeros}
use Rattle.memory.proofs.Wiping.{empty}

pub zeros : Zeros
unfolding Zeros
zeros m c room lies none = empty m c room lies (λ i. rw (none i) (omega arith)) (λ w h. none w)

pub zeros_of : (n : ℕ) (c : Column) → SET_WORDS ≤ c.size → c.base + c.size ≤ n → Summed (replicate n 0) c × ((q : ℕ) → marked (replicate n 0) c q ≡ false)
unfolding Zeros
zeros_of n c room lies = zeros (replicate n 0) c room (rw (length-replicate {A = ℕ} n 0) lies) (cell_zeros n c)

-- The steps of the loop that clears the words that the summary names.
use Rattle.std.proofs.Common.{◌≡◌, ℕ, ◌+◌, ◌-◌, ◌<◌, ◌≤◌, List}
use Rattle.memory.specs.declared.column.Column.{Column}
use Rattle.memory.specs.Columns.{written}
use Rattle.memory.specs.Options.{given}
use Rattle.memory.proofs.Fuel.{fuel_step, fuel_end}
use Rattle.memory.specs.PlaceSets.{word_up, cleared}

pub cleared_at : (N i : ℕ) (m : List ℕ) (c : Column) (w : ℕ) → i < N →
    cleared (N - i) m c w ≡ given (word_up m c w) m (λ v. cleared (N - (i + 1)) (written m c v 0) c (v + 1))
unfolding cleared
cleared_at N i m c w h = fuel_step (λ f. cleared f m c w) N i h

pub cleared_end : (N i : ℕ) (m : List ℕ) (c : Column) (w : ℕ) → N ≤ i → cleared (N - i) m c w ≡ m
unfolding cleared
cleared_end N i m c w h = fuel_end (λ f. cleared f m c w) N i h

pub ruleset steps = (cleared_at, cleared_end)

-- What is done place by place.
--
--   Says post v   each call of a function that is given a memory and a place answers what v says
use Rattle.std.specs.Prelude.{◌≡◌, ℕ, List}
use Rattle.std.specs.Borrow.{Bor}

abbrev pub Says : (Bor (List ℕ) → ℕ → ℕ → Type 0) → (List ℕ → ℕ → ℕ) → Type 0
Says post v = (m : Bor (List ℕ)) (i r : ℕ) → post m i r → r ≡ v m.now i

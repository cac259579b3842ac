-- Words on what may be there or not.
--
--   given o z f   f of what is in an Option, z where there is nothing
--   or_else o z   what is in an Option; what is in z, if there is nothing
--   Within n o    what is in an Option, if anything is, is below n
use Rattle.std.specs.Prelude.{ℕ, ◌<◌, Some, None, Option}

abbrev pub given : {X Y : Type 0} → Option X → Y → (X → Y) → Y
given None z f = z
given (Some x) z f = f x

abbrev pub or_else : Option ℕ → Option ℕ → Option ℕ
or_else None z = z
or_else (Some q) z = Some q

abbrev pub Within : ℕ → Option ℕ → Type 0
Within n None = Unit {0}
Within n (Some q) = q < n

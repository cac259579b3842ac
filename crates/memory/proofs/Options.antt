-- What is so of what may be there.
use Rattle.std.proofs.Common.{Some, None, Option}
use Rattle.memory.specs.Options.{given}

-- what is so of nothing, and of what f makes of each thing that may be in an Option, is so of what is given
pub given_holds : {X Y : Type 0} (A : Option X → Type 0) (B : Y → Type 0) (o : Option X) (z : Y) (f : X → Y) → A o → B z → ((x : X) → A (Some x) → B (f x)) →
    B (given o z f)
given_holds A B None z f a b k = b
given_holds A B (Some x) z f a b k = k x a

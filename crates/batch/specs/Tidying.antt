-- The row made anew by the rule from the order of the cards' numbers on, as the code goes.
--
--   Tidied        the memory after the row was tidied, and whether all cards came
--   tidied_by x   the row seated as it was made anew, if all cards came
--   tidied m      the row tidied
use Rattle.std.specs.Prelude.{ℕ, min, Bool, true, false, cond, List, nat_lt}
use Rattle.order.specs.declared.board.TheConstants.{CARDS}
use Rattle.row.specs.Meaning.{count}
use Rattle.batch.specs.Seating.{reseated}
use Rattle.batch.specs.Arranging.{arranged}
use Rattle.batch.specs.Renewing.{Renewed, renewed}

pub record Tidied : Type 0 where
  pub memory : List ℕ
  pub all : Bool

abbrev pub tidied_by : Renewed → Tidied
tidied_by x =
    cond (nat_lt x.came (min (count x.memory) CARDS)) (record { memory = x.memory; all = false })
    (record { memory = reseated x.came x.memory 0; all = true })

unfoldable pub tidied : List ℕ → Tidied
tidied m = tidied_by (renewed (arranged m))

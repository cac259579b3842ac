-- What an operation on the memory comes to.
--
--   Outcome        what an operation answers, and the memory after it
--   refused m e    refused, and nothing changed
use Rattle.std.specs.Prelude.{ℕ, List, Err, Result}
use Rattle.order.specs.declared.board.Refusal.{Refusal}

pub record Outcome : Type 0 where
  pub answer : Result ℕ Refusal
  pub memory : List ℕ

abbrev pub refused : List ℕ → Refusal → Outcome
refused m e = record { answer = Err e; memory = m }

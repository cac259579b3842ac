-- Answers of the keeper.
--
--   Answer             what a step answers, the memory after it, and the numbers told or shown
--   written_out w a ks the numbers ks that go with the act or reason a; none, if they are told and what is told is passed over
--   as_told w a        the answer a with the numbers that are written to the output
--   Gives a out        what is answered is the answer a: the act or the reason, the memory after it, and the numbers at the front of the output
--   Ended              an answer with no numbers; Ends: what is answered is that
--   quiet e            such an answer
--   ends a m           the act or reason a and the memory m
--   refuses m e        refused by the board
--   pending m          what is still to come of the last command: 0 nothing, 1 that it's done, 2 that it's refused, since it would go round,
--                      3 more of the row
--   leaves_pending     the memory with something still to come
--   still_to_come m    what is, by its name; noted: the memory with that noted
--   by_result          one or another, by an operation's result
use Rattle.std.specs.Prelude.{◌≡◌, ℕ, cond, List, [], ◌++◌, length, drop, Some, None, Option, Ok, Err, Result, ◌==◌}
use Rattle.order.specs.declared.board.Refusal.{Refusal}
use Rattle.memory.specs.Columns.{cell, written}
use Rattle.keeper.specs.declared.layout.TheConstants.{PENDING, MORE_FROM, MORE_TO}
use Rattle.keeper.specs.declared.event.Reason.TheVariants.{Board}
use Rattle.keeper.specs.declared.event.Act.{Act}
use Rattle.keeper.specs.declared.event.Act.TheVariants.{Tells, Shows, Done as ActDone}
use Rattle.keeper.specs.declared.event.Telling.{Telling}
use Rattle.keeper.specs.declared.event.Telling.TheVariants.{Written, PassedOver}
use Rattle.keeper.specs.declared.event.Reason.{Reason}
use Rattle.keeper.specs.declared.pending.Pending.{Pending}
use Rattle.keeper.specs.declared.pending.Pending.TheVariants.{Nothing, Done, Round, More}

pub record Answer : Type 0 where
  pub act : Result Act Reason
  pub memory : List ℕ
  pub numbers : List ℕ

pub record Ended : Type 0 where
  pub act : Result Act Reason
  pub memory : List ℕ

unfoldable pub written_out : Telling → Result Act Reason → List ℕ → List ℕ
written_out Written a ks = ks
written_out PassedOver (Ok (Tells p n)) ks = []
written_out PassedOver (Ok (Shows n)) ks = ks
written_out PassedOver (Ok ActDone) ks = ks
written_out PassedOver (Err e) ks = ks

unfoldable pub as_told : Telling → Answer → Answer
as_told w a = record { act = a.act; memory = a.memory; numbers = written_out w a.act a.numbers }

pub record Gives (a : Answer) (out₀ : List ℕ) (r : Result Act Reason) (m₁ out₁ : List ℕ) : Type 0 where
  pub act : r ≡ a.act
  pub after : m₁ ≡ a.memory
  pub out : out₁ ≡ a.numbers ++ drop (length a.numbers) out₀

pub record Ends (e : Ended) (r : Result Act Reason) (m₁ : List ℕ) : Type 0 where
  pub act : r ≡ e.act
  pub after : m₁ ≡ e.memory

abbrev pub quiet : Ended → Answer
quiet e = record { act = e.act; memory = e.memory; numbers = [] }

abbrev pub ends : Result Act Reason → List ℕ → Ended
ends a m = record { act = a; memory = m }

abbrev pub refuses : List ℕ → Refusal → Ended
refuses m e = ends (Err (Board e)) m

abbrev pub pending : List ℕ → ℕ
pending m = cell m PENDING 0

abbrev pub leaves_pending : List ℕ → ℕ → List ℕ
leaves_pending m k = written m PENDING 0 k

unfoldable pub still_to_come : List ℕ → Option Pending
still_to_come m =
    cond (pending m == 0) (Some Nothing)
    (cond (pending m == 1) (Some Done)
    (cond (pending m == 2) (Some Round)
    (cond (pending m == 3) (Some (More (cell m MORE_FROM 0) (cell m MORE_TO 0))) None)))

abbrev pub noted : List ℕ → Pending → List ℕ
noted m Nothing = leaves_pending m 0
noted m Done = leaves_pending m 1
noted m Round = leaves_pending m 2
noted m (More i j) = written (written (leaves_pending m 3) MORE_FROM 0 i) MORE_TO 0 j

abbrev pub by_result : {X : Type 0} → Result ℕ Refusal → (ℕ → X) → (Refusal → X) → X
by_result (Ok s) f g = f s
by_result (Err e) f g = g e

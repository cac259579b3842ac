-- From a card's number to its slot, as the code goes.
--
--   spread k         a number spread over all below 2 ^ 64
--   bucket k         the bucket of a card
--   EntryBelow o     the slot of an entry, if there is one, is below the number of slots
--   followed m p     the slot that a pointer holds
--   sought f m p k   the entry of a card in the chain from a pointer on, in at most f steps
--   found m k        the slot of a card
--   entered m s k    the memory after the slot s was given to the card k
--   withdrawn m e    the memory after an entry was taken out of its chain
use Rattle.std.specs.Prelude.{ℕ, zero, suc, ◌+◌, ◌-◌, ◌*◌, ◌/◌, ◌%◌, ◌<◌, cond, ◌||◌, List, Some, None, Option, ◌==◌, nat_lt}
use Rattle.order.specs.declared.board.TheConstants.{CARDS}
use Rattle.memory.specs.Options.{given}
use Rattle.memory.specs.Columns.{cell, written}
use Rattle.row.specs.declared.layout.TheConstants.{HEADS, BUCKET, IDS, CHAIN}
use Rattle.row.specs.declared.lookup.Entry.{Entry}

abbrev pub spread : ℕ → ℕ
spread k = k * 11400714819323198485 % 18446744073709551616

unfoldable pub bucket : ℕ → ℕ
bucket k = spread k / BUCKET

abbrev pub EntryBelow : Option Entry → Type 0
EntryBelow None = Unit {0}
EntryBelow (Some e) = e.number < CARDS

unfoldable pub followed : List ℕ → ℕ → Option ℕ
followed m p = cond (cell m CHAIN p == 0 || nat_lt CARDS (cell m CHAIN p)) None (Some (cell m CHAIN p - 1))

abbrev pub entry : ℕ → ℕ → Entry
entry p s = record { pointer = p; number = s }

unfoldable pub sought : ℕ → List ℕ → ℕ → ℕ → Option Entry
sought zero m p k = None
sought (suc f) m p k = given (followed m p) None (λ s. cond (cell m IDS s == k) (Some (entry p s)) (sought f m (HEADS + s) k))

unfoldable pub found : List ℕ → ℕ → Option ℕ
found m k = given (sought CARDS m (bucket k) k) None (λ e. Some e.number)

unfoldable pub entered : List ℕ → ℕ → ℕ → List ℕ
entered m s k = written (written (written m IDS s k) CHAIN (HEADS + s) (cell m CHAIN (bucket k))) CHAIN (bucket k) (s + 1)

unfoldable pub withdrawn : List ℕ → Entry → List ℕ
withdrawn m e = written m CHAIN e.pointer (cell m CHAIN (HEADS + e.number))

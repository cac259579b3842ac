-- A circle among the slots that haven't come by the rule, as the code goes. Three columns serve anew here: LEAVES has a 1 for each slot that has come,
-- NUMBERS has for a slot one that hasn't come and is linked to it, and WAITS has a 1 for each slot for which one is noted.
--
--   flagged f m i     noted of f slots in SPARE, from i on, that they have come
--   stays m s         the slot s hasn't come
--   noted m n         of the link whose pair of slots is n: for the slot that it goes into, the one that it comes out of noted, if that hasn't come
--                     and none is noted yet
--   notes m           so for each link
--   traced m n        both, after n slots have come
--   first_left f m p  the slot at the first of f places, from p on, that hasn't come; 0 if there is none
--   start m           the first slot in the row that hasn't come
--   back next n s     n steps from s, each to the next
--   on_circle m       a slot of a circle: as many steps back as there may be cards, from the start
--   round m n         the slots of that circle, each linked to the next; at most n of them
--   RoundSo m out     the circle that is noted in m is shown at the front of the output, as far as there is room, and its length told; the memory is m
use Rattle.std.specs.Prelude.{◌≡◌, ℕ, zero, suc, ◌+◌, ◌/◌, ◌%◌, min, Bool, cond, ◌&&◌, List, length, reverse, ◌==◌, nat_lt}
use Rattle.order.specs.declared.board.TheConstants.{CARDS}
use Rattle.memory.specs.Columns.{cell, written, wiped}
use Rattle.memory.specs.Footprints.{at_each}
use Rattle.row.specs.declared.layout.TheConstants.{SLOTS}
use Rattle.row.specs.Meaning.{count}
use Rattle.links.specs.declared.layout.TheConstants.{ENTRIES, AGE, ALL}
use Rattle.search.specs.Way.{trail, over}
use Rattle.batch.specs.declared.layout.TheConstants.{SPARE, WAITS, LEAVES, NUMBERS}
use Rattle.batch.specs.Along.{along}

unfoldable pub flagged : ℕ → List ℕ → ℕ → List ℕ
flagged f m i = at_each (λ m₁ j. written m₁ LEAVES (cell m₁ SPARE j) 1) f m i

unfoldable pub stays : List ℕ → ℕ → Bool
stays m s = nat_lt s CARDS && cell m LEAVES s == 0

unfoldable pub noted : List ℕ → ℕ → List ℕ
noted m n =
    cond (stays m (n / CARDS) && cell m WAITS (n % CARDS) == 0) (written (written m NUMBERS (n % CARDS) (n / CARDS)) WAITS (n % CARDS) 1) m

abbrev pub notes : List ℕ → List ℕ
notes m = along AGE noted ENTRIES m ALL

unfoldable pub traced : List ℕ → ℕ → List ℕ
traced m n = notes (flagged n (wiped CARDS (wiped CARDS m WAITS 0) LEAVES 0) 0)

unfoldable pub first_left : ℕ → List ℕ → ℕ → ℕ
first_left zero m p = 0
first_left (suc f) m p = cond (stays m (cell m SLOTS p)) (cell m SLOTS p) (first_left f m (p + 1))

unfoldable pub back : (ℕ → ℕ) → ℕ → ℕ → ℕ
back next zero s = s
back next (suc n) s = back next n (next s)

abbrev pub start : List ℕ → ℕ
start m = first_left (min (count m) CARDS) m 0

unfoldable pub on_circle : List ℕ → ℕ
on_circle m = back (cell m NUMBERS) CARDS (start m)

unfoldable pub round : List ℕ → ℕ → List ℕ
round m n = reverse (trail (cell m NUMBERS) n (on_circle m) (cell m NUMBERS (on_circle m)))

pub record RoundSo (m out₀ : List ℕ) (r : ℕ) (m₁ out₁ : List ℕ) : Type 0 where
  pub is : r ≡ length (round m (length out₀))
  pub after : m₁ ≡ m
  pub out : out₁ ≡ over m (round m (length out₀)) r out₀

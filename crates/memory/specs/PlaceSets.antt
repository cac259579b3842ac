-- Sets of places as bits in a column, as the code goes. There are two levels of bits: the places, from the word 0 on, and the summary, from the word
-- WORDS on, which has a bit for each word of the places.
--
--   digit w t          whether the binary digit t of the number w is set
--   first_word l       the word that the level l starts at
--   bit m c s i        whether the bit i of the level that starts at the word s is set
--   flipped m c s i    the memory after that bit was turned
--   toggled m c p      the memory after the bit of the place p was turned, and its word's bit in the summary where that changes
--   marked m c p       the place p is marked
--   fresh m c p        the place p can be marked, and isn't
--   added m c p        the memory after the place p was marked
--   removed m c p      the memory after its mark was taken away
--   next_bit m c s i   the first set bit of a level from i on, in the word of i
--   tops_up f m c t    the first word that the summary names in f of its words, from t on
--   word_up m c w      the first word from w on that the summary names
--   up_from m c p      the first marked place from p on
--   next_up m c p      the first marked place after p
--   first_mark m c     the first marked place
--   last_bit m c s i   the last set bit of a level up to i, in the word of i
--   tops_down m c t    the last word that the summary names in its first t words
--   word_down m c w    the last word up to w that the summary names
--   down_from m c p    the last marked place up to p
--   next_down m c p    the last marked place before p
--   cleared f m c w    the memory after the words from w on that the summary names, at most f of them, were set to 0
--   untopped f m c t   the memory after f words of the summary, from t on, were set to 0
--   wiped m c          the memory after all marks were taken away
use Rattle.std.specs.Prelude.{ℕ, zero, suc, ◌+◌, ◌-◌, ◌*◌, ◌/◌, ◌%◌, ◌^◌, min, Bool, cond, not, ◌&&◌, ◌||◌, List, Some, None, Option, ◌==◌, bit_xor, nat_lt}
use Rattle.std.specs.Int.Count.{count_leading_zeros, count_trailing_zeros}
use Rattle.memory.specs.declared.column.Column.{Column}
use Rattle.memory.specs.Columns.{cell, written}
use Rattle.memory.specs.Options.{given, or_else}
use Rattle.memory.specs.declared.place_set.TheConstants.{PLACES, WORDS, TOPS}
use Rattle.memory.specs.declared.place_set.Level.{Level}
use Rattle.memory.specs.declared.place_set.Level.TheVariants.{Places, Summary}

unfoldable pub digit : ℕ → ℕ → Bool
digit w t = w / 2 ^ t % 2 == 1

abbrev pub first_word : Level → ℕ
first_word Places = 0
first_word Summary = WORDS

unfoldable pub bit : List ℕ → Column → ℕ → ℕ → Bool
bit m c s i = digit (cell m c (s + i / 64)) (i % 64)

unfoldable pub flipped : List ℕ → Column → ℕ → ℕ → List ℕ
flipped m c s i = written m c (s + i / 64) (bit_xor (cell m c (s + i / 64)) (2 ^ (i % 64)))

unfoldable pub toggled : List ℕ → Column → ℕ → List ℕ
toggled m c p =
    cond (cell m c (p / 64) == 0 || cell (flipped m c 0 p) c (p / 64) == 0) (flipped (flipped m c 0 p) c WORDS (p / 64)) (flipped m c 0 p)

unfoldable pub marked : List ℕ → Column → ℕ → Bool
marked m c p = nat_lt p PLACES && bit m c 0 p

unfoldable pub fresh : List ℕ → Column → ℕ → Bool
fresh m c p = nat_lt p PLACES && not (marked m c p)

unfoldable pub added : List ℕ → Column → ℕ → List ℕ
added m c p = cond (fresh m c p) (toggled m c p) m

unfoldable pub removed : List ℕ → Column → ℕ → List ℕ
removed m c p = cond (marked m c p) (toggled m c p) m

unfoldable pub next_bit : List ℕ → Column → ℕ → ℕ → Option ℕ
next_bit m c s i =
    cond (cell m c (s + i / 64) / 2 ^ (i % 64) == 0) None (Some (i + count_trailing_zeros 64 (cell m c (s + i / 64) / 2 ^ (i % 64))))

unfoldable pub tops_up : ℕ → List ℕ → Column → ℕ → Option ℕ
tops_up zero m c t = None
tops_up (suc f) m c t = or_else (next_bit m c WORDS (t * 64)) (tops_up f m c (t + 1))

unfoldable pub word_up : List ℕ → Column → ℕ → Option ℕ
word_up m c w = cond (nat_lt w WORDS) (or_else (next_bit m c WORDS w) (tops_up (TOPS - (w / 64 + 1)) m c (w / 64 + 1))) None

unfoldable pub up_from : List ℕ → Column → ℕ → Option ℕ
up_from m c p =
    cond (nat_lt p PLACES) (or_else (next_bit m c 0 p) (given (word_up m c (p / 64 + 1)) None (λ w. next_bit m c 0 (w * 64)))) None

unfoldable pub next_up : List ℕ → Column → ℕ → Option ℕ
next_up m c p = cond (nat_lt p PLACES) (up_from m c (p + 1)) None

unfoldable pub first_mark : List ℕ → Column → Option ℕ
first_mark m c = up_from m c 0

unfoldable pub last_bit : List ℕ → Column → ℕ → ℕ → Option ℕ
last_bit m c s i =
    cond (cell m c (s + i / 64) % 2 ^ (i % 64 + 1) == 0) None
    (Some (i / 64 * 64 + (63 - count_leading_zeros 64 (cell m c (s + i / 64) % 2 ^ (i % 64 + 1)))))

unfoldable pub tops_down : List ℕ → Column → ℕ → Option ℕ
tops_down m c zero = None
tops_down m c (suc t) = or_else (last_bit m c WORDS (t * 64 + 63)) (tops_down m c t)

unfoldable pub word_down : List ℕ → Column → ℕ → Option ℕ
word_down m c w = or_else (last_bit m c WORDS w) (tops_down m c (w / 64))

unfoldable pub down_from : List ℕ → Column → ℕ → Option ℕ
down_from m c p =
    or_else (last_bit m c 0 p) (cond (nat_lt p 64) None (given (word_down m c (p / 64 - 1)) None (λ w. last_bit m c 0 (w * 64 + 63))))

unfoldable pub next_down : List ℕ → Column → ℕ → Option ℕ
next_down m c p = cond (p == 0) None (down_from m c (min p PLACES - 1))

unfoldable pub cleared : ℕ → List ℕ → Column → ℕ → List ℕ
cleared zero m c w = m
cleared (suc f) m c w = given (word_up m c w) m (λ v. cleared f (written m c v 0) c (v + 1))

unfoldable pub untopped : ℕ → List ℕ → Column → ℕ → List ℕ
untopped zero m c t = m
untopped (suc f) m c t = untopped f (written m c (WORDS + t) 0) c (t + 1)

unfoldable pub wiped : List ℕ → Column → List ℕ
wiped m c = untopped TOPS (cleared WORDS m c 0) c 0

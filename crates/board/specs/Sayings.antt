-- Sayings as bytes: a byte for what is said, then the cards, numbers of two bytes each, the low byte first; before several links a byte with their number.
--
--   card_at bs i       the card whose number begins at i
--   cards_at bs i      the two cards whose numbers begin at i, as a link
--   link_at bs         the two cards of a saying
--   links_in n bs      the n links at the front of the bytes, four bytes each
--   how_many k         how many links a byte says: a 0 stands for 256
--   several_in bs      the links at the front of the bytes, behind the byte that says how many
--   of_one bs k        a saying of one card: 0 it comes, 1 it goes
--   of_two bs k        a saying of two cards: 2 the one before the other, 3 that needn't be, 4 their places
--   of_several bs      a saying of several links at once
--   commanded r        a command, as a saying
--   first_saying bs    the saying at the front of the bytes, with the number of its bytes; or why there is none: a byte that says nothing, or a beginning of a saying
--   said_first bs      the saying at the front, or why there is none
--   behind_first bs    what stands behind it; nothing, if there is none
--   link_of bs         the link that four bytes spell
--   links_of bss       the links that the bytes spell, four to a link
--   links_read r       links that are read, or why there are none
--   meant s            the saying that is read, with links in place of their bytes
--   meant_by r         the same, or why there is none
--   Next bs o rest     who reads saying by saying has o next, and then what is left
use Rattle.std.specs.Prelude.{◌≡◌, ℕ, zero, suc, ◌+◌, ◌*◌, cond, List, [], ◌∷◌, length, drop, map, Some, None, Option, option_map, Ok, Err, Result, ◌==◌, nat_le, nat_lt, slice_index}
use Rattle.std.specs.Borrow.{Bor}
use Rattle.order.specs.declared.board.Link.{Link}
use Rattle.command.specs.declared.command.Command.{Command}
use Rattle.command.specs.declared.command.Command.TheVariants.{Comes, Goes, Link as Links, Unlink as Unlinks, Places}
use Rattle.order.specs.Board.{◌⟶◌}
use Rattle.memory.specs.Options.{given}
use Rattle.batch.specs.Engine.{Saying, one, several, anew}
use Rattle.board.specs.declared.sayings.Saying.{Saying as Read}
use Rattle.board.specs.declared.sayings.Saying.TheVariants.{One, Several, Anew}
use Rattle.board.specs.declared.sayings.SayingError.{SayingError}
use Rattle.board.specs.declared.sayings.SayingError.TheVariants.{Unknown, Cut}

abbrev pub card_at : List ℕ → ℕ → Option ℕ
card_at bs i = cond (nat_lt (i + 1) (length bs)) (Some (slice_index bs i + 256 * slice_index bs (i + 1))) None

abbrev pub cards_at : List ℕ → ℕ → Option Link
cards_at bs i = given (card_at bs i) None (λ a. given (card_at bs (i + 2)) None (λ b. Some (a ⟶ b)))

abbrev pub link_at : List ℕ → Option Link
link_at bs = cards_at bs 1

unfoldable pub links_in : ℕ → List ℕ → Option (List Link)
links_in zero bs = Some []
links_in (suc n) bs = given (cards_at bs 0) None (λ l. given (links_in n (drop 4 bs)) None (λ ls. Some (l ∷ ls)))

abbrev pub how_many : ℕ → ℕ
how_many k = cond (k == 0) 256 k

abbrev pub several_in : List ℕ → Option (List Link)
several_in bs = cond (length bs == 0) None (links_in (how_many (slice_index bs 0)) (drop 1 bs))

abbrev pub of_one : List ℕ → ℕ → Result (Command × ℕ) SayingError
of_one bs k = given (card_at bs 1) (Err Cut) (λ a. cond (k == 0) (Ok (Comes a, 3)) (Ok (Goes a, 3)))

abbrev pub of_two : List ℕ → ℕ → Result (Command × ℕ) SayingError
of_two bs k =
    given (link_at bs) (Err Cut) (λ l.
    cond (k == 2) (Ok (Links l, 5)) (cond (k == 3) (Ok (Unlinks l, 5)) (Ok (Places l.from l.to, 5))))

abbrev pub of_several : List ℕ → Result (Saying × ℕ) SayingError
of_several bs = given (several_in (drop 1 bs)) (Err Cut) (λ ls. Ok (several ls, 2 + 4 * length ls))

abbrev pub commanded : Result (Command × ℕ) SayingError → Result (Saying × ℕ) SayingError
commanded r = elim r [ Ok p ↦ Ok (one p.0, p.1) | Err e ↦ Err e ]

abbrev pub first_saying : List ℕ → Result (Saying × ℕ) SayingError
first_saying bs =
    cond (length bs == 0) (Err Cut)
    (cond (nat_le (slice_index bs 0) 1) (commanded (of_one bs (slice_index bs 0)))
    (cond (nat_le (slice_index bs 0) 4) (commanded (of_two bs (slice_index bs 0)))
    (cond (slice_index bs 0 == 5) (of_several bs)
    (cond (slice_index bs 0 == 6) (Ok (anew, 1)) (Err (Unknown (slice_index bs 0)))))))

abbrev pub said_first : List ℕ → Result Saying SayingError
said_first bs = elim (first_saying bs) [ Ok p ↦ Ok p.0 | Err e ↦ Err e ]

abbrev pub behind_first : List ℕ → List ℕ
behind_first bs = elim (first_saying bs) [ Ok p ↦ drop p.1 bs | Err e ↦ [] ]

abbrev pub link_of : List ℕ → Link
link_of bs = (slice_index bs 0 + 256 * slice_index bs 1) ⟶ (slice_index bs 2 + 256 * slice_index bs 3)

abbrev pub links_of : List (List ℕ) → List Link
links_of bss = map link_of bss

abbrev pub links_read : Result (Bor (List (List ℕ))) SayingError → Result (List Link) SayingError
links_read r = elim r [ Ok bss ↦ Ok (links_of bss.now) | Err e ↦ Err e ]

abbrev pub meant : Read → Saying
meant (One c) = one c
meant (Several bss) = several (links_of bss.now)
meant Anew = anew

abbrev pub meant_by : Result Read SayingError → Result Saying SayingError
meant_by r = elim r [ Ok s ↦ Ok (meant s) | Err e ↦ Err e ]

abbrev pub Next : List ℕ → Option (Result Read SayingError) → List ℕ → Type 0
Next bs o rest = (option_map meant_by o ≡ cond (length bs == 0) None (Some (said_first bs))) × (rest ≡ behind_first bs)

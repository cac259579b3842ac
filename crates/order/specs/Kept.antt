-- Whether a row keeps links that are given as numbers, two to a link.
--
--   before row a b          the card a stands before the card b in the row
--   links_of ns             the links that the numbers spell: the first two are a link from the one to the other, and so on
--   broken_pair row ps      the number of the first of the pairs whose first card doesn't stand before its second
--   first_broken row ls i   the first of the links that the row doesn't keep, by its number; they are counted from i
--   misfit_number e         the number by which a misfit is told
--   kept_reply row ns       what `kept` answers: the first reason that there is to refuse, or the first link that is broken, or none: all are kept
--   Among ns o              the number in it, if there is one, is that of a link which ns spells; Names ns r: the same of a reply
--   Taken row ns            the numbers spell whole links, and there are no more cards and links than `kept` takes
--   Breaks row ls i         the link number i isn't kept, and all before it are
--
-- What is proved of it; `src/theory.rt` has a function for each, whose contract it is.
--   KeptJust                of what is taken, the reply is no link just if the row keeps the links
--   BrokenJust              and link i just if link i is the first that it doesn't keep
--   RefusedJust             and nothing else is refused than what has half a link or too many cards or links
use Rattle.std.specs.Prelude.{◌≡◌, ℕ, ◌+◌, ◌/◌, ◌%◌, ◌<◌, ◌≤◌, Bool, true, false, cond, not, ◌||◌, ◌⊎◌, List, [], ◌∷◌, ◌++◌, length, position, slice_index, Some, None, Ok, Err, Option, Result, ◌==◌, nat_lt}
use Rattle.order.specs.declared.board.Link.{Link}
use Rattle.order.specs.declared.keeping.Misfit.{Misfit}
use Rattle.order.specs.declared.keeping.Misfit.TheVariants.{HalfLink, TooMany}
use Rattle.order.specs.declared.keeping.TheConstants.{MOST}
use Rattle.order.specs.Lists.{place}
use Rattle.order.specs.Board.{◌⟶◌, keeps}

unfoldable pub before : List ℕ → ℕ → ℕ → Bool
before row a b = nat_lt (place row a) (place row b)

unfoldable pub links_of : List ℕ → List Link
links_of [] = []
links_of (a ∷ []) = []
links_of (a ∷ b ∷ ns) = (a ⟶ b) ∷ links_of ns

abbrev pub broken_pair : List ℕ → List (List ℕ) → Option ℕ
broken_pair row ps = position (λ p. not (before row (slice_index p 0) (slice_index p 1))) ps

unfoldable pub first_broken : List ℕ → List Link → ℕ → Option ℕ
first_broken row [] i = None
first_broken row (l ∷ ls) i = cond (before row l.from l.to) (first_broken row ls (i + 1)) (Some i)

abbrev pub misfit_number : Misfit → ℕ
misfit_number HalfLink = 1
misfit_number TooMany = 2

abbrev pub kept_reply : List ℕ → List ℕ → Result (Option ℕ) Misfit
kept_reply row ns =
    cond (length ns % 2 == 1) (Err HalfLink)
    (cond (nat_lt MOST (length row) || nat_lt MOST (length ns / 2)) (Err TooMany)
    (Ok (first_broken row (links_of ns) 0)))

abbrev pub Among : List ℕ → Option ℕ → Type 0
Among ns None = Unit {0}
Among ns (Some i) = i < length ns / 2

abbrev pub Names : List ℕ → Result (Option ℕ) Misfit → Type 0
Names ns (Ok o) = Among ns o
Names ns (Err e) = Unit {0}

pub record Taken (row ns : List ℕ) : Type 0 where
  pub whole : length ns % 2 ≡ 0
  pub few_cards : length row ≤ MOST
  pub few_links : length ns / 2 ≤ MOST

pub record Breaks (row : List ℕ) (ls : List Link) (i : ℕ) : Type 0 where
  pub ahead : List Link
  pub link : Link
  pub behind : List Link
  pub parts : ls ≡ ahead ++ link ∷ behind
  pub number : length ahead ≡ i
  pub kept : keeps row ahead ≡ true
  pub broken : keeps row (link ∷ []) ≡ false

abbrev pub KeptJust : Type 0
KeptJust =
    (row ns : List ℕ) → Taken row ns →
    (kept_reply row ns ≡ Ok None → keeps row (links_of ns) ≡ true) × (keeps row (links_of ns) ≡ true → kept_reply row ns ≡ Ok None)

abbrev pub BrokenJust : Type 0
BrokenJust =
    (row ns : List ℕ) (i : ℕ) → Taken row ns →
    (kept_reply row ns ≡ Ok (Some i) → Breaks row (links_of ns) i) × (Breaks row (links_of ns) i → kept_reply row ns ≡ Ok (Some i))

abbrev pub RefusedJust : Type 0
RefusedJust =
    (row ns : List ℕ) (e : Misfit) → kept_reply row ns ≡ Err e →
    ((e ≡ HalfLink) × (length ns % 2 ≡ 1)) ⊎ ((e ≡ TooMany) × ((MOST < length row) ⊎ (MOST < length ns / 2)))

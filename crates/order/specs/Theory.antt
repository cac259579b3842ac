-- What is proved of boards. Each name is a statement, a type; `src/theory.rt` has a function for each, whose contract it is.
--   CanBe             a link that is not refused can be kept in a row that may be so
--   CanBeFirm         and if it goes backward, in a row where each card that isn't touched keeps its very place
--   OnlyOne           of which there is no other
--   FirmIsLittle      a firm row is a little changed one
--   LeadsOn           what leads where, leads on, and never back
--   LeadsBefore       what leads where stands before it
--   LeadsJust         leads is what links lead to, no less and no more
--   RoundThere        if a link is refused since it would go round, the way can be shown
--   OnlyBetween       in a little changed row only what stands between the two cards may have another place
--   OnlyTouched       in a firm row, of those only what is touched
--   three             the board of LittleIsLoose: three cards and no link
--   LittleIsLoose     an example: little alone doesn't say what row it has to be, firm does
use Rattle.std.specs.Prelude.{◌≡◌, ℕ, ◌<◌, ◌≤◌, true, false, ◌⊎◌, List, [], ◌∷◌, Some, None}
use Rattle.order.specs.declared.board.Refusal.TheVariants.{Cycle}
use Rattle.order.specs.Lists.{has, place}
use Rattle.order.specs.Board.{Board, ◌⟶◌, linked, keeps, fine, leads}
use Rattle.order.specs.Reordering.{link_refusal, with_link, backward, touched, little, firm, link_may_be, goes_round}

-- It can always be done: if a link is not refused, there is a row that may be so and with which the board is fine.
abbrev pub CanBe : Type 0
CanBe =
    (r : Board) (a b : ℕ) → fine r ≡ true → link_refusal r (a ⟶ b) ≡ None →
    (row : List ℕ) × (link_may_be r (a ⟶ b) row ≡ true) × (fine (record { row = row; links = with_link r a b }) ≡ true)

-- And if the link goes backward, there is such a row in which each card that isn't touched keeps its very place.
abbrev pub CanBeFirm : Type 0
CanBeFirm =
    (r : Board) (a b : ℕ) → fine r ≡ true → link_refusal r (a ⟶ b) ≡ None → backward r a b ≡ true →
    (row : List ℕ) × (firm r a b row ≡ true) × (fine (record { row = row; links = with_link r a b }) ≡ true)

-- And there is no other: two such rows are one.
abbrev pub OnlyOne : Type 0
OnlyOne =
    (r : Board) (a b : ℕ) (row row₁ : List ℕ) → fine r ≡ true → link_refusal r (a ⟶ b) ≡ None → backward r a b ≡ true →
    firm r a b row ≡ true → keeps row (with_link r a b) ≡ true → firm r a b row₁ ≡ true → keeps row₁ (with_link r a b) ≡ true → row ≡ row₁

-- A firm row is a little changed one.
abbrev pub FirmIsLittle : Type 0
FirmIsLittle = (r : Board) (a b : ℕ) (row : List ℕ) → firm r a b row ≡ true → little r a b row ≡ true

-- Each card leads to itself; what is linked to a card leads where that one leads; and two cards that lead to each other are one.
abbrev pub LeadsOn : Type 0
LeadsOn =
    (r : Board) (a b c : ℕ) → fine r ≡ true → has r.row a ≡ true →
    (leads r a a ≡ true) × (linked r a b ≡ true → leads r b c ≡ true → leads r a c ≡ true) × (leads r a b ≡ true → leads r b a ≡ true → a ≡ b)

-- A card that leads to another stands before it, or is it.
abbrev pub LeadsBefore : Type 0
LeadsBefore =
    (r : Board) (a b : ℕ) → fine r ≡ true → has r.row a ≡ true → leads r a b ≡ true → place r.row a ≤ place r.row b

-- Leads is what links lead to, no less: itself, by a link, by one way and then another; no more: itself, or by a first link and then on. It never leads back,
-- and it goes up in the row. This holds for cards that aren't there too.
abbrev pub LeadsJust : Type 0
LeadsJust =
    (r : Board) (a b c : ℕ) → fine r ≡ true →
    (leads r a a ≡ true) × (linked r a b ≡ true → leads r a b ≡ true) × (leads r a b ≡ true → leads r b c ≡ true → leads r a c ≡ true)
    × (leads r a c ≡ true → (a ≡ c) ⊎ ((d : ℕ) × (linked r a d ≡ true) × (leads r d c ≡ true)))
    × (leads r a b ≡ true → leads r b a ≡ true → a ≡ b) × (leads r a b ≡ true → place r.row a ≤ place r.row b)

-- If a link is refused since it would go round, there is a way to be shown.
abbrev pub RoundThere : Type 0
RoundThere = (r : Board) (a b : ℕ) → fine r ≡ true → link_refusal r (a ⟶ b) ≡ Some Cycle → (w : List ℕ) × (goes_round r a b w ≡ true)

-- In a row little changed for a link from a to b, what stood before b or behind a keeps its place.
abbrev pub OnlyBetween : Type 0
OnlyBetween =
    (r : Board) (a b k : ℕ) (row : List ℕ) → fine r ≡ true → little r a b row ≡ true → has r.row k ≡ true →
    (place r.row k < place r.row b) ⊎ (place r.row a < place r.row k) → place row k ≡ place r.row k

-- And in a firm row what isn't touched keeps its place too.
abbrev pub OnlyTouched : Type 0
OnlyTouched =
    (r : Board) (a b k : ℕ) (row : List ℕ) → fine r ≡ true → firm r a b row ≡ true → has r.row k ≡ true →
    (place r.row k < place r.row b) ⊎ ((place r.row a < place r.row k) ⊎ (touched r a b k ≡ false)) → place row k ≡ place r.row k

-- Three cards and no link: for a link from the last to the first, little lets the card between, which no link touches, go to the front or to the end.
abbrev pub three : Board
three = record { row = 1 ∷ 2 ∷ 3 ∷ []; links = [] }

abbrev pub LittleIsLoose : Type 0
LittleIsLoose =
    (little three 3 1 (2 ∷ 3 ∷ 1 ∷ []) ≡ true) × (little three 3 1 (3 ∷ 1 ∷ 2 ∷ []) ≡ true) × (little three 3 1 (3 ∷ 2 ∷ 1 ∷ []) ≡ true)
    × (firm three 3 1 (2 ∷ 3 ∷ 1 ∷ []) ≡ false) × (firm three 3 1 (3 ∷ 1 ∷ 2 ∷ []) ≡ false) × (firm three 3 1 (3 ∷ 2 ∷ 1 ∷ []) ≡ true)

-- A week, worked through: six cards of a small theatre, 1 the floor, 2 the rails, 3 the swan, 4 the lake, 5 the lamps, 6 the tenor, and what is said of
-- them. Each line is an equation that holds by computation.
--   come r ks         the board, once each of ks has come
--   told i ks         what is told once: from the place i on the cards ks stand there now
--   board₀ .. board₇  the boards of the week, one after the other
--   Week              what is so of them
use Rattle.std.specs.Prelude.{◌≡◌, ℕ, true, false, List, [], ◌∷◌, Some, None}
use Rattle.command.specs.declared.command.Command.TheVariants.{Comes, Goes, Link as Links, Unlink as Unlinks, Places}
use Rattle.order.specs.declared.board.Refusal.TheVariants.{Missing, Exists, Cycle}
use Rattle.order.specs.Lists.{place}
use Rattle.order.specs.Board.{Board, ◌⟶◌, keeps}
use Rattle.command.specs.Commands.{refusal, Told, after, may_be, must_be}
use Rattle.order.specs.Reordering.{with_link, backward, little, firm, goes_round}

abbrev pub come : Board → List ℕ → Board
come r [] = r
come r (k ∷ ks) = come (after r (Comes k) []) ks

abbrev pub told : ℕ → List ℕ → List Told
told i ks = record { at = i; cards = ks } ∷ []

-- the six cards come, one after the other
abbrev pub board₀ : Board
board₀ = come (record { row = []; links = [] }) (1 ∷ 2 ∷ 3 ∷ 4 ∷ 5 ∷ 6 ∷ [])

-- the swan before the tenor: so it stands, and nothing is told
abbrev pub board₁ : Board
board₁ = after board₀ (Links (3 ⟶ 6)) []

-- the rails before the swan: so it stands too
abbrev pub board₂ : Board
board₂ = after board₁ (Links (2 ⟶ 3)) []

-- the lamps before the rails: the lake, which no link touches, keeps its place
abbrev pub board₃ : Board
board₃ = after board₂ (Links (5 ⟶ 2)) (told 1 (5 ∷ 2 ∷ 4 ∷ 3 ∷ []))

-- the lake before the floor: the two change places
abbrev pub board₄ : Board
board₄ = after board₃ (Links (4 ⟶ 1)) (told 0 (4 ∷ 5 ∷ 2 ∷ 1 ∷ []))

-- the lamps needn't be before the rails
abbrev pub board₅ : Board
board₅ = after board₄ (Unlinks (5 ⟶ 2)) []

-- the tenor before the lamps, which can be now
abbrev pub board₆ : Board
board₆ = after board₅ (Links (6 ⟶ 5)) (told 1 (2 ∷ 3 ∷ 1 ∷ 6 ∷ 5 ∷ []))

-- the rails go
abbrev pub board₇ : Board
board₇ = after board₆ (Goes 2) []

pub record Week : Type 0 where
  -- the cards have come, in this order
  pub row₀ : board₀.row ≡ 1 ∷ 2 ∷ 3 ∷ 4 ∷ 5 ∷ 6 ∷ []
  -- 3 before 6: nothing has to move
  pub allowed₁ : refusal board₀ (Links (3 ⟶ 6)) ≡ None
  pub forward₁ : backward board₀ 3 6 ≡ false
  pub may₁ : may_be board₀ (Links (3 ⟶ 6)) (1 ∷ 2 ∷ 3 ∷ 4 ∷ 5 ∷ 6 ∷ []) ≡ true
  pub must₁ : must_be board₀ (Links (3 ⟶ 6)) (1 ∷ 2 ∷ 3 ∷ 4 ∷ 5 ∷ 6 ∷ []) ≡ true
  pub row₁ : board₁.row ≡ 1 ∷ 2 ∷ 3 ∷ 4 ∷ 5 ∷ 6 ∷ []
  -- 2 before 3: nor here
  pub allowed₂ : refusal board₁ (Links (2 ⟶ 3)) ≡ None
  pub forward₂ : backward board₁ 2 3 ≡ false
  pub may₂ : may_be board₁ (Links (2 ⟶ 3)) (1 ∷ 2 ∷ 3 ∷ 4 ∷ 5 ∷ 6 ∷ []) ≡ true
  pub must₂ : must_be board₁ (Links (2 ⟶ 3)) (1 ∷ 2 ∷ 3 ∷ 4 ∷ 5 ∷ 6 ∷ []) ≡ true
  pub row₂ : board₂.row ≡ 1 ∷ 2 ∷ 3 ∷ 4 ∷ 5 ∷ 6 ∷ []
  -- 5 before 2: it has to be 1 5 2 4 3 6
  pub allowed₃ : refusal board₂ (Links (5 ⟶ 2)) ≡ None
  pub backward₃ : backward board₂ 5 2 ≡ true
  pub firm₃ : firm board₂ 5 2 (1 ∷ 5 ∷ 2 ∷ 4 ∷ 3 ∷ 6 ∷ []) ≡ true
  pub keeps₃ : keeps (1 ∷ 5 ∷ 2 ∷ 4 ∷ 3 ∷ 6 ∷ []) (with_link board₂ 5 2) ≡ true
  pub must₃ : must_be board₂ (Links (5 ⟶ 2)) board₃.row ≡ true
  pub row₃ : board₃.row ≡ 1 ∷ 5 ∷ 2 ∷ 4 ∷ 3 ∷ 6 ∷ []
  -- three other rows keep the links and are little changed as well; but in each of them the lake, 4, has another place, and so they are not firm
  pub little₃_a : little board₂ 5 2 (1 ∷ 5 ∷ 2 ∷ 3 ∷ 4 ∷ 6 ∷ []) ≡ true
  pub keeps₃_a : keeps (1 ∷ 5 ∷ 2 ∷ 3 ∷ 4 ∷ 6 ∷ []) (with_link board₂ 5 2) ≡ true
  pub firm₃_a : firm board₂ 5 2 (1 ∷ 5 ∷ 2 ∷ 3 ∷ 4 ∷ 6 ∷ []) ≡ false
  pub little₃_b : little board₂ 5 2 (1 ∷ 4 ∷ 5 ∷ 2 ∷ 3 ∷ 6 ∷ []) ≡ true
  pub keeps₃_b : keeps (1 ∷ 4 ∷ 5 ∷ 2 ∷ 3 ∷ 6 ∷ []) (with_link board₂ 5 2) ≡ true
  pub firm₃_b : firm board₂ 5 2 (1 ∷ 4 ∷ 5 ∷ 2 ∷ 3 ∷ 6 ∷ []) ≡ false
  pub little₃_c : little board₂ 5 2 (1 ∷ 5 ∷ 4 ∷ 2 ∷ 3 ∷ 6 ∷ []) ≡ true
  pub keeps₃_c : keeps (1 ∷ 5 ∷ 4 ∷ 2 ∷ 3 ∷ 6 ∷ []) (with_link board₂ 5 2) ≡ true
  pub firm₃_c : firm board₂ 5 2 (1 ∷ 5 ∷ 4 ∷ 2 ∷ 3 ∷ 6 ∷ []) ≡ false
  -- 4 before 1: it has to be 4 5 2 1 3 6
  pub allowed₄ : refusal board₃ (Links (4 ⟶ 1)) ≡ None
  pub firm₄ : firm board₃ 4 1 (4 ∷ 5 ∷ 2 ∷ 1 ∷ 3 ∷ 6 ∷ []) ≡ true
  pub keeps₄ : keeps (4 ∷ 5 ∷ 2 ∷ 1 ∷ 3 ∷ 6 ∷ []) (with_link board₃ 4 1) ≡ true
  pub row₄ : board₄.row ≡ 4 ∷ 5 ∷ 2 ∷ 1 ∷ 3 ∷ 6 ∷ []
  -- 6 before 5: that would go round, by 5 2 3 6
  pub round₄ : refusal board₄ (Links (6 ⟶ 5)) ≡ Some Cycle
  pub way₄ : goes_round board₄ 6 5 (5 ∷ 2 ∷ 3 ∷ 6 ∷ []) ≡ true
  -- 3 before 3: a card can't stand before itself; the way is the card alone
  pub itself₄ : refusal board₄ (Links (3 ⟶ 3)) ≡ Some Cycle
  pub alone₄ : goes_round board₄ 3 3 (3 ∷ []) ≡ true
  pub twice₄ : goes_round board₄ 3 3 (3 ∷ 3 ∷ []) ≡ false
  -- 5 needn't be before 2: the row stays
  pub allowed₅ : refusal board₄ (Unlinks (5 ⟶ 2)) ≡ None
  pub must₅ : must_be board₄ (Unlinks (5 ⟶ 2)) (4 ∷ 5 ∷ 2 ∷ 1 ∷ 3 ∷ 6 ∷ []) ≡ true
  pub row₅ : board₅.row ≡ 4 ∷ 5 ∷ 2 ∷ 1 ∷ 3 ∷ 6 ∷ []
  -- now 6 before 5 can be: it has to be 4 2 3 1 6 5
  pub allowed₆ : refusal board₅ (Links (6 ⟶ 5)) ≡ None
  pub firm₆ : firm board₅ 6 5 (4 ∷ 2 ∷ 3 ∷ 1 ∷ 6 ∷ 5 ∷ []) ≡ true
  pub keeps₆ : keeps (4 ∷ 2 ∷ 3 ∷ 1 ∷ 6 ∷ 5 ∷ []) (with_link board₅ 6 5) ≡ true
  pub row₆ : board₆.row ≡ 4 ∷ 2 ∷ 3 ∷ 1 ∷ 6 ∷ 5 ∷ []
  -- 2 goes, and its link with it
  pub allowed₇ : refusal board₆ (Goes 2) ≡ None
  pub row₇ : board₇.row ≡ 4 ∷ 3 ∷ 1 ∷ 6 ∷ 5 ∷ []
  pub links₇ : board₇.links ≡ (3 ⟶ 6) ∷ (4 ⟶ 1) ∷ (6 ⟶ 5) ∷ []
  -- the places of 4 and 5
  pub asked₇ : refusal board₇ (Places 4 5) ≡ None
  pub first₇ : place board₇.row 4 ≡ 0
  pub last₇ : place board₇.row 5 ≡ 4
  -- 7 before 1: there is no 7; 4 before 1: that is said already
  pub missing₇ : refusal board₇ (Links (7 ⟶ 1)) ≡ Some Missing
  pub exists₇ : refusal board₇ (Links (4 ⟶ 1)) ≡ Some Exists

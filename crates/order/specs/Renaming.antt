-- A board with other names for its cards is the same board. These are definitions: nothing is assumed.
--   named f l         the link with other names for its two cards
--   renamed f r       the board with other names for its cards
--   Naming f D r      f has different names for different cards that D has, and D has each card that stands on the board, in its row or in a link
--   Renamed f D r     what is so of the board with other names, for cards that D has
--   Renames           the statement, a type: whatever the names are, that is so; `src/theory.rt` has the function whose contract it is
use Rattle.std.specs.Prelude.{◌≡◌, ℕ, Bool, true, not, ◌&&◌, ◌||◌, List, map, length, ◌==◌}
use Rattle.order.specs.declared.board.Link.{Link}
use Rattle.order.specs.Lists.{every, filter, has, place, distinct}
use Rattle.order.specs.Board.{Board, ◌⟶◌, linked, keeps, fine, leads}
use Rattle.order.specs.Reordering.{link_refusal, with_link, backward, touched, little, firm, goes_round}

abbrev pub named : (ℕ → ℕ) → Link → Link
named f l = record { from = f l.from; to = f l.to }

abbrev pub renamed : (ℕ → ℕ) → Board → Board
renamed f r = record { row = map f r.row; links = map (named f) r.links }

pub record Naming (f : ℕ → ℕ) (D : ℕ → Bool) (r : Board) : Type 0 where
  pub tell : (j k : ℕ) → D j ≡ true → D k ≡ true → f j ≡ f k → j ≡ k
  pub cards : every D r.row ≡ true
  pub ends : every (λ l. D l.from && D l.to) r.links ≡ true

pub record Renamed (f : ℕ → ℕ) (D : ℕ → Bool) (r : Board) : Type 0 where
  -- of the row
  pub length_named : length (renamed f r).row ≡ length r.row
  pub distinct_named : distinct (renamed f r).row ≡ distinct r.row
  pub has_named : (k : ℕ) → D k ≡ true → has (renamed f r).row (f k) ≡ has r.row k
  pub place_named : (k : ℕ) → D k ≡ true → place (renamed f r).row (f k) ≡ place r.row k
  -- of the links
  pub length_links_named : length (renamed f r).links ≡ length r.links
  pub linked_named : (a b : ℕ) → D a ≡ true → D b ≡ true → linked (renamed f r) (f a) (f b) ≡ linked r a b
  pub leads_named : (a b : ℕ) → D a ≡ true → D b ≡ true → leads (renamed f r) (f a) (f b) ≡ leads r a b
  -- of both: the board's own row, and any other
  pub fine_named : fine (renamed f r) ≡ fine r
  pub keeps_named : keeps (renamed f r).row (renamed f r).links ≡ keeps r.row r.links
  pub keeps_other_named : (row : List ℕ) → every D row ≡ true → keeps (map f row) (renamed f r).links ≡ keeps row r.links
  -- of one more link
  pub with_link_named : (a b : ℕ) → with_link (renamed f r) (f a) (f b) ≡ map (named f) (with_link r a b)
  pub keeps_with_link_named : (a b : ℕ) (row : List ℕ) → D a ≡ true → D b ≡ true → every D row ≡ true →
      keeps (map f row) (with_link (renamed f r) (f a) (f b)) ≡ keeps row (with_link r a b)
  pub refusal_named : (a b : ℕ) → D a ≡ true → D b ≡ true → link_refusal (renamed f r) (f a ⟶ f b) ≡ link_refusal r (a ⟶ b)
  pub goes_round_named : (a b : ℕ) (ks : List ℕ) → D a ≡ true → D b ≡ true → every D ks ≡ true →
      goes_round (renamed f r) (f a) (f b) (map f ks) ≡ goes_round r a b ks
  pub way_named : (a b : ℕ) (ks : List ℕ) → every D ks ≡ true → goes_round r a b ks ≡ true → goes_round (renamed f r) (f a) (f b) (map f ks) ≡ true
  pub backward_named : (a b : ℕ) → D a ≡ true → D b ≡ true → backward (renamed f r) (f a) (f b) ≡ backward r a b
  pub touched_named : (a b k : ℕ) → D a ≡ true → D b ≡ true → D k ≡ true → touched (renamed f r) (f a) (f b) (f k) ≡ touched r a b k
  pub little_named : (a b : ℕ) (row : List ℕ) → D a ≡ true → D b ≡ true → every D row ≡ true →
      little (renamed f r) (f a) (f b) (map f row) ≡ little r a b row
  pub firm_named : (a b : ℕ) (row : List ℕ) → D a ≡ true → D b ≡ true → every D row ≡ true →
      firm (renamed f r) (f a) (f b) (map f row) ≡ firm r a b row
  -- of what is left without a card, or without a link
  pub row_without_named : (k : ℕ) → D k ≡ true →
      map f (filter (λ j. not (j == k)) r.row) ≡ filter (λ j. not (j == f k)) (renamed f r).row
  pub links_without_named : (k : ℕ) → D k ≡ true →
      map (named f) (filter (λ l. not (l.from == k || l.to == k)) r.links)
      ≡ filter (λ l. not (l.from == f k || l.to == f k)) (renamed f r).links
  pub without_link_named : (a b : ℕ) → D a ≡ true → D b ≡ true →
      map (named f) (filter (λ l. not (l.from == a && l.to == b)) r.links)
      ≡ filter (λ l. not (l.from == f a && l.to == f b)) (renamed f r).links

abbrev pub Renames : Type 0
Renames = (f : ℕ → ℕ) (D : ℕ → Bool) (r : Board) → Naming f D r → Renamed f D r

-- What is excluded: on small boards, rows and ways that one might take for right and that are not, next to those that are. Each line is an equation that holds
-- by computation.
--   pulled    1 2 3, with 2 before 3: for 3 before 1 it isn't enough to move 3 alone
--   pushed    1 2 3, with 1 before 2: nor to move 1 alone
--   loose     1 2 3 4, without links: a link is no reason to make the whole row anew, nor to move anything where it is kept already
--   chained   1 2 3, with 1 before 2 and 2 before 3: what goes round is refused, whether something would have to move or not
--   long      1 5 2 3 6 4, each before the next: a way is neither longer nor shorter than it has to be
--   said      1 2 3, with 1 before 2 said on it
--   unsaid    the same, once that is taken back
--   Excluded  what is so of them
use Rattle.std.specs.Prelude.{◌≡◌, true, false, [], ◌∷◌, Some, None}
use Rattle.command.specs.declared.command.Command.TheVariants.{Link as Links, Unlink as Unlinks}
use Rattle.order.specs.declared.board.Refusal.TheVariants.{Missing, Exists, Cycle}
use Rattle.order.specs.Board.{Board, ◌⟶◌, linked, keeps, fine, leads}
use Rattle.command.specs.Commands.{refusal, after, may_be, must_be}
use Rattle.order.specs.Reordering.{with_link, backward, follows, goes_round}

abbrev pub pulled : Board
pulled = record { row = 1 ∷ 2 ∷ 3 ∷ []; links = (2 ⟶ 3) ∷ [] }

abbrev pub pushed : Board
pushed = record { row = 1 ∷ 2 ∷ 3 ∷ []; links = (1 ⟶ 2) ∷ [] }

abbrev pub loose : Board
loose = record { row = 1 ∷ 2 ∷ 3 ∷ 4 ∷ []; links = [] }

abbrev pub chained : Board
chained = record { row = 1 ∷ 2 ∷ 3 ∷ []; links = (1 ⟶ 2) ∷ (2 ⟶ 3) ∷ [] }

abbrev pub long : Board
long = record { row = 1 ∷ 5 ∷ 2 ∷ 3 ∷ 6 ∷ 4 ∷ []; links = (1 ⟶ 5) ∷ (5 ⟶ 2) ∷ (2 ⟶ 3) ∷ (3 ⟶ 6) ∷ (6 ⟶ 4) ∷ [] }

abbrev pub said : Board
said = after (record { row = 1 ∷ 2 ∷ 3 ∷ []; links = [] }) (Links (1 ⟶ 2)) []

abbrev pub unsaid : Board
unsaid = after said (Unlinks (1 ⟶ 2)) []

pub record Excluded : Type 0 where
  -- 2 before 3 on the row 1 2 3, and now 3 before 1
  pub pulled_fine : fine pulled ≡ true
  pub pulled_allowed : refusal pulled (Links (3 ⟶ 1)) ≡ None
  -- 3 moved in front of 1, and nothing else: 2 stands behind 3
  pub pulled_alone_breaks : keeps (3 ∷ 1 ∷ 2 ∷ []) (with_link pulled 3 1) ≡ false
  pub pulled_alone_may : may_be pulled (Links (3 ⟶ 1)) (3 ∷ 1 ∷ 2 ∷ []) ≡ false
  pub pulled_alone_must : must_be pulled (Links (3 ⟶ 1)) (3 ∷ 1 ∷ 2 ∷ []) ≡ false
  -- what has to stand before 3 goes with it
  pub pulled_right_keeps : keeps (2 ∷ 3 ∷ 1 ∷ []) (with_link pulled 3 1) ≡ true
  pub pulled_right_must : must_be pulled (Links (3 ⟶ 1)) (2 ∷ 3 ∷ 1 ∷ []) ≡ true
  -- 1 before 2 on the row 1 2 3, and now 3 before 1
  pub pushed_fine : fine pushed ≡ true
  pub pushed_allowed : refusal pushed (Links (3 ⟶ 1)) ≡ None
  -- 1 moved behind 3, and nothing else: 2 stands before 1
  pub pushed_alone_breaks : keeps (2 ∷ 3 ∷ 1 ∷ []) (with_link pushed 3 1) ≡ false
  pub pushed_alone_may : may_be pushed (Links (3 ⟶ 1)) (2 ∷ 3 ∷ 1 ∷ []) ≡ false
  pub pushed_alone_must : must_be pushed (Links (3 ⟶ 1)) (2 ∷ 3 ∷ 1 ∷ []) ≡ false
  -- what has to stand behind 1 goes with it
  pub pushed_right_keeps : keeps (3 ∷ 1 ∷ 2 ∷ []) (with_link pushed 3 1) ≡ true
  pub pushed_right_must : must_be pushed (Links (3 ⟶ 1)) (3 ∷ 1 ∷ 2 ∷ []) ≡ true
  -- no links on the row 1 2 3 4, and now 3 before 2
  pub loose_fine : fine loose ≡ true
  pub loose_allowed : refusal loose (Links (3 ⟶ 2)) ≡ None
  -- the whole row made anew: it keeps the link, and still it may not be
  pub anew_keeps : keeps (4 ∷ 3 ∷ 2 ∷ 1 ∷ []) (with_link loose 3 2) ≡ true
  pub anew_may : may_be loose (Links (3 ⟶ 2)) (4 ∷ 3 ∷ 2 ∷ 1 ∷ []) ≡ false
  pub anew_must : must_be loose (Links (3 ⟶ 2)) (4 ∷ 3 ∷ 2 ∷ 1 ∷ []) ≡ false
  -- the two change places, and the others stay
  pub changed_keeps : keeps (1 ∷ 3 ∷ 2 ∷ 4 ∷ []) (with_link loose 3 2) ≡ true
  pub changed_may : may_be loose (Links (3 ⟶ 2)) (1 ∷ 3 ∷ 2 ∷ 4 ∷ []) ≡ true
  pub changed_must : must_be loose (Links (3 ⟶ 2)) (1 ∷ 3 ∷ 2 ∷ 4 ∷ []) ≡ true
  -- on the same row 1 before 4, which is so already: 2 and 3 exchanged would keep the link too, and may not be
  pub already_allowed : refusal loose (Links (1 ⟶ 4)) ≡ None
  pub already_forward : backward loose 1 4 ≡ false
  pub exchanged_keeps : keeps (1 ∷ 3 ∷ 2 ∷ 4 ∷ []) (with_link loose 1 4) ≡ true
  pub exchanged_may : may_be loose (Links (1 ⟶ 4)) (1 ∷ 3 ∷ 2 ∷ 4 ∷ []) ≡ false
  pub exchanged_must : must_be loose (Links (1 ⟶ 4)) (1 ∷ 3 ∷ 2 ∷ 4 ∷ []) ≡ false
  pub stays_may : may_be loose (Links (1 ⟶ 4)) (1 ∷ 2 ∷ 3 ∷ 4 ∷ []) ≡ true
  pub stays_must : must_be loose (Links (1 ⟶ 4)) (1 ∷ 2 ∷ 3 ∷ 4 ∷ []) ≡ true
  -- 1 before 2 and 2 before 3: a card before itself is refused, though nothing stands the wrong way round
  pub chained_fine : fine chained ≡ true
  pub itself_forward : backward chained 2 2 ≡ false
  pub itself_refused : refusal chained (Links (2 ⟶ 2)) ≡ Some Cycle
  pub itself_breaks : keeps (1 ∷ 2 ∷ 3 ∷ []) (with_link chained 2 2) ≡ false
  -- 2 before 1 is refused, and 3 before 1 too, though no single link says 1 before 3
  pub back_refused : refusal chained (Links (2 ⟶ 1)) ≡ Some Cycle
  pub far_unlinked : linked chained 1 3 ≡ false
  pub far_leads : leads chained 1 3 ≡ true
  pub far_refused : refusal chained (Links (3 ⟶ 1)) ≡ Some Cycle
  -- what is said by two links can still be said by one
  pub short_allowed : refusal chained (Links (1 ⟶ 3)) ≡ None
  -- each before the next on the row 1 5 2 3 6 4: 6 before 5 would go round by 5 2 3 6
  pub long_fine : fine long ≡ true
  pub long_refused : refusal long (Links (6 ⟶ 5)) ≡ Some Cycle
  pub long_way : goes_round long 6 5 (5 ∷ 2 ∷ 3 ∷ 6 ∷ []) ≡ true
  -- a card twice
  pub way_twice : goes_round long 6 5 (5 ∷ 2 ∷ 2 ∷ 3 ∷ 6 ∷ []) ≡ false
  pub way_closed : goes_round long 6 5 (5 ∷ 2 ∷ 3 ∷ 6 ∷ 5 ∷ []) ≡ false
  pub way_again : goes_round long 6 5 (5 ∷ 2 ∷ 3 ∷ 6 ∷ 6 ∷ []) ≡ false
  -- a card too many behind the last, and before the first, each linked to the next all the same
  pub way_behind_follows : follows long (5 ∷ 2 ∷ 3 ∷ 6 ∷ 4 ∷ []) ≡ true
  pub way_behind : goes_round long 6 5 (5 ∷ 2 ∷ 3 ∷ 6 ∷ 4 ∷ []) ≡ false
  pub way_ahead_follows : follows long (1 ∷ 5 ∷ 2 ∷ 3 ∷ 6 ∷ []) ≡ true
  pub way_ahead : goes_round long 6 5 (1 ∷ 5 ∷ 2 ∷ 3 ∷ 6 ∷ []) ≡ false
  -- a card too few: the first, one between, the last, all
  pub way_late : goes_round long 6 5 (2 ∷ 3 ∷ 6 ∷ []) ≡ false
  pub way_gap : goes_round long 6 5 (5 ∷ 3 ∷ 6 ∷ []) ≡ false
  pub way_early : goes_round long 6 5 (5 ∷ 2 ∷ 3 ∷ []) ≡ false
  pub way_empty : goes_round long 6 5 [] ≡ false
  -- the right cards, backward
  pub way_backward : goes_round long 6 5 (6 ∷ 3 ∷ 2 ∷ 5 ∷ []) ≡ false
  -- 1 before 2 is said: saying it again is refused, so that there is one link
  pub said_linked : linked said 1 2 ≡ true
  pub said_links : said.links ≡ (1 ⟶ 2) ∷ []
  pub said_twice : refusal said (Links (1 ⟶ 2)) ≡ Some Exists
  -- taken back once it is no more; it can't be taken back again, and it can be said again
  pub back_allowed : refusal said (Unlinks (1 ⟶ 2)) ≡ None
  pub back_unlinked : linked unsaid 1 2 ≡ false
  pub back_links : unsaid.links ≡ []
  pub back_twice : refusal unsaid (Unlinks (1 ⟶ 2)) ≡ Some Missing
  pub said_again : refusal unsaid (Links (1 ⟶ 2)) ≡ None
  -- the other way round it was never said
  pub other_way : refusal said (Unlinks (2 ⟶ 1)) ≡ Some Missing

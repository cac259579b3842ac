-- Links are tried one after the other, and taken out again, as the code goes.
--
--   Joined            the memory after a link was tried; and the way by which it would go round, if it would
--   put_down m x      a link between slots put in
--   joined_slots m x  a link between slots tried: the row is settled for it, if it goes backward, and it's put in; or it goes round
--   joined m l        the same of a link between cards
--   Tried             the memory after links were tried, how many were put in, and the way by which the next one would go round, if it would
--   tried m ls i      links tried one after the other, up to the first that goes round; i were put in before
--   dropped m l       a link between cards taken out of the table
--   taken_out m ls    so for each of the links
--   way_count o       how many cards are shown of a way; way_cards o: which
--   round_of t        the link that would go round, if one would: how many were put in before it, and how many cards are shown of the way
--   unless o          done, unless something stands in the way
--   JoinedSo j out    what a link that was tried comes to is j: done, or the way shown at the front of the output, and the memory after it
--   TriedSo t out     the same of links that were tried
use Rattle.std.specs.Prelude.{◌≡◌, ℕ, ◌+◌, cond, List, [], ◌∷◌, length, Some, None, Ok, Err, Option, Result, ◌==◌, nat_lt}
use Rattle.order.specs.declared.board.Link.{Link}
use Rattle.memory.specs.Columns.{cell}
use Rattle.row.specs.declared.layout.TheConstants.{SEATS}
use Rattle.memory.specs.Options.{given}
use Rattle.links.specs.Entries.{inserted, removed}
use Rattle.search.specs.Hunt.{meeting}
use Rattle.search.specs.Settle.{forgotten, settled}
use Rattle.keeper.specs.Linking.{slots_found}
use Rattle.keeper.specs.Reordering.{round_cards}
use Rattle.keeper.specs.Playing.{fronted}
use Rattle.batch.specs.declared.joining.Round.{Round}
use Rattle.std.specs.List.{fold}

pub record Joined : Type 0 where
  pub memory : List ℕ
  pub way : Option (List ℕ)

abbrev pub put_down : List ℕ → Link → Joined
put_down m x = record { memory = inserted m x; way = None }

unfoldable pub joined_slots : List ℕ → Link → Joined
joined_slots m x =
    cond (nat_lt (cell m SEATS x.to) (cell m SEATS x.from))
    (given (meeting m x).answer (put_down (settled (meeting m x).memory) x) (λ y.
    record { memory = forgotten (meeting m x).memory; way = Some (round_cards (meeting m x).memory x y) }))
    (put_down m x)

unfoldable pub joined : List ℕ → Link → Joined
joined m l =
    given (slots_found m l) (record { memory = m; way = None }) (λ x.
    cond (x.from == x.to) (record { memory = m; way = Some (l.from ∷ []) }) (joined_slots m x))

pub record Tried : Type 0 where
  pub memory : List ℕ
  pub count : ℕ
  pub way : Option (List ℕ)

unfoldable pub tried : List ℕ → List Link → ℕ → Tried
tried m [] i = record { memory = m; count = i; way = None }
tried m (l ∷ ls) i =
    given (joined m l).way (tried (joined m l).memory ls (i + 1)) (λ ks. record { memory = (joined m l).memory; count = i; way = Some ks })

unfoldable pub dropped : List ℕ → Link → List ℕ
dropped m l = given (slots_found m l) m (λ x. (removed m x).memory)

unfoldable pub taken_out : List ℕ → List Link → List ℕ
taken_out m ls = fold dropped m ls

abbrev pub way_count : Option (List ℕ) → Option ℕ
way_count None = None
way_count (Some ks) = Some (length ks)

abbrev pub way_cards : Option (List ℕ) → List ℕ
way_cards None = []
way_cards (Some ks) = ks

abbrev pub round_of : Tried → Option Round
round_of t = given t.way None (λ ks. Some (record { count = t.count; shown = length ks }))

abbrev pub unless : {X : Type 0} → Option X → Result (Unit {0}) X
unless None = Ok tt
unless (Some x) = Err x

pub record JoinedSo (j : Joined) (out₀ : List ℕ) (r : Result (Unit {0}) ℕ) (m₁ out₁ : List ℕ) : Type 0 where
  pub is : r ≡ unless (way_count j.way)
  pub after : m₁ ≡ j.memory
  pub out : out₁ ≡ fronted (way_cards j.way) out₀

pub record TriedSo (t : Tried) (out₀ : List ℕ) (r : Result (Unit {0}) Round) (m₁ out₁ : List ℕ) : Type 0 where
  pub is : r ≡ unless (round_of t)
  pub after : m₁ ≡ t.memory
  pub out : out₁ ≡ fronted (way_cards t.way) out₀

-- The laws of the row, as the functions that they are about say them.
use Rattle.std.proofs.Common.{◌≡◌, ℕ, List, Option, Result, sym, refl, ◌∙◌}
use Rattle.order.specs.declared.board.Refusal.{Refusal}
use Rattle.memory.specs.Columns.{cell}
use Rattle.row.specs.declared.layout.TheConstants.{SLOTS, SEATS}
use Rattle.row.specs.Lookup.{found}
use Rattle.row.specs.Meaning.{count, rank, place_at}
use Rattle.row.specs.Moves.{put_at, packed, came, gone, place_found}
use Rattle.row.specs.Telling.{selected, told, told_count}
use Rattle.row.specs.Laws.{Comes, Goes, Counts, Finds, FindsPlace, Places, Orders, Sits, Putting, Packs, Ranks, Selects, Tells}
use Rattle.row.proofs.Rows.{seated, order_is, rank_below, slot_is}
use Rattle.row.proofs.Named.{place_slot}
use Rattle.row.proofs.Present.{length_cards, slot_used, finds_place, finds}
use Rattle.row.proofs.Again.{packs}
use Rattle.row.proofs.Coming.{comes_appends}
use Rattle.row.proofs.Going.{goes_filters}
use Rattle.row.proofs.Puttings.{putting}
use Rattle.row.proofs.Tellings.{selects, tells_middle}

-- a card that comes is last
pub comes_so : (m : List ℕ) (k : ℕ) (r : Result ℕ Refusal) (m' : List ℕ) → r ≡ (came m k).answer → m' ≡ (came m k).memory → Comes m k r m'
unfolding Comes
comes_so m k r m' e f S = let w = comes_appends m k S in rw (e, f) (λ h. rw (w.0 h) (refl, refl), λ h l. rw (w.1 h l) (refl, refl), w.2)

-- a card that goes leaves the others in their order
pub goes_so : (m : List ℕ) (k : ℕ) (r : Result ℕ Refusal) (m' : List ℕ) → r ≡ (gone m k).answer → m' ≡ (gone m k).memory → Goes m k r m'
unfolding Goes
goes_so m k r m' e f S = let w = goes_filters m k S in rw (e, f) (λ h. rw (w.0 h) (refl, refl), w.1)

pub counts_so : (m : List ℕ) (r : ℕ) → r ≡ count m → Counts m r
unfolding Counts
counts_so m r e S = e ∙ sym (length_cards m S)

-- cards are found, and stand in their places
pub finds_so : (m : List ℕ) (k : ℕ) (r : Option ℕ) → r ≡ found m k → Finds m k r
unfolding Finds
finds_so m k r e S = let w = finds m k S in rw e (w.1, w.2)

pub finds_place_so : (m : List ℕ) (k : ℕ) (r : Option ℕ) → r ≡ place_found m k → FindsPlace m k r
unfolding FindsPlace
finds_place_so m k r e S = e ∙ finds_place m k S

pub places_so : (m : List ℕ) (s r : ℕ) → r ≡ place_at m s → Places m s r
unfolding Places
places_so m s r e S u = e ∙ sym (place_slot m S s u)

pub orders_so : (m : List ℕ) (s r : ℕ) → r ≡ cell m SEATS s → Orders m s r
unfolding Orders
orders_so m s r e S u t v = rw e (order_is m (seated m S) s t u v)

pub sits_so : (m : List ℕ) (p r : ℕ) → r ≡ cell m SLOTS p → Sits m p r
unfolding Sits
sits_so m p r e S h = rw e (slot_used m S p h)

-- slots take other seats
pub putting_so : (m : List ℕ) (p s : ℕ) (m' : List ℕ) → m' ≡ put_at m p s → Putting m p s m'
unfolding Putting
putting_so m p s m' e S h l = rw e (putting m p s S h l)

pub packs_so : (m m' : List ℕ) → m' ≡ packed m → Packs m m'
unfolding Packs
packs_so m m' e S = rw e (packs m S)

-- from a seat to its place, and back
pub ranks_so : (m : List ℕ) (p r : ℕ) → r ≡ rank m p → Ranks m p r
unfolding Ranks
ranks_so m p r e S h = rw e (rank_below m (seated m S) p h, slot_is m (seated m S) p h)

pub selects_so : (m : List ℕ) (n r : ℕ) → r ≡ selected m n → Selects m n r
unfolding Selects
selects_so m n r e S l = rw e (selects m S n l)

pub tells_so : (m : List ℕ) (p n : ℕ) (o : List ℕ) (r : ℕ) (x : List ℕ) → r ≡ told_count m p n o → x ≡ told m p n o → Tells m p n o r x
unfolding Tells
tells_so m p n o r x e f S h l = rw (e, f) (tells_middle m p n o S h l)

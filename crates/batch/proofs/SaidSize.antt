-- Several links said at once keep the size of the memory, whatever stands there, and what is answered fits what carries it.
use Rattle.std.proofs.Common.{◌≡◌, ℕ, ◌+◌, ◌^◌, ◌≤◌, true, eqb, ltb, List, [], ◌∷◌, length, Some, None, Option, refl, arith, Ok, ◌-◌, ◌<◌, min, leb, take}
use lib.ListN.{length-map}
use Rattle.std.proofs.lemmas.Bool.{and_parts, ltb-true, cond_both}
use Rattle.order.specs.declared.board.TheConstants.{CARDS, LINKS}
use Rattle.order.specs.Lists.{every}
use Rattle.memory.proofs.Cells.{small_cell}
use Rattle.search.specs.Way.{way}
use Rattle.search.proofs.Joining.{way_few}
use Rattle.keeper.specs.Promise.{all_small, small_command}
use Rattle.keeper.specs.Sized.{KeepsSize}
use Rattle.keeper.specs.Reordering.{round_cards}
use Rattle.keeper.proofs.Size.{small_each, small_map, size_writes, size_same, size_then, cond_holds}
use Rattle.keeper.proofs.OwnSize.{Few, few_answer, small_one, Any, size_pending, Sized, sized_done, sized_refuses, sized_then, sized_cond, sized_shows, sized_on}
use Rattle.batch.specs.Promise.{small_link}
use Rattle.memory.specs.declared.column.Column.{Column}
use Rattle.memory.specs.Columns.{cell}
use Rattle.memory.specs.Footprints.{Writes}
use Rattle.memory.proofs.Footprints.{same, on, less, after}
use Rattle.memory.proofs.Options.{given_holds}
use Rattle.order.specs.declared.board.Link.{Link}
use Rattle.row.specs.declared.layout.TheConstants.{IDS, SLOTS, SEATS}
use Rattle.links.specs.Entries.{inserted, live}
use Rattle.links.specs.Table.{columns as table}
use Rattle.links.proofs.Writing.{inserted_writes, removed_writes}
use Rattle.search.specs.declared.layout.TheConstants.{VIA, CHOSEN, FORE, HIND}
use Rattle.search.specs.Columns.{searched, sets}
use Rattle.search.specs.Hunt.{meeting}
use Rattle.search.specs.Settle.{forgotten, settled}
use Rattle.search.proofs.Touching.{writes_meeting}
use Rattle.search.proofs.SettleFrames.{writes_forgotten}
use Rattle.keeper.specs.Linking.{slots_found}
use Rattle.keeper.proofs.Bounds.{settled_writes}
use Rattle.batch.specs.Joining.{Joined, joined_slots, joined, Tried, tried, dropped, taken_out}
use Rattle.order.specs.declared.board.Refusal.TheVariants.{Missing, Exists, Full}
use Rattle.row.specs.Moves.{packed}
use Rattle.row.proofs.Framing.{packed_writes}
use Rattle.batch.specs.declared.layout.TheConstants.{BATCH}
use Rattle.batch.specs.declared.seating.Span.{Span}
use Rattle.batch.specs.Checking.{all_found, repeated, wider, widened, spanned, moving, no_span, span}
use Rattle.batch.specs.Saying.{noting, told_span, part_aside, undone, brought, by_trial, rearranged, said_several}
use Rattle.batch.specs.Seating.{reseated}
use Rattle.memory.specs.Options.{given}
use Rattle.keeper.specs.Answers.{quiet, ends, Answer, pending}
use Rattle.keeper.specs.declared.event.Act.TheVariants.{Done}
use Rattle.batch.specs.declared.checking.Named.{Named}
use Rattle.batch.proofs.Saving.{saved_writes}
use Rattle.batch.proofs.Writing.{reseated_writes}
use Rattle.batch.proofs.SpanTold.{noting_writes}
use Rattle.keeper.specs.declared.event.Event.TheVariants.{Said, Next}
use Rattle.keeper.specs.Own.{answer as keeper_answer}
use Rattle.batch.specs.Tidying.{tidied}
use Rattle.batch.specs.Engine.{one, several, anew, Heard, said, next}
use Rattle.batch.specs.Own.{said_anew, when_idle, answer}

-- the columns that are written
abbrev pub tried_columns : List Column
tried_columns = SLOTS ∷ SEATS ∷ VIA ∷ CHOSEN ∷ FORE.column ∷ HIND.column ∷ table

abbrev pub Trying : List ℕ → List ℕ → Type 0
Trying = Writes tried_columns

then_inserted : (m n : List ℕ) (x : Link) → Trying m n → Trying m (inserted n x)
then_inserted m n x = after tried_columns table m n (inserted n x) refl (inserted_writes n x)

-- a way to be shown fits what carries it; if S, its numbers are small where those of m are
abbrev pub WayFits : Type 0 → List ℕ → Option (List ℕ) → Type 0
WayFits S m None = Unit {0}
WayFits S m (Some ks) = (length ks ≤ CARDS) × (S → all_small m ≡ true → all_small ks ≡ true)

-- what comes of links that are tried in m
pub record TriedSo (S : Type 0) (m n : List ℕ) (o : Option (List ℕ)) : Type 0 where
  pub wrote : Trying m n
  pub fits : WayFits S m o

module _ (S : Type 0) where
  pub way_then : (m n : List ℕ) (o : Option (List ℕ)) → KeepsSize m n → WayFits S n o → WayFits S m o
  way_then m n None b w = tt
  way_then m n (Some ks) b w = (w.0, λ s h. w.1 s (b.1 h))

  abbrev Joins : List ℕ → Joined → Type 0
  Joins m j = TriedSo S m j.memory j.way

  stays : (m : List ℕ) → TriedSo S m m None
  stays m = record { wrote = same tried_columns m; fits = tt }

  -- a link that is tried
  joined_slots_so : (m : List ℕ) (x : Link) → Joins m (joined_slots m x)
  unfolding joined_slots round_cards
  joined_slots_so m x =
      let n = (meeting m x).memory in
      let h = less tried_columns searched m n refl (writes_meeting m x) in
      let k = after tried_columns _ m n (settled n) refl (settled_writes n) h in
      cond_both (ltb (cell m SEATS x.to) (cell m SEATS x.from)) _ _ (Joins m)
      (λ _. given_holds Any (Joins m) (meeting m x).answer _ _ tt (record { wrote = then_inserted m (settled n) x k; fits = tt })
      (λ y _.
      let ks = way (cell n VIA) CARDS x y in
      record {
        wrote = after tried_columns sets m n (forgotten n) refl (writes_forgotten n) h;
        fits = (
          omega (arith, length-map ks (cell n IDS), way_few (cell n VIA) CARDS x y),
          λ _ s. small_map (cell n IDS) (λ i. small_cell n IDS i (h.small (small_each m s))) ks,
        );
      }))
      (λ _. record { wrote = then_inserted m m x (same tried_columns m); fits = tt })

  joined_so : (m : List ℕ) (l : Link) → (S → small_link l ≡ true) → Joins m (joined m l)
  unfolding joined small_command
  joined_so m l h =
      given_holds Any (Joins m) (slots_found m l) _ _ tt (stays m) (λ x _.
      cond_both (eqb x.from x.to) _ _ (Joins m) (λ _. record {
        wrote = same tried_columns m;
        fits = (omega arith, λ s _. small_one l.from (ltb-true _ _ (and_parts (ltb l.from (2 ^ 64)) _ (h s)).0));
      })
      (λ _. joined_slots_so m x))

  pub tried_so : (m : List ℕ) (ls : List Link) (i : ℕ) → (S → every small_link ls ≡ true) → TriedSo S m (tried m ls i).memory (tried m ls i).way
  unfolding tried every
  tried_so m [] i h = stays m
  tried_so m (l ∷ ls) i h =
      let n = (joined m l).memory in
      let j = joined_so m l (λ s. (and_parts (small_link l) _ (h s)).0) in
      let t = tried_so n ls (i + 1) (λ s. (and_parts (small_link l) _ (h s)).1) in
      given_holds (WayFits S m) (λ (t : Tried). TriedSo S m t.memory t.way) (joined m l).way _ _ j.fits (record {
        wrote = on tried_columns m n _ j.wrote t.wrote;
        fits = way_then m n (tried n ls (i + 1)).way (size_writes tried_columns m n j.wrote) t.fits;
      })
      (λ ks w. record { wrote = j.wrote; fits = w })

-- a link that is taken out
dropped_writes : (m : List ℕ) (l : Link) → Writes table m (dropped m l)
unfolding dropped
dropped_writes m l = given_holds Any (Writes table m) (slots_found m l) _ _ tt (same table m) (λ x _. removed_writes m x)

pub taken_out_writes : (m : List ℕ) (ls : List Link) → Writes table m (taken_out m ls)
unfolding taken_out
taken_out_writes m [] = same table m
taken_out_writes m (l ∷ ls) = on table m (dropped m l) _ (dropped_writes m l) (taken_out_writes (dropped m l) ls)

-- the part of the row that may change
record Bounded (s : Span) : Type 0 where
  low : s.low ≤ CARDS
  high : s.high < 2 ^ 64

abbrev BoundedNamed : Named → Type 0
BoundedNamed s = Bounded s.span

bounded_wider : (m : List ℕ) (l : Link) (s : Named) → Bounded s.span → Bounded (wider m l s).span
unfolding wider widened
bounded_wider m l s b = given_holds Any BoundedNamed (slots_found m l) _ _ tt b (λ x _. record { low = omega arith; high = omega arith })

bounded_spanned : (m : List ℕ) (ls : List Link) (s : Named) → Bounded s.span → Bounded (spanned m ls s).span
unfolding spanned
bounded_spanned m [] s b = b
bounded_spanned m (l ∷ ls) s b = bounded_spanned m ls (wider m l s) (bounded_wider m l s b)

-- it, if there is one
abbrev BoundedPart : Option Span → Type 0
BoundedPart None = Unit {0}
BoundedPart (Some s) = Bounded s

bounded_span : (m : List ℕ) (ls : List Link) → BoundedPart (span m ls)
unfolding moving
bounded_span m ls =
    let s = spanned m ls no_span in
    cond_both s.back (Some s.span) None BoundedPart
    (λ _. bounded_spanned m ls no_span (record { low = omega arith; high = omega arith })) (λ _. tt)

module _ (m : List ℕ) (s : Span) (b : Bounded s) where
  size_noting : KeepsSize m (noting m s)
  size_noting = size_writes _ m _ (noting_writes m s (λ _. omega (arith, b.low)) (λ _. b.high))

  sized_told_span : Sized m (told_span m s)
  sized_told_span = sized_then m (noting m s) size_noting _ (sized_on (noting m s))

  size_reseated : (ls : List Link) → KeepsSize m (reseated (min s.high CARDS - s.low) (taken_out m ls) s.low)
  size_reseated ls =
      let n = taken_out m ls in
      size_then m n _ (size_writes _ m n (taken_out_writes m ls)) (size_writes _ n _ (reseated_writes (min s.high CARDS - s.low) n s.low (omega arith)))

size_undone : (m : List ℕ) (o : Option Span) (b : BoundedPart o) (ls : List Link) → KeepsSize m (undone m ls o)
unfolding undone
size_undone m None b ls = size_writes _ m _ (taken_out_writes m ls)
size_undone m (Some s) b ls = size_reseated m s b ls

sized_part : (m : List ℕ) (o : Option Span) (b : BoundedPart o) → Sized m (given o (quiet (ends (Ok Done) m)) (λ s. told_span m s))
sized_part m None b = sized_done m m (size_same m)
sized_part m (Some s) b = sized_told_span m s b

sized_brought : (m : List ℕ) (o : Option Span) (b : BoundedPart o) (ls : List Link) → Sized m (brought m ls o)
unfolding brought
sized_brought m o b ls =
    sized_cond m (leb (live m) LINKS) _ _ (sized_part m o b) (sized_refuses m (undone m ls o) (size_undone m o b ls) Full)

size_aside : (m : List ℕ) (o : Option Span) → KeepsSize m (part_aside m o)
unfolding part_aside
size_aside m None = size_same m
size_aside m (Some s) = size_writes _ m _ (saved_writes m s.low (min s.high CARDS - s.low))

module _ (m : List ℕ) (ls : List Link) (h : every small_link ls ≡ true) where
  sized_trial : (s : Option Span) (t : Tried) → BoundedPart s → KeepsSize m t.memory → WayFits (Unit {0}) m t.way → Sized m (by_trial t ls s)
  unfolding by_trial
  sized_trial s t b z f =
      let n = t.memory in
      given_holds (WayFits (Unit {0}) m) (Sized m) t.way _ _ f (sized_then m n z _ (sized_brought n s b ls)) (λ ks w.
      let js = take t.count ls in
      sized_shows m _ (length ks) ks (size_pending m _ 2 (omega arith) (size_then m n _ z (size_undone n s b js))) w.0 (w.1 tt))

  sized_rearranged : (s : Option Span) → BoundedPart s → Sized m (rearranged m ls s)
  unfolding rearranged
  sized_rearranged s b =
      let n = part_aside m s in
      let z = size_aside m s in
      let t = tried_so (Unit {0}) n ls 0 (λ _. h) in
      sized_trial s (tried n ls 0) b (size_then m n _ z (size_writes _ n _ t.wrote)) (way_then (Unit {0}) m n (tried n ls 0).way z t.fits)

pub sized_several : (m : List ℕ) (ls : List Link) → every small_link ls ≡ true → Sized m (said_several m ls)
unfolding said_several
sized_several m ls h =
    let no = sized_refuses m m (size_same m) in
    let p = packed m in
    sized_cond m (leb (length ls) BATCH) _ _
    (sized_cond m (all_found m ls) _ _
    (sized_cond m (repeated m [] ls) _ _ (no Exists)
    (sized_then m p (size_writes _ m p (packed_writes m)) _ (sized_rearranged p ls h (span p ls) (bounded_span p ls))))
    (no Missing))
    (no Full)

few_brought : (m : List ℕ) (ls : List Link) (o : Option Span) → Few (brought m ls o)
unfolding brought keeper_answer
few_brought m ls o =
    cond_holds Few (leb (live m) LINKS) _ _ (given_holds Any Few o _ _ tt (omega arith) (λ s _. few_answer (noting m s) Next)) (omega arith)

few_trial : (m : List ℕ) (t : Tried) (ls : List Link) (o : Option Span) → WayFits ⊥ m t.way → Few (by_trial t ls o)
unfolding by_trial
few_trial m t ls o w = given_holds (WayFits ⊥ m) Few t.way _ _ w (few_brought t.memory ls o) (λ ks h. h.0)

few_several : (m : List ℕ) (ls : List Link) → Few (said_several m ls)
unfolding said_several rearranged
few_several m ls =
    cond_holds Few (leb (length ls) BATCH) _ _
    (cond_holds Few (all_found m ls) _ _
    (cond_holds Few (repeated m [] ls) _ _ (omega arith) (few_trial _ _ ls _ (tried_so ⊥ _ ls 0 (λ z. absurd z)).fits)) (omega arith)) (omega arith)

few_idle : (m : List ℕ) (a : Answer) → Few a → Few (when_idle m a)
unfolding when_idle
few_idle m a h = cond_holds Few (eqb (pending m) 0) a _ h (omega arith)

pub few : (m : List ℕ) (h : Heard) → Few (answer m h)
unfolding answer said_anew keeper_answer
few m (said (one c)) = few_answer m (Said c)
few m (said (several ls)) = few_idle m _ (few_several m ls)
few m (said anew) = few_idle m _ (cond_holds Few (tidied m).all _ _ (few_answer _ Next) (omega arith))
few m next = few_answer m Next

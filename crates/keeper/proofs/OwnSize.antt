-- Each step of the keeper's engine keeps the size of the memory, and its answer fits what carries it; no answer has more numbers than the output has room for.
use Rattle.std.proofs.Common.{◌≡◌, ℕ, zero, suc, ◌+◌, ◌-◌, ◌^◌, ◌<◌, ◌≤◌, min, Bool, true, false, cond, eqb, ltb, leb, List, [], ◌∷◌, map, length, take, Some, None, Ok, Err, Option, Result, refl, arith, length-take}
use lib.ListN.{length-map}
use Rattle.std.proofs.lemmas.Bool.{and_parts, and_from, lt-ltb, ltb-true}
use Rattle.order.specs.declared.board.TheConstants.{CARDS, LINKS}
use Rattle.order.specs.declared.board.Link.{Link}
use Rattle.order.specs.declared.board.Refusal.{Refusal}
use Rattle.order.specs.declared.board.Refusal.TheVariants.{Missing, Exists, Cycle, Full}
use Rattle.order.specs.Lists.{every}
use Rattle.command.specs.declared.command.Command.{Command}
use Rattle.command.specs.declared.command.Command.TheVariants.{Comes, Goes, Link as Links, Unlink as Unlinks, Places}
use Rattle.memory.specs.Columns.{cell}
use Rattle.memory.proofs.Cells.{small_cell}
use Rattle.memory.proofs.Footprints.{same}
use Rattle.memory.proofs.Options.{given_holds}
use Rattle.row.specs.declared.layout.TheConstants.{IDS, SEATS, COUNT}
use Rattle.row.specs.Columns.{columns as row_columns}
use Rattle.row.specs.Meaning.{place_at}
use Rattle.row.specs.Lookup.{found}
use Rattle.row.specs.Telling.{next_seat}
use Rattle.row.specs.Moves.{came, gone, place_found}
use Rattle.row.proofs.Counting.{placed_below}
use Rattle.row.proofs.Framing.{came_writes, gone_writes}
use Rattle.links.specs.Table.{columns as link_columns}
use Rattle.links.specs.Entries.{live, found as entry_found, inserted, removed}
use Rattle.links.proofs.Writing.{inserted_writes, removed_writes, removed_all_writes}
use Rattle.search.specs.declared.layout.TheConstants.{VIA}
use Rattle.search.specs.Hunt.{meeting}
use Rattle.search.specs.Settle.{forgotten, settled}
use Rattle.search.specs.Way.{way}
use Rattle.keeper.specs.declared.layout.TheConstants.{TOLD, OUTPUT, MORE_FROM, MORE_TO}
use Rattle.keeper.specs.declared.event.Event.{Event}
use Rattle.keeper.specs.declared.event.Event.TheVariants.{Said, Next}
use Rattle.keeper.specs.declared.event.Reason.TheVariants.{Idle, Busy, Board}
use Rattle.keeper.specs.declared.event.Act.TheVariants.{Shows, Done}
use Rattle.keeper.specs.Columns.{columns}
use Rattle.keeper.specs.Engine.{action_of}
use Rattle.keeper.specs.Promise.{all_small, small_command, Steady}
use Rattle.keeper.specs.Sized.{small_event, KeepsSize, fits, Fits}
use Rattle.keeper.specs.Answers.{Answer, Ended, quiet, ends, refuses, pending, leaves_pending, by_result}
use Rattle.keeper.specs.Telling.{cards_from, middle, left_to_tell, end_at, told_part}
use Rattle.keeper.specs.Reordering.{round_cards, shown_round, moved, reordered}
use Rattle.keeper.specs.Linking.{slots_found, unlinked, put_in, linked}
use Rattle.keeper.specs.Own.{left, shown_places, said, finished, went_on, answer, steps, own}
use Rattle.keeper.proofs.Size.{small_each, small_take, small_map, size_same, size_then, size_writes, cond_holds, guarded_fits, fits_tells, fits_shows, steady_zeros}
use Rattle.keeper.proofs.Carrying.{noted, noted_more}
use Rattle.keeper.proofs.TellingParts.{length_middle}
use Rattle.search.proofs.Touching.{writes_meeting}
use Rattle.keeper.proofs.Bounds.{settled_writes}
use Rattle.search.proofs.SettleFrames.{writes_forgotten}
use Rattle.search.proofs.Joining.{way_few}

pub size_pending : (m m₁ : List ℕ) (k : ℕ) → k < 2 ^ 64 → KeepsSize m m₁ → KeepsSize m (leaves_pending m₁ k)
size_pending m m₁ k l b = size_then m m₁ _ b (size_writes columns m₁ _ (noted m₁ m₁ k l (same columns m₁)))

abbrev pub Any : {X : Type 0} → Option X → Type 0
Any o = Unit {0}

-- an answer to a step from the memory m
abbrev pub Sized : List ℕ → Answer → Type 0
Sized m a = KeepsSize m a.memory × (all_small m ≡ true → fits (action_of a.act a.numbers) ≡ true)

-- few enough numbers for the output; and both, the second if P holds
abbrev pub Few : Answer → Type 0
Few a = length a.numbers ≤ OUTPUT

abbrev Good : Type 0 → List ℕ → Answer → Type 0
Good P m a = Few a × (P → Sized m a)

refusal_fits : (e : Refusal) → fits (action_of (Err (Board e)) []) ≡ true
unfolding fits
refusal_fits Missing = refl
refusal_fits Exists = refl
refusal_fits Cycle = refl
refusal_fits Full = refl

module _ (m m₁ : List ℕ) (b : KeepsSize m m₁) where
  pub sized_done : Sized m (quiet (ends (Ok Done) m₁))
  unfolding fits
  sized_done = (b, λ _. refl)

  pub sized_refuses : (e : Refusal) → Sized m (quiet (refuses m₁ e))
  sized_refuses e = (b, λ _. refusal_fits e)

  pub sized_then : (a : Answer) → Sized m₁ a → Sized m a
  sized_then a s = (size_then m m₁ _ b s.0, λ h. s.1 (b.1 h))

pub by_result_holds : {X : Type 0} (B : X → Type 0) (o : Result ℕ Refusal) (f : ℕ → X) (g : Refusal → X) → ((s : ℕ) → B (f s)) → ((e : Refusal) → B (g e)) →
    B (by_result o f g)
by_result_holds B (Ok s) f g p q = p s
by_result_holds B (Err e) f g p q = q e

pub sized_cond : (m : List ℕ) (t : Bool) (a b : Answer) → Sized m a → Sized m b → Sized m (cond t a b)
sized_cond m t a b p q = cond_holds (Sized m) t a b p q

-- the row is told
size_left : (m : List ℕ) (i j : ℕ) → i < 2 ^ 64 → j < 2 ^ 64 → KeepsSize m (left_to_tell m i j)
unfolding left_to_tell
size_left m i j l u =
    cond_holds (KeepsSize m) (ltb i j) _ _ (size_writes columns m _ (noted_more m i j l u)) (size_pending m m 1 (omega arith) (size_same m))

small_from : (n : ℕ) (m : List ℕ) (p : ℕ) → all_small m ≡ true → all_small (cards_from n m p) ≡ true
unfolding all_small every cards_from
small_from zero m p h = refl
small_from (suc n) m p h = and_from _ _ (lt-ltb _ _ (small_cell m IDS _ (small_each m h))) (small_from n m (next_seat m p + 1) h)

good_told : {P : Type 0} (m : List ℕ) (i j : ℕ) → Good P m (told_part m i j)
unfolding told_part middle
good_told m i j =
    let e = end_at m j in
    let n = min (e - min i e) TOLD in
    let ks = middle m (min i e) n in (
      omega (arith, length_middle m (min i e) n),
      λ _. (size_left m (min i e + n) e (omega arith) (omega arith), λ h. fits_tells (min i e) (take n ks) (omega arith) (omega (arith, length-take n ks)) (small_take n ks (small_from n m _ h))),
    )

-- numbers are shown
abbrev shows_of : List ℕ → ℕ → List ℕ → Answer
shows_of m n ks = record { act = Ok (Shows n); memory = m; numbers = ks }

pub sized_shows : (m m₁ : List ℕ) (n : ℕ) (ks : List ℕ) → KeepsSize m m₁ → length ks ≤ OUTPUT → (all_small m ≡ true → all_small ks ≡ true) →
    Sized m (shows_of m₁ n ks)
sized_shows m m₁ n ks b l s = (b, λ h. fits_shows (take n ks) (omega (arith, length-take n ks)) (small_take n ks (s h)))

good_round : {P : Type 0} (m : List ℕ) (x y : Link) → Good P m (shown_round m x y)
unfolding shown_round round_cards
good_round m x y =
    let w = way (cell m VIA) CARDS x y in
    let f : length (map (cell m IDS) w) ≤ OUTPUT = omega (arith, length-map w (cell m IDS), way_few (cell m VIA) CARDS x y) in (
      f,
      λ _. sized_shows m _ _ _ (size_pending m _ 2 (omega arith) (size_writes _ m _ (writes_forgotten m))) f
          (λ h. small_map (cell m IDS) (λ k. small_cell m IDS k (small_each m h)) w),
    )

pub small_one : (k : ℕ) → k < 2 ^ 64 → all_small (k ∷ []) ≡ true
unfolding all_small every
small_one k l = and_from _ _ (lt-ltb _ _ l) refl

small_two : (k j : ℕ) → k < 2 ^ 64 → j < 2 ^ 64 → all_small (k ∷ j ∷ []) ≡ true
unfolding all_small every
small_two k j l u = and_from _ _ (lt-ltb _ _ l) (and_from _ _ (lt-ltb _ _ u) refl)

abbrev PlaceSmall : List ℕ → Option ℕ → Type 0
PlaceSmall m None = Unit {0}
PlaceSmall m (Some p) = all_small m ≡ true → p < 2 ^ 64

place_small : (m : List ℕ) (k : ℕ) → PlaceSmall m (place_found m k)
unfolding place_found
place_small m k =
    given_holds Any (PlaceSmall m) (found m k) _ _ tt tt (λ s _ h.
    let z = small_cell m SEATS s (small_each m h) in
    let c = small_cell m COUNT 0 (small_each m h) in
    placed_below m (cell m SEATS s) (2 ^ 64) z c)

module _ {P : Type 0} (m : List ℕ) where
  good_refused : (e : Refusal) → Good P m (quiet (refuses m e))
  good_refused e = (omega arith, λ _. sized_refuses m m (size_same m) e)

  good_then : (m₁ : List ℕ) (a : Answer) → KeepsSize m m₁ → Good P m₁ a → Good P m a
  good_then m₁ a b g = (g.0, λ q. sized_then m m₁ b a (g.1 q))

  good_places : (a b : ℕ) → Good P m (shown_places m a b)
  good_places a b =
      given_holds (PlaceSmall m) (Good P m) (place_found m a) _ _ (place_small m a) (good_refused Missing) (λ p u.
      given_holds (PlaceSmall m) (Good P m) (place_found m b) _ _ (place_small m b) (good_refused Missing) (λ q v. (
        omega arith,
        λ _. sized_shows m _ 2 _ (size_pending m m 1 (omega arith) (size_same m)) (omega arith) (λ h. small_two p q (u h) (v h)),
      )))

-- links are made and taken back
good_moved : {P : Type 0} (m : List ℕ) (x : Link) → Good P m (moved m x)
unfolding moved
good_moved {P} m x =
    cond_holds (Good P m) (leb LINKS (live m)) _ _ (omega arith, λ _. sized_refuses m (forgotten m) (size_writes _ m _ (writes_forgotten m)) Full)
    (good_then m (inserted (settled m) x) _
    (size_then m (settled m) _ (size_writes _ m _ (settled_writes m)) (size_writes link_columns _ _ (inserted_writes (settled m) x)))
    (good_told (inserted (settled m) x) (place_at m x.to) (min (place_at m x.from + 1) (2 ^ 64 - 1))))

good_reordered : {P : Type 0} (m : List ℕ) (x : Link) → Good P m (reordered m x)
unfolding reordered
good_reordered {P} m x =
    let n = (meeting m x).memory in
    let s = size_writes _ m _ (writes_meeting m x) in
    given_holds Any (Good P m) (meeting m x).answer _ _ tt (good_then m n _ s (good_moved n x)) (λ y _. good_then m n _ s (good_round n x y))

sized_put : (m : List ℕ) (x : Link) → Sized m (quiet (put_in m x))
unfolding put_in
sized_put m x =
    cond_holds (λ (e : Ended). Sized m (quiet e)) (leb LINKS (live m)) _ _ (sized_refuses m m (size_same m) Full)
    (sized_done m _ (size_writes link_columns m _ (inserted_writes m x)))

good_linked : (m : List ℕ) (l : Link) → Good (l.from < 2 ^ 64) m (linked m l)
unfolding linked
good_linked m l =
    let G = Good (l.from < 2 ^ 64) m in
    given_holds Any G (slots_found m l) _ _ tt (good_refused m Missing) (λ x _.
    given_holds Any G (entry_found m x) _ _ tt
    (cond_holds G (eqb x.from x.to) _ _
    (omega arith, λ u. sized_shows m _ 1 _ (size_pending m m 2 (omega arith) (size_same m)) (omega arith) (λ _. small_one l.from u))
    (cond_holds G (ltb (cell m SEATS x.to) (cell m SEATS x.from)) _ _ (good_reordered m x) (omega arith, λ _. sized_put m x)))
    (λ e _. good_refused m Exists))

sized_unlinked : (m : List ℕ) (l : Link) → Sized m (quiet (unlinked m l))
unfolding unlinked
sized_unlinked m l =
    given_holds Any (λ (e : Ended). Sized m (quiet e)) (slots_found m l) _ _ tt (sized_refuses m m (size_same m) Missing) (λ x _.
    by_result_holds (λ (e : Ended). Sized m (quiet e)) (removed m x).answer _ _ (λ _. sized_done m _ (size_writes link_columns _ _ (removed_writes m x)))
    (λ _. sized_refuses m _ (size_writes link_columns _ _ (removed_writes m x)) Missing))

-- cards come and go
sized_came : (m : List ℕ) (k : ℕ) → k < 2 ^ 64 → Sized m (said m (Comes k))
unfolding said
sized_came m k u =
    let w = size_writes row_columns m _ (came_writes m k u) in
    by_result_holds (λ (e : Ended). Sized m (quiet e)) (came m k).answer _ _ (λ _. sized_done m _ w) (λ e. sized_refuses m _ w e)

sized_gone : (m : List ℕ) (k : ℕ) → Sized m (quiet (left m k))
sized_gone m k =
    let w = size_writes row_columns m _ (gone_writes m k) in
    let n = (gone m k).memory in
    by_result_holds (λ (e : Ended). Sized m (quiet e)) (gone m k).answer _ _
    (λ s. sized_done m _ (size_then m n _ w (size_writes link_columns n _ (removed_all_writes n s)))) (λ e. sized_refuses m _ w e)

-- each step
good_said : (m : List ℕ) (c : Command) → Good (small_command c ≡ true) m (said m c)
unfolding said small_command
good_said m (Comes k) = (omega arith, λ h. sized_came m k (ltb-true _ _ h))
good_said m (Goes k) = (omega arith, λ _. sized_gone m k)
good_said m (Links l) = let g = good_linked m l in (g.0, λ h. g.1 (ltb-true _ _ (and_parts (ltb l.from (2 ^ 64)) _ h).0))
good_said m (Unlinks l) = (omega arith, λ _. sized_unlinked m l)
good_said m (Places a b) = good_places m a b

finished_fits : (a b : Bool) → fits (action_of (cond a (Ok Done) (cond b (Err (Board Cycle)) (Err Idle))) []) ≡ true
unfolding fits
finished_fits true b = refl
finished_fits false true = refl
finished_fits false false = refl

sized_finished : (m : List ℕ) → Sized m (quiet (finished m))
sized_finished m = (size_pending m m 0 (omega arith) (size_same m), λ _. finished_fits (eqb (pending m) 1) (eqb (pending m) 2))

good_on : {P : Type 0} (m : List ℕ) → Good P m (went_on m)
unfolding went_on
good_on {P} m = cond_holds (Good P m) (eqb (pending m) 3) _ _ (good_told m (cell m MORE_FROM 0) (cell m MORE_TO 0)) (omega arith, λ _. sized_finished m)

pub sized_on : (m : List ℕ) → Sized m (went_on m)
sized_on m = (good_on {P = Unit {0}} m).1 tt

pub sized_busy : (m : List ℕ) → Sized m (quiet (ends (Err Busy) m))
unfolding fits
sized_busy m = (size_same m, λ _. refl)

good_answer : (m : List ℕ) (ev : Event) → Good (small_event ev ≡ true) m (answer m ev)
unfolding answer small_event
good_answer m (Said c) = cond_holds (Good (small_command c ≡ true) m) (eqb (pending m) 0) _ _ (good_said m c) (omega arith, λ _. sized_busy m)
good_answer m Next = good_on m

pub sized_answer : (m : List ℕ) (ev : Event) → small_event ev ≡ true → Sized m (answer m ev)
sized_answer m ev = (good_answer m ev).1

pub few_answer : (m : List ℕ) (ev : Event) → Few (answer m ev)
few_answer m ev = (good_answer m ev).0

pub own_steady : Steady own
own_steady = steady_zeros steps (λ m ev h. (sized_answer m ev h).0)

pub own_fits : Fits own
own_fits = guarded_fits own.start steps (λ m ev h s. (sized_answer m ev h).1 s)

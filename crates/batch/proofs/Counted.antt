-- Each answer of the engine comes with the numbers that it speaks of: as many as are shown, and none where nothing is shown or told.
use Rattle.std.proofs.Common.{Ok, Err, Result, ◌≡◌, ℕ, ◌≤◌, Bool, true, false, cond, eqb, ltb, leb, List, [], length, refl, arith, Option}
use Rattle.std.proofs.lemmas.Bool.{cond_both}
use Rattle.order.specs.declared.board.TheConstants.{LINKS}
use Rattle.command.specs.declared.command.Command.{Command}
use Rattle.command.specs.declared.command.Command.TheVariants.{Comes, Goes, Link as Links, Unlink as Unlinks, Places}
use Rattle.order.specs.declared.board.Link.{Link}
use Rattle.order.specs.declared.board.Refusal.TheVariants.{Cycle}
use Rattle.memory.specs.Columns.{cell}
use Rattle.row.specs.declared.layout.TheConstants.{SEATS}
use Rattle.row.specs.Moves.{came, gone, place_found}
use Rattle.memory.proofs.Options.{given_holds}
use Rattle.links.specs.Entries.{found as entry_found, live, removed}
use Rattle.search.specs.Hunt.{meeting}
use Rattle.keeper.specs.declared.layout.TheConstants.{MORE_FROM, MORE_TO, TOLD}
use Rattle.keeper.specs.declared.event.Event.{Event}
use Rattle.keeper.specs.declared.event.Event.TheVariants.{Said, Next}
use Rattle.keeper.specs.declared.event.Reason.{Reason}
use Rattle.keeper.specs.declared.event.Reason.TheVariants.{Idle, Board}
use Rattle.keeper.specs.declared.event.Act.{Act}
use Rattle.keeper.specs.declared.event.Act.TheVariants.{Tells, Shows, Done}
use Rattle.keeper.specs.Answers.{Answer, Ended, quiet, pending}
use Rattle.keeper.specs.Telling.{told_part}
use Rattle.keeper.specs.Reordering.{shown_round, moved, reordered}
use Rattle.keeper.specs.Linking.{slots_found, unlinked, put_in, linked}
use Rattle.keeper.specs.Own.{said as command_said, finished, went_on, answer as keeper_answer}
use Rattle.keeper.proofs.OwnSize.{by_result_holds, Any}
use Rattle.batch.specs.declared.layout.TheConstants.{BATCH}
use Rattle.batch.specs.declared.seating.Span.{Span}
use Rattle.batch.specs.Checking.{all_found, repeated}
use Rattle.batch.specs.Joining.{Tried}
use Rattle.batch.specs.Saying.{noting, brought, by_trial, rearranged, said_several}
use Rattle.batch.specs.Tidying.{tidied}
use Rattle.batch.specs.Engine.{one, several, anew, Heard, said, next}
use Rattle.batch.specs.Own.{said_anew, when_idle, answer}

abbrev pub CountedBy : Result Act Reason → List ℕ → Type 0
CountedBy (Ok (Tells p n)) ks = n ≤ TOLD
CountedBy (Ok (Shows n)) ks = length ks ≡ n
CountedBy (Ok Done) ks = ks ≡ []
CountedBy (Err e) ks = ks ≡ []

abbrev pub Counted : Answer → Type 0
Counted a = CountedBy a.act a.numbers

abbrev Quiet : Ended → Type 0
Quiet e = Counted (quiet e)

-- the keeper's
counted_told : (m : List ℕ) (i j : ℕ) → Counted (told_part m i j)
unfolding told_part
counted_told m i j = omega arith

quiet_finished : (a b : Bool) → CountedBy (cond a (Ok Done) (cond b (Err (Board Cycle)) (Err Idle))) []
quiet_finished true b = refl
quiet_finished false true = refl
quiet_finished false false = refl

counted_on : (m : List ℕ) → Counted (went_on m)
unfolding went_on
counted_on m =
    cond_both (eqb (pending m) 3) (told_part m (cell m MORE_FROM 0) (cell m MORE_TO 0)) (quiet (finished m)) Counted (λ _. counted_told m (cell m MORE_FROM 0) (cell m MORE_TO 0)) (λ _. quiet_finished (eqb (pending m) 1) (eqb (pending m) 2))

counted_reordered : (m : List ℕ) (x : Link) → Counted (reordered m x)
unfolding reordered moved shown_round
counted_reordered m x =
    let n = (meeting m x).memory in
    given_holds Any Counted (meeting m x).answer _ _ tt (cond_both (leb LINKS (live n)) _ _ Counted (λ _. refl) (λ _. counted_told _ _ _)) (λ y _. refl)

quiet_put : (m : List ℕ) (x : Link) → Quiet (put_in m x)
unfolding put_in
quiet_put m x = cond_both (leb LINKS (live m)) _ _ Quiet (λ _. refl) (λ _. refl)

counted_linked : (m : List ℕ) (l : Link) → Counted (linked m l)
unfolding linked
counted_linked m l =
    given_holds Any Counted (slots_found m l) _ _ tt refl (λ x _.
    given_holds Any Counted (entry_found m x) _ _ tt
    (cond_both (eqb x.from x.to) _ _ Counted (λ _. refl) (λ _. cond_both (ltb (cell m SEATS x.to) (cell m SEATS x.from)) _ _ Counted (λ _. counted_reordered m x) (λ _. quiet_put m x)))
    (λ _ _. refl))

counted_said : (m : List ℕ) (c : Command) → Counted (command_said m c)
unfolding command_said unlinked
counted_said m (Comes k) = by_result_holds Quiet (came m k).answer _ _ (λ _. refl) (λ _. refl)
counted_said m (Goes k) = by_result_holds Quiet (gone m k).answer _ _ (λ _. refl) (λ _. refl)
counted_said m (Links l) = counted_linked m l
counted_said m (Unlinks l) =
    given_holds Any Quiet (slots_found m l) _ _ tt refl (λ x _. by_result_holds Quiet (removed m x).answer _ _ (λ _. refl) (λ _. refl))
counted_said m (Places a b) =
    given_holds Any Counted (place_found m a) _ _ tt refl (λ p _. given_holds Any Counted (place_found m b) _ _ tt refl (λ q _. refl))

counted_command : (m : List ℕ) (ev : Event) → Counted (keeper_answer m ev)
unfolding keeper_answer
counted_command m (Said c) = cond_both (eqb (pending m) 0) _ _ Counted (λ _. counted_said m c) (λ _. refl)
counted_command m Next = counted_on m

-- those of this crate
counted_brought : (m : List ℕ) (ls : List Link) (s : Option Span) → Counted (brought m ls s)
unfolding brought
counted_brought m ls o =
    cond_both (leb (live m) LINKS) _ _ Counted (λ _. given_holds Any Counted o _ _ tt refl (λ s _. counted_on (noting m s))) (λ _. refl)

counted_trial : (t : Tried) (ls : List Link) (s : Option Span) → Counted (by_trial t ls s)
unfolding by_trial
counted_trial t ls s = given_holds Any Counted t.way _ _ tt (counted_brought t.memory ls s) (λ ks _. refl)

counted_several : (m : List ℕ) (ls : List Link) → Counted (said_several m ls)
unfolding said_several rearranged
counted_several m ls =
    cond_both (leb (length ls) BATCH) _ _ Counted (λ _. cond_both (all_found m ls) _ _ Counted (λ _. cond_both (repeated m [] ls) _ _ Counted (λ _. refl) (λ _. counted_trial _ _ _)) (λ _. refl)) (λ _. refl)

counted_anew : (m : List ℕ) → Counted (said_anew m)
unfolding said_anew
counted_anew m = cond_both (tidied m).all _ _ Counted (λ _. counted_on _) (λ _. refl)

when_idle_counted : (m : List ℕ) (a : Answer) → Counted a → Counted (when_idle m a)
unfolding when_idle
when_idle_counted m a h = cond_both (eqb (pending m) 0) a _ Counted (λ _. h) (λ _. refl)

pub counted : (m : List ℕ) (h : Heard) → Counted (answer m h)
unfolding answer
counted m (said (one c)) = counted_command m (Said c)
counted m (said (several ls)) = when_idle_counted m _ (counted_several m ls)
counted m (said anew) = when_idle_counted m _ (counted_anew m)
counted m next = counted_command m Next

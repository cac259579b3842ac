-- THE THEOREM: the engine of this crate meets the promise, within three steps; and its answers fit.
use Rattle.std.proofs.Common.{◌≡◌, ℕ, ◌≤◌, Bool, true, false, cond, ◌&&◌, leb, List, [], ◌∷◌, length, Some, None, arith, length-append, Err, eqb, replicate, refl, ◌∙◌, inl, inr}
use Rattle.std.proofs.lemmas.Bool.{leb-false, cases_Bool}
use Rattle.order.specs.declared.board.TheConstants.{LINKS}
use Rattle.order.specs.declared.board.Link.{Link}
use Rattle.command.specs.declared.command.Command.{Command}
use Rattle.command.specs.declared.command.Command.TheVariants.{Comes, Goes, Link as Links, Unlink as Unlinks, Places}
use Rattle.order.specs.declared.board.Refusal.TheVariants.{Missing, Exists, Cycle, Full}
use Rattle.order.specs.Lists.{has, filter, every}
use Rattle.order.specs.Board.{Board, ◌⟶◌, linked, leads}
use Rattle.order.specs.Reordering.{link_refusal}
use Rattle.command.specs.Commands.{refusal, links_after}
use Rattle.keeper.specs.Promise.{all_small, Refused as KeeperRefused, small_command, Steady as KeeperSteady}
use Rattle.keeper.specs.Sister.{DoneFirm}
use Rattle.keeper.proofs.Wholly.{kept, at_start}
use Rattle.batch.specs.Engine.{one, several, anew, Heard, said, next}
use Rattle.batch.specs.Promise.{Done, Refused, small_saying, small_heard, Steady, WholeIn, Fits}
use Rattle.batch.specs.Own.{own, whole_row, said_anew, when_idle, answer, guarded}
use Rattle.batch.proofs.Simulation.{Keeps, StepKept, Kept, whole_in}
use Rattle.batch.proofs.Runs.{run_command}
use Rattle.batch.proofs.Tries.{means_fine}
use Rattle.batch.proofs.Within.{filter_no_longer}
use lib.ListN.{length-replicate}
use Rattle.memory.specs.declared.column.TheConstants.{MEMORY}
use Rattle.keeper.specs.declared.event.Event.TheVariants.{Said, Next}
use Rattle.keeper.specs.declared.event.Reason.TheVariants.{Unfit}
use Rattle.keeper.specs.Answers.{Answer, quiet, ends, pending}
use Rattle.keeper.specs.Sized.{KeepsSize, fits, small_event}
use Rattle.memory.proofs.Cells.{small_cell}
use Rattle.row.specs.declared.layout.TheConstants.{COUNT}
use Rattle.keeper.proofs.Size.{size_same, size_writes}
use Rattle.keeper.proofs.OwnSize.{Sized, sized_cond, sized_then, sized_on, sized_busy, sized_answer, own_steady}
use Rattle.batch.specs.Saying.{noting, told_span}
use Rattle.batch.specs.Tidying.{tidied}
use Rattle.batch.proofs.SpanTold.{noting_writes}
use Rattle.batch.proofs.SaidSize.{sized_several}
use Rattle.batch.proofs.Writing.{tidies_only}
use Rattle.batch.proofs.AnewKept.{anew_kept}
use Rattle.batch.proofs.LinksKept.{several_links_kept}

-- a command leaves no more links than there may be
rest_few : (f : Link → Bool) (xs : List Link) → length xs ≤ LINKS → length (filter f xs) ≤ LINKS
rest_few f xs h = omega (arith, filter_no_longer f xs)

room : (w x y z : Bool) → cond w (cond x (Some Exists) (cond y (Some Cycle) (cond z (Some Full) None))) (Some Missing) ≡ None → z ≡ false
room w x y z e = grind arith

few_after : (r : Board) (c : Command) → refusal r c ≡ None → length r.links ≤ LINKS → length (links_after r c) ≤ LINKS
unfolding refusal link_refusal links_after
few_after r (Comes k) z h = h
few_after r (Goes k) z h = rest_few _ r.links h
few_after r (Links l) z h =
    omega (
      arith,
      length-append r.links ((l.from ⟶ l.to) ∷ []),
      leb-false LINKS (length r.links)
          (room (has r.row l.from && has r.row l.to) (linked r l.from l.to) (leads r l.to l.from) (leb LINKS (length r.links)) z),
    )
few_after r (Unlinks l) z h = rest_few _ r.links h
few_after r (Places a b) z h = h

pub command_kept : (m : List ℕ) (r : Board) (c : Command) → length m ≡ length own.start → all_small m ≡ true → Keeps m r → small_command c ≡ true →
    StepKept own 3 m r (one c)
unfolding Done Refused DoneFirm KeeperRefused
command_kept m r c l a K sm =
    let M = K.means in
    let k = kept m r c l a M (means_fine m r M) sm in
    rw (run_command m c) (
      (λ z. let d = k.0 z in (d.0, record { means = d.1; few = few_after r c z K.few })),
      λ w z. let d = k.1 w z in (d.0, record { means = d.1; few = K.few }),
    )

-- sizes
sized_unfit : (m m₁ : List ℕ) → KeepsSize m m₁ → Sized m (quiet (ends (Err Unfit) m₁))
unfolding fits
sized_unfit m m₁ b = (b, λ _. refl)

sized_idle : (m : List ℕ) (a : Answer) → Sized m a → Sized m (when_idle m a)
unfolding when_idle
sized_idle m a s = sized_cond m (eqb (pending m) 0) a _ s (sized_busy m)

sized_row : (m : List ℕ) → Sized m (told_span m (whole_row m))
sized_row m =
    let n = noting m (whole_row m) in
    sized_then m n (size_writes _ m n (noting_writes m (whole_row m) (λ _. omega arith) (small_cell m COUNT 0))) _ (sized_on n)

sized_anew : (m : List ℕ) → Sized m (said_anew m)
unfolding said_anew
sized_anew m = sized_cond m (tidied m).all _ _ (sized_then m (tidied m).memory (tidies_only m) _ (sized_row (tidied m).memory)) (sized_unfit m (tidied m).memory (tidies_only m))

pub sized : (m : List ℕ) (h : Heard) → small_heard h ≡ true → Sized m (answer m h)
unfolding answer small_heard small_saying small_event
sized m (said (one c)) z = sized_answer m (Said c) z
sized m (said (several ls)) z = sized_idle m _ (sized_several m ls z)
sized m (said anew) z = sized_idle m _ (sized_anew m)
sized m next z = sized_answer m Next z

keeps_size : (m : List ℕ) (h : Heard) → KeepsSize m (guarded m h).memory
unfolding guarded
keeps_size m h = elim (cases_Bool (small_heard h)) [
  | inl z ↦ rw z (sized m h z).0
  | inr z ↦ rw z (size_same m)
]

steady_from : (start : List ℕ) → length start ≤ MEMORY → every (λ m. eqb m 0) start ≡ true → Steady (record { start = start; step = guarded })
unfolding Steady
steady_from start l z = (l, z, keeps_size)

steady : Steady own
unfolding KeeperSteady
steady = steady_from (replicate MEMORY 0) own_steady.0 own_steady.1

pub own_fits : Fits own
unfolding guarded fits
own_fits m h s = elim (cases_Bool (small_heard h)) [
  | inl z ↦ rw z ((sized m h z).1 s)
  | inr z ↦ rw z
]

-- each saying
pub each : Kept own 3
unfolding small_saying
each m r (one c) l a K z = command_kept m r c l a K z
each m r (several ls) l a K z = several_links_kept m r ls (l ∙ length-replicate {A = ℕ} MEMORY 0) K z
each m r anew l a K z = anew_kept m r (l ∙ length-replicate {A = ℕ} MEMORY 0) K

pub whole_in_own : WholeIn 3 own
whole_in_own = whole_in own steady 3 each at_start

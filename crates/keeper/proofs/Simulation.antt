-- The firmer promise, from a relation between memory and board that each command keeps; the memory's length and its small numbers are had for nothing.
use Rattle.std.proofs.Common.{◌≡◌, ℕ, true, eqb, ltb, List, [], ◌∷◌, length, Some, None, refl, ◌∙◌}
use Rattle.std.proofs.lemmas.Bool.{and_parts, eqb-true}
use Rattle.command.specs.declared.command.Command.{Command}
use Rattle.order.specs.declared.board.Refusal.{Refusal}
use Rattle.order.specs.Lists.{every, distinct}
use Rattle.order.specs.Board.{Board, fine}
use Rattle.command.specs.Commands.{refusal, after}
use Rattle.order.proofs.Filters.{every_more}
use Rattle.command.proofs.Staying.{stays_fine}
use Rattle.command.proofs.Staying.{must_may}
use Rattle.keeper.specs.declared.event.Event.TheVariants.{Said}
use Rattle.keeper.specs.Engine.{Engine, Ran, run_of}
use Rattle.keeper.specs.Promise.{empty, all_small, Steady, Done, Refused, small_command, Right, Whole}
use Rattle.keeper.specs.Sister.{DoneFirm, RightIn, WholeIn, SoonIsMore}
use Rattle.keeper.proofs.Ends.{runs_size}

pub firm_done : (r : Board) (c : Command) (v : Ran) → DoneFirm r c v → Done r c v
unfolding DoneFirm Done
firm_done r c v d = (d.0, d.1, must_may r c _ d.2, d.3)

pub done_fine : (r : Board) (c : Command) (v : Ran) → fine r ≡ true → refusal r c ≡ None → DoneFirm r c v → fine (after r c v.told) ≡ true
unfolding DoneFirm
done_fine r c v f z d = stays_fine r c v.told f z (must_may r c _ d.2) d.3

soon_right : (n : ℕ) (e : Engine) (cs : List Command) (m : List ℕ) (r : Board) → RightIn n e m r cs → Right e m r cs
unfolding RightIn Right
soon_right n e [] m r h = refl
soon_right n e (c ∷ cs) m r h = (
  n,
  (
    (λ z. let d = h.0 z in (firm_done r c _ d.0, soon_right n e cs _ _ d.1)),
    (λ w z. let d = h.1 w z in (d.0, soon_right n e cs _ r d.1)),
  ),
)

pub soon_is_more : SoonIsMore
unfolding WholeIn Whole
soon_is_more n e w = (w.0, λ cs h. soon_right n e cs e.start empty (w.1 cs h))

-- one command, from one memory and board on, is done or refused rightly, and keeps the relation
abbrev pub StepKept : Engine → ℕ → (List ℕ → Board → Type 0) → List ℕ → Board → Command → Type 0
StepKept e n Sim m r c =
    (refusal r c ≡ None → DoneFirm r c (run_of n e m c) × Sim (run_of n e m c).memory (after r c (run_of n e m c).told))
    × ((why : Refusal) → refusal r c ≡ Some why → Refused r c why (run_of n e m c) × Sim (run_of n e m c).memory r)

-- and so is each
abbrev pub Kept : Engine → ℕ → (List ℕ → Board → Type 0) → Type 0
Kept e n Sim =
    (m : List ℕ) (r : Board) (c : Command) → length m ≡ length e.start → all_small m ≡ true → Sim m r → fine r ≡ true → small_command c ≡ true →
    StepKept e n Sim m r c

pub start_small : (e : Engine) → Steady e → all_small e.start ≡ true
unfolding Steady all_small
start_small e s = every_more (λ m. eqb m 0) (λ m. ltb m 18446744073709551616) (λ m h. rw (eqb-true m 0 h)) e.start s.1

module _ (e : Engine) (n : ℕ) (Sim : List ℕ → Board → Type 0) (st : Steady e) (k : Kept e n Sim) where
  pub right_in : (cs : List Command) (m : List ℕ) (r : Board) → length m ≡ length e.start → all_small m ≡ true → Sim m r → fine r ≡ true →
      every small_command cs ≡ true → RightIn n e m r cs
  unfolding RightIn every
  right_in [] m r l a s f h = refl
  right_in (c ∷ cs) m r l a s f h =
      let p = and_parts (small_command c) (every small_command cs) h in
      let q = k m r c l a s f p.0 in
      let b = runs_size e st n m (Said c) [] [] in (
        (λ z. let d = q.0 z in (d.0, right_in cs _ _ (b.0 ∙ l) (b.1 a) d.1 (done_fine r c _ f z d.0) p.1)),
        (λ w z. let d = q.1 w z in (d.0, right_in cs _ r (b.0 ∙ l) (b.1 a) d.1 f p.1)),
      )

  pub whole_in : Sim e.start empty → WholeIn n e
  unfolding WholeIn every distinct
  whole_in i = (st, λ cs h. right_in cs e.start empty refl (start_small e st) i refl h)

-- A step of the engine, by what is said.
use Rattle.std.proofs.Common.{◌≡◌, ℕ, ◌≤◌, true, ◌≢◌, List, [], Some, Ok, Err, ap, ◌∙◌, arith}
use Rattle.std.proofs.lemmas.Bool.{eq-eqb, ne_eqb}
use Rattle.command.specs.declared.command.Command.{Command}
use Rattle.order.specs.declared.board.Refusal.{Refusal}
use Rattle.order.specs.declared.board.Refusal.TheVariants.{Missing, Exists, Cycle, Full}
use Rattle.order.specs.Board.{Board}
use Rattle.order.specs.Reordering.{number}
use Rattle.command.specs.Commands.{refusal}
use Rattle.keeper.specs.declared.event.Event.TheVariants.{Said, Next}
use Rattle.keeper.specs.declared.event.Reason.TheVariants.{Board as ByBoard}
use Rattle.keeper.specs.declared.event.Act.TheVariants.{Done}
use Rattle.keeper.specs.Engine.{Step, action_of, run_of, ran}
use Rattle.keeper.specs.Promise.{small_command}
use Rattle.keeper.specs.Answers.{Answer, quiet, ends, refuses, pending, leaves_pending}
use Rattle.keeper.specs.Own.{said, went_on, steps, own}
use Rattle.keeper.proofs.Fitting.{answer_said, answer_next}
use Rattle.keeper.proofs.Unroll.{steps_to, done_at_once, refused_at_once}
use Rattle.keeper.proofs.Simulation.{StepKept}
use Rattle.keeper.proofs.Cases.{refused_kept}
use Rattle.keeper.proofs.Size.{guarded_said, guarded_next}

abbrev pub step_of : Answer → Step
step_of a = steps_to a.memory (action_of a.act a.numbers)

pub step_said : (m : List ℕ) (c : Command) (a : Answer) → pending m ≡ 0 → small_command c ≡ true → said m c ≡ a → own.step m (Said c) ≡ step_of a
step_said m c a i sm e = guarded_said steps m c _ sm (ap step_of (answer_said m c i ∙ e))

pub step_next : (m : List ℕ) (a : Answer) → went_on m ≡ a → own.step m Next ≡ step_of a
step_next m a e = guarded_next steps m _ (ap step_of (answer_next m ∙ e))

pub went_done : (m : List ℕ) → pending m ≡ 1 → went_on m ≡ quiet (ends (Ok Done) (leaves_pending m 0))
unfolding went_on
went_done m e = rw (ne_eqb (pending m) 3 (λ z. omega arith), eq-eqb (pending m) 1 e)

pub went_round : (m : List ℕ) → pending m ≡ 2 → went_on m ≡ quiet (ends (Err (ByBoard Cycle)) (leaves_pending m 0))
unfolding went_on
went_round m e = rw (ne_eqb (pending m) 3 (λ z. omega arith), ne_eqb (pending m) 1 (λ z. omega arith), eq-eqb (pending m) 2 e)

-- done, or refused, at once
pub run_done : (m m₁ : List ℕ) (c : Command) → pending m ≡ 0 → small_command c ≡ true → said m c ≡ quiet (ends (Ok Done) m₁) → run_of 3 own m c ≡ ran m₁ [] [] 0
run_done m m₁ c i sm e = done_at_once own m m₁ (Said c) (step_said m c _ i sm e)

pub number_fits : (w : Refusal) → (3 ≤ number w) × (number w ≤ 7)
number_fits Missing = (omega arith, omega arith)
number_fits Exists = (omega arith, omega arith)
number_fits Cycle = (omega arith, omega arith)
number_fits Full = (omega arith, omega arith)

pub run_refused : (m m₁ : List ℕ) (c : Command) (w : Refusal) → pending m ≡ 0 → small_command c ≡ true → said m c ≡ quiet (refuses m₁ w) →
    run_of 3 own m c ≡ ran m₁ [] [] (number w)
run_refused m m₁ c w i sm e = let f = number_fits w in refused_at_once own m m₁ (Said c) (number w) (omega arith) (omega arith) (step_said m c _ i sm e)

-- refused for a reason but that it would go round
pub refuses_kept : (Sim : List ℕ → Board → Type 0) (m m₁ : List ℕ) (r : Board) (c : Command) (w : Refusal) → pending m ≡ 0 → small_command c ≡ true →
    refusal r c ≡ Some w → w ≢ Cycle → said m c ≡ quiet (refuses m₁ w) → Sim m₁ r → StepKept own 3 Sim m r c
refuses_kept Sim m m₁ r c w i sm z n e s = refused_kept own 3 Sim m r m₁ c w z n (run_refused m m₁ c w i sm e) s

pub missing_is_not : Missing ≢ Cycle
missing_is_not e = let z : ◌≡◌ {A = ℕ} 0 1 = cc in omega arith

pub exists_is_not : Exists ≢ Cycle
exists_is_not e = let z : ◌≡◌ {A = ℕ} 0 1 = cc in omega arith

pub full_is_not : Full ≢ Cycle
full_is_not e = let z : ◌≡◌ {A = ℕ} 0 1 = cc in omega arith

-- A step is taken if the memory and the output fit, else nothing is changed.
use Rattle.std.proofs.Common.{◌≡◌, ℕ, ◌<◌, ◌≤◌, ◌≢◌, Bool, true, false, List, ◌++◌, length, take, drop, Result, Err, sym, refl, ap, ◌∙◌, ap₂, arith}
use Rattle.std.proofs.lemmas.Bool.Decides.{nat_tests}
use Rattle.std.proofs.lemmas.Bool.{eq-eqb}
use Rattle.memory.specs.declared.column.TheConstants.{MEMORY}
use Rattle.keeper.specs.declared.layout.TheConstants.{OUTPUT}
use Rattle.keeper.specs.declared.event.Event.{Event}
use Rattle.keeper.specs.declared.event.Event.TheVariants.{Said, Next}
use Rattle.keeper.specs.declared.event.Act.{Act}
use Rattle.keeper.specs.declared.event.Reason.{Reason}
use Rattle.keeper.specs.declared.event.Reason.TheVariants.{Unfit}
use Rattle.command.specs.declared.command.Command.{Command}
use Rattle.keeper.specs.declared.event.Telling.{Telling}
use Rattle.keeper.specs.declared.event.Telling.TheVariants.{Written}
use Rattle.keeper.specs.Answers.{Gives, pending, written_out, as_told}
use Rattle.keeper.specs.Playing.{stepped, StepsTo}
use Rattle.keeper.specs.Engine.{action_of}
use Rattle.keeper.proofs.Size.{guarded_small}
use Rattle.keeper.specs.Own.{said, went_on, answer, steps, step_fits, StepBy, StepSays}
use Rattle.keeper.proofs.Writing.{written_few}
use Rattle.keeper.proofs.OwnSize.{few_answer}
use Rattle.keeper.proofs.Room.{front_stands}

pub other_size : (m out : List ℕ) → length m ≢ MEMORY → step_fits m out ≡ false
other_size m out n = grind (arith, nat_tests)

pub short_out : (m out : List ℕ) → length out < OUTPUT → step_fits m out ≡ false
short_out m out l = grind (arith, nat_tests)

-- a step whose answer is given in the front of the output
pub took : (w : Telling) (m : List ℕ) (ev : Event) (out : List ℕ) (r : Result Act Reason) (m₁ front₁ : List ℕ) → length m ≡ MEMORY → OUTPUT ≤ length out →
    Gives (as_told w (answer m ev)) (take OUTPUT out) r m₁ front₁ → StepsTo (stepped w m ev out) r m₁ (front₁ ++ drop OUTPUT out)
unfolding stepped as_told
took w m ev out r m₁ front₁ e h g =
    let f : step_fits m out ≡ true = grind (arith, nat_tests) in
    let ks = (as_told w (answer m ev)).numbers in
    let l : length ks ≤ OUTPUT = omega (arith, written_few w (answer m ev).act (answer m ev).numbers, few_answer m ev) in
    rw f (record {
      act = g.act;
      after = g.after;
      out = ap (λ (xs : List ℕ). xs ++ drop OUTPUT out) g.out ∙ front_stands OUTPUT ks out l h;
    })

pub untook : (w : Telling) (m : List ℕ) (ev : Event) (out : List ℕ) → step_fits m out ≡ false → StepsTo (stepped w m ev out) (Err Unfit) m out
unfolding stepped
untook w m ev out f = rw f (record { act = refl; after = refl; out = refl })

pub ruleset fitting = (took, untook, other_size, short_out)

-- a step of which all is written is the engine's
says : (b : Bool) (m : List ℕ) (ev : Event) (out : List ℕ) (r : Result Act Reason) (m₁ out₁ : List ℕ) → step_fits m out ≡ b →
    StepsTo (stepped Written m ev out) r m₁ out₁ → StepBy b m ev out r m₁ out₁
unfolding stepped as_told written_out StepBy
says true m ev out r m₁ out₁ f = rw f (λ t. record {
  act = t.act;
  after = t.after;
  out = t.out;
  own_step = λ q. guarded_small steps m ev q
      ∙ ap₂ (λ (y : Result Act Reason) (z : List ℕ). record { memory = z; action = action_of y (answer m ev).numbers }) (sym t.act) (sym t.after);
})
says false m ev out r m₁ out₁ f = rw f (λ t. record { act = t.act; after = t.after; out = t.out })

pub written_says : (m : List ℕ) (ev : Event) (out : List ℕ) (r : Result Act Reason) (m₁ out₁ : List ℕ) → StepsTo (stepped Written m ev out) r m₁ out₁ →
    StepSays m ev out r m₁ out₁
written_says m ev out r m₁ out₁ = says (step_fits m out) m ev out r m₁ out₁ refl

pub answer_said : (m : List ℕ) (c : Command) → pending m ≡ 0 → answer m (Said c) ≡ said m c
unfolding answer
answer_said m c e = rw (eq-eqb (pending m) 0 e)

pub answer_next : (m : List ℕ) → answer m Next ≡ went_on m
unfolding answer
answer_next m = refl

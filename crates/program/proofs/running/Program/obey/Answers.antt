use Rattle.std.proofs.Common.{rules, ◌≡◌, Ok, Err, Result, OnOk, ◌⊎◌, inl, inr}
use Rattle.program.proofs.running.Program.obey.Goals as goal

-- what was done with something, was done if it went well
done : {B E W F : Type 0} (words : Result W F) (A : W → Type 0) (P : B → Result (Unit {0}) E → Type 0) (ws : W) (b : B) (r : Result (Unit {0}) E) →
    words ≡ Ok ws → P b r → OnOk r ((x : W) × (words ≡ Ok x) × (A x ⊎ ((y : B) × P y (Ok tt))))
done words A P ws b (Ok u) e p = (ws, e, inr (b, p))
done words A P ws b (Err f) e p = tt

pub returns : goal.returns
returns g c = done c.args.words _ (λ bytes. goal.F-post g c.args.work c.args.rt bytes) c.in_ok-words.field-0 c.as_slice.result c.work.result c.in_ok-words.was c.work.ensures

pub returns-in-Help : goal.returns-in-Help
returns-in-Help g c = (c.in_ok-words.field-0, c.in_ok-words.was, inl (search rules))

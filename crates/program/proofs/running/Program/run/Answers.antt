use Rattle.std.proofs.Common.{rules, Ok, Err, Result, IsOk, OnOk}
use Rattle.program.proofs.running.Program.run.Goals as goal

-- what holds if it went well, holds since it went well
well : {A E P : Type 0} (r : Result A E) → OnOk r P → IsOk r → P
well (Ok a) p e = p
well (Err x) p e = search rules

pub returns : goal.returns
returns g c = λ e. well c.obey.result c.obey.ensures (c.end.ensures.0 e)

use Rattle.std.proofs.Common.{◌≡◌, ◌*◌, ◌≤◌}
use Rattle.row.specs.Meaning.{rank}
use Rattle.row.proofs.telling.select.Given as goal

abbrev pub invariant-loop-word : goal.invariant-loop-word
invariant-loop-word l = record { sum : l.before ≡ rank l.memory (l.word * 64); within : l.before ≤ l.place }

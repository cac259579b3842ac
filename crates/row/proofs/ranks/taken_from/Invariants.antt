use Rattle.std.proofs.Common.{◌≡◌, ◌+◌, ◌*◌}
use Rattle.row.specs.Meaning.{rank}
use Rattle.row.proofs.ranks.taken_from.Given as goal

abbrev pub invariant-loop-word : goal.invariant-loop-word
invariant-loop-word l = l.behind + rank l.memory ((l.first + 1) * 64) ≡ rank l.memory ((l.first + 1 + l.word-index) * 64)

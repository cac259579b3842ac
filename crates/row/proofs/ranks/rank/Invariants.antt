use Rattle.std.proofs.Common.{◌≡◌, ◌*◌}
use Rattle.row.specs.Meaning.{rank}
use Rattle.row.proofs.ranks.rank.Given as goal

abbrev pub invariant-loop-word : goal.invariant-loop-word
invariant-loop-word l = l.before ≡ rank l.memory (l.word-index * 64)

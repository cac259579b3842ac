use Rattle.std.proofs.Common.{◌≡◌, ℕ, ◌/◌, ◌<◌, ◌≤◌, false}
use Rattle.row.specs.Meaning.{taken}
use Rattle.row.proofs.telling.next.Given as goal

abbrev pub invariant-loop-word : goal.invariant-loop-word
invariant-loop-word l = record {
  from_in : l.from / 64 ≡ l.word;
  after : l.seat ≤ l.from;
  gap : (r : ℕ) → l.seat ≤ r → r < l.from → taken l.memory r ≡ false;
}

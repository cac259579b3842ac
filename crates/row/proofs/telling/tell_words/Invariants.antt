use Rattle.std.proofs.Common.{◌≡◌, ◌-◌, ◌/◌, ◌≤◌, length}
use Rattle.row.specs.Telling.{tells}
use Rattle.row.proofs.telling.tell_words.Given as goal

abbrev pub invariant-loop-word : goal.invariant-loop-word
invariant-loop-word l = record {
  long : length l.out ≡ length l.initial.out;
  within : l.told ≤ l.n;
  same : tells (l.n - l.told) l.memory l.from l.told l.out ≡ tells l.n l.memory l.seat 0 l.initial.out;
  from_in : l.from / 64 ≡ l.word;
}

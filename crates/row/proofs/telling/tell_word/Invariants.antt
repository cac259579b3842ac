use Rattle.std.proofs.Common.{◌≡◌, ◌+◌, ◌-◌, ◌*◌, ◌<◌, ◌≤◌, length}
use lib.Count.{count_trailing_zeros, ones}
use Rattle.row.specs.declared.layout.TheConstants.{SEATS_MOST}
use Rattle.row.specs.Telling.{Coming, tells}
use Rattle.row.proofs.telling.tell_word.Given as goal

abbrev pub invariant-loop-i : goal.invariant-loop-i
invariant-loop-i l = record {
  long : length l.out ≡ length l.initial.out;
  same : tells (l.n - (l.at + l.i)) l.memory l.from (l.at + l.i) l.out ≡ tells (l.n - l.at) l.memory l.seat l.at l.initial.out;
  coming : Coming l.memory l.word l.from l.rest;
  left : l.i + ones l.rest ≡ ones l.bits;
  room : l.i < l.more → l.word * 64 + count_trailing_zeros 64 l.rest < SEATS_MOST;
  low : l.word * 64 ≤ l.from;
  high : l.from ≤ l.word * 64 + 64;
}

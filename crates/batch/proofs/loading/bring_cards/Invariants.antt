use Rattle.std.proofs.Common.{◌≡◌, drop}
use Rattle.batch.specs.Loading.{cards_come}
use Rattle.batch.proofs.loading.bring_cards.Given as goal

abbrev pub invariant-loop-card : goal.invariant-loop-card
invariant-loop-card l = cards_come l.memory (drop l.card-index l.row) ≡ cards_come l.initial.memory l.row

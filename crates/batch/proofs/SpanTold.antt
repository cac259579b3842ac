-- A part of the row that a span names is told, and the memory then means the board that it meant before.
use Rattle.std.proofs.Common.{◌≡◌, ℕ, ◌^◌, ◌<◌, ◌≤◌, true, List, [], length, sym, refl, ap, ◌∙◌, subst, arith}
use Rattle.order.specs.declared.board.TheConstants.{CARDS}
use Rattle.order.specs.Lists.{every}
use Rattle.order.specs.Board.{Board}
use Rattle.memory.specs.Columns.{written}
use Rattle.command.specs.Commands.{Told, told_rows}
use Rattle.memory.specs.Footprints.{Small}
use Rattle.memory.proofs.Footprints.{same, on, put}
use Rattle.row.proofs.Present.{length_cards, few_cards}
use Rattle.row.specs.Meaning.{cards}
use Rattle.search.specs.Meaning.{Ready}
use Rattle.keeper.specs.declared.layout.TheConstants.{MORE_FROM, MORE_TO}
use Rattle.keeper.specs.Columns.{columns}
use Rattle.keeper.specs.Engine.{ran}
use Rattle.keeper.specs.Answers.{leaves_pending}
use Rattle.keeper.specs.Sister.{within}
use Rattle.keeper.specs.Meaning.{Means}
use Rattle.keeper.proofs.Carrying.{Noted, noted, noted_ready, settles, same_row}
use Rattle.keeper.proofs.Parts.{Anew}
use Rattle.keeper.proofs.ToldRuns.{from_first, ToldOut, told_run, went_noted}
use Rattle.batch.specs.declared.seating.Span.{Span}
use Rattle.batch.specs.Saying.{noting, told_span}

-- the part from lo up to hi is told, and takes the place of what stood there
pub record ToldSo (m : List ℕ) (b : Board) (s : Span) : Type 0 where
  pub memory : List ℕ
  pub parts : List Told
  pub run : from_first (told_span m s) ≡ ran memory parts [] 0
  pub means : Means memory b
  pub makes : (row : List ℕ) → Anew row b.row s.low s.high → told_rows row parts ≡ b.row
  pub inside : every (within s.low s.high) parts ≡ true

pub noting_writes : (m : List ℕ) (s : Span) → (Small m → s.low < 2 ^ 64) → (Small m → s.high < 2 ^ 64) → Noted m (noting m s)
unfolding noting
noting_writes m s low high =
    let n = leaves_pending m 3 in
    put columns m (written n MORE_FROM 0 s.low) MORE_TO 0 s.high refl high
    (put columns m n MORE_FROM 0 s.low refl low (noted m m 3 (omega arith) (same columns m)))

module _ (m : List ℕ) (b : Board) (M : Means m b) (s : Span) (up : s.low ≤ s.high) (low : s.high ≤ length b.row) where
  abbrev R : Ready m
  R = M.ready

  abbrev k : List ℕ
  k = noting m s

  room : length b.row ≤ CARDS
  room = omega (arith, ap (λ (x : Board). length x.row) M.is, length_cards m R.is_row, few_cards m R.is_row)

  N : Noted m k
  N = noting_writes m s (λ _. omega (arith, up, low, room)) (λ _. omega (arith, low, room))

  same_cards : cards k ≡ b.row
  same_cards = (same_row columns m k N refl).same_cards ∙ ap (λ (x : Board). x.row) (sym M.is)

  T : ToldOut k s.low s.high
  T =
      let S = (noted_ready m k R N).is_row in
      let e = ap length same_cards in
      told_run k S (omega (arith, M.long, N.as_long)) s.low s.high up (omega (arith, low, length_cards k S))

  ran_so : from_first (told_span m s) ≡ ran (leaves_pending T.memory 0) T.parts [] 0
  unfolding noting
  ran_so = ap from_first (went_noted m M.long s.low s.high) ∙ T.run

  pub span_told : ToldSo m b s
  span_told = record {
    memory = leaves_pending T.memory 0;
    parts = T.parts;
    run = ran_so;
    means = subst (Means (leaves_pending T.memory 0)) (sym M.is) (settles m T.memory R M.single M.long (on columns m k T.memory N T.only));
    makes = λ row a. T.makes row (subst (λ (xs : List ℕ). Anew row xs s.low s.high) (sym same_cards) a) ∙ same_cards;
    inside = T.inside;
  }

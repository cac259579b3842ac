-- The steps of the loops that look for a circle.
use Rattle.std.proofs.Common.{zero, suc, map, refl, inl, inr, ◌≡◌, ℕ, ◌+◌, ◌++◌, List, length, take, drop, sym, ap, ◌∙◌}
use Rattle.std.specs.List.{fold, find, range_with_len}
use Rattle.std.specs.Option.{unwrap_or}
use Rattle.std.proofs.lemmas.Bool.{cases_Bool}
use Rattle.memory.specs.Columns.{cell}
use Rattle.row.specs.declared.layout.TheConstants.{IDS, SLOTS}
use Rattle.search.specs.Way.{trail, over}
use Rattle.search.proofs.Joining.{turned_front}
use Rattle.batch.specs.declared.layout.TheConstants.{NUMBERS}
use Rattle.batch.specs.Circling.{stays, first_left, back, on_circle, round, RoundSo}
use Rattle.std.proofs.lemmas.List.{length-reverse}
use mathlib.Core.List.{reverse}

pub folds_back : (next : ℕ → ℕ) (n i s : ℕ) → fold (λ t x. next t) s (range_with_len i n) ≡ back next n s
unfolding back
folds_back next zero i s = refl
folds_back next (suc n) i s = folds_back next n (i + 1) (next s)

pub finds_left : (m : List ℕ) (n i : ℕ) → unwrap_or (find (stays m) (map (cell m SLOTS) (range_with_len i n))) 0 ≡ first_left n m i
unfolding first_left
finds_left m zero i = refl
finds_left m (suc n) i = elim (cases_Bool (stays m (cell m SLOTS i))) [
  | inl e ↦ rw e refl
  | inr e ↦ rw e (finds_left m n (i + 1))
]

-- a trail back from a slot of the circle, turned round at the front of the output, is the circle
module _ (m out : List ℕ) (last len : ℕ) (on : last ≡ on_circle m) where
  abbrev steps : List ℕ
  steps = trail (cell m NUMBERS) (length out) last (cell m NUMBERS last)

  pub round_so : (front rev : List ℕ) → len ≡ length steps → front ≡ over m steps len out → rev ≡ reverse (take len front) →
      RoundSo m out len m (rev ++ drop len front)
  unfolding round
  round_so front rev l f r =
      let e : reverse steps ≡ round m (length out) = ap (λ (s : ℕ). reverse (trail (cell m NUMBERS) (length out) s (cell m NUMBERS s))) on in
      record {
        is = l ∙ sym (length-reverse steps) ∙ ap length e;
        after = refl;
        out = turned_front (cell m IDS) steps out len l front rev f r ∙ ap (λ (ks : List ℕ). over m ks len out) e;
      }

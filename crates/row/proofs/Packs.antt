-- A row is packed, seat by seat.
use Rattle.std.proofs.Common.{◌≡◌, ℕ, zero, suc, ◌+◌, ◌-◌, ◌<◌, ◌≤◌, true, false, List, [], ◌∷◌, sym, refl, ap, ◌∙◌, inl, inr, arith}
use Rattle.std.proofs.lemmas.Bool.{cases_eq, cases_lt, cases_Bool, eq-eqb, ne_eqb, both_ways, lt-ltb, le-ltb}
use Rattle.memory.specs.Columns.{cell, written}
use Rattle.memory.specs.Footprints.{Writes}
use Rattle.memory.proofs.Cells.{length_written}
use Rattle.row.specs.declared.layout.TheConstants.{SEATS_MOST, COUNT, ENDING, SLOTS, SEATS, TAKEN}
use Rattle.row.specs.Meaning.{count, ending, taken, row_of, used}
use Rattle.row.specs.Moves.{unmarked, moved, drawn, packed_from, compacted}
use Rattle.row.proofs.Turning.{taken_unmarked}
use Rattle.row.proofs.Framing.{column_same, written_same, unmarked_writes, moved_writes}
use Rattle.row.proofs.Along.{gap_to, amount_gap, amount_all}
use Rattle.row.proofs.Seatings.{Takes, Leaves, moved_row, moved_seating, moved_used}
use Rattle.row.proofs.Rows.{Seated, room, at_seat, ending_written, seated_takes}

-- n has the row of m, on other seats
pub record Kept (m n : List ℕ) : Type 0 where
  pub keeps : Seated n
  pub same : row_of n ≡ row_of m
  pub same_used : (t : ℕ) → used n t ≡ used m t
  pub stays : (t : ℕ) → used m t ≡ false → cell n SEATS t ≡ cell m SEATS t

-- the slots at the seats below s have come to the first k seats
pub record Packing (m n : List ℕ) (s k : ℕ) : Type 0 where
  pub kept : Kept m n
  pub end : ending n ≡ ending m
  pub full : (p : ℕ) → p < k → taken n p ≡ true
  pub gap : (p : ℕ) → k ≤ p → p < s → taken n p ≡ false

-- a free seat is passed over
packing_pass : (m n : List ℕ) (s k : ℕ) → Packing m n s k → taken n s ≡ false → Packing m n (s + 1) k
packing_pass m n s k g h = record {
  kept = g.kept;
  end = g.end;
  full = g.full;
  gap = λ p l u. elim (cases_eq p s) [ inl e ↦ ap (taken n) e ∙ h | inr ne ↦ g.gap p l (omega arith) ];
}

-- the slot at a taken seat is drawn to the front
module _ (m n : List ℕ) (s k : ℕ) (g : Packing m n s k) (h : taken n s ≡ true) where
  -- to a free seat before it
  module _ (l : k < s) where
    u : Writes (TAKEN ∷ []) n (unmarked n s)
    u = unmarked_writes n s

    low : s < SEATS_MOST
    low = room n g.kept.keeps s h

    goes : Leaves s (cell n SLOTS s) (cell n SLOTS) (cell n SEATS) (cell n SEATS) (taken n) (taken (unmarked n s))
    goes = record { there = h; slot_at = refl; seat_else = λ j ne. refl; held = taken_unmarked n s low g.kept.keeps.long }

    comes : Takes k (cell n SLOTS s) (cell n SLOTS) (cell n SEATS)
        (cell (moved n s k) SLOTS) (cell (moved n s k) SEATS) (taken (unmarked n s)) (taken (moved n s k))
    unfolding moved
    comes =
        let a = u.as_long in let b = g.kept.keeps.long in let c = low in
        let t = seated_takes (unmarked n s) k (cell n SLOTS s) (omega arith) (omega arith) (g.kept.keeps.stands.low s h) in
        rw (column_same u SLOTS refl, column_same u SEATS refl) at t

    packing_far : Packing m (moved n s k) (s + 1) (k + 1)
    packing_far =
        let st = g.kept.keeps.stands in
        let w = moved_writes n s k (let a = low in omega arith) in
        let end = w.others ENDING 0 refl in
        record {
          kept = record {
            keeps = record {
              long = let a = w.as_long in let b = g.kept.keeps.long in omega arith;
              stands = rw (w.others COUNT 0 refl, end) (moved_seating st goes comes l g.gap);
            };
            same = rw end (moved_row st goes comes l g.gap) ∙ g.kept.same;
            same_used = λ t. moved_used st goes comes l g.gap t ∙ g.kept.same_used t;
            stays = λ t u.
                comes.seat_else t (λ e. both_ways (used n t) (g.kept.same_used t ∙ u) (rw e (at_seat n g.kept.keeps s h))) ∙ g.kept.stays t u;
          };
          end = rw end g.end;
          full = λ p u. comes.held p ∙ elim (cases_eq p k) [
            | inl e ↦ rw (eq-eqb p k e)
            | inr ne ↦ rw (ne_eqb p k ne, goes.held p, g.full p (omega arith), ne_eqb p s (λ e. omega arith))
          ];
          gap = λ p u v. comes.held p ∙ rw (ne_eqb p k (λ e. omega arith), goes.held p) (elim (cases_eq p s) [
            | inl e ↦ rw (eq-eqb p s e) (let t = taken n p in grind arith)
            | inr ne ↦ rw (g.gap p (omega arith) (omega arith))
          ]);
        }

  packing_draw : k ≤ s → Packing m (drawn n s k) (s + 1) (k + 1)
  packing_draw b = elim (cases_lt k s) [
    | inl l ↦ rw (lt-ltb k s l) (packing_far l)
    | inr l ↦ rw (le-ltb k s l) record {
      kept = g.kept;
      end = g.end;
      full = λ p u. elim (cases_eq p s) [ inl i ↦ ap (taken n) i ∙ h | inr ne ↦ g.full p (omega arith) ];
      gap = λ p u v. absurd (omega arith);
    }
  ]

-- on the first seats
abbrev pub Compacted : List ℕ → List ℕ → Type 0
Compacted m n = Kept m n × (ending n ≡ count n)

-- when each seat was passed, the row ends behind the slots
packing_all : (m n : List ℕ) (s k : ℕ) → Packing m n s k → ending m ≤ s → k ≤ s → Compacted m (written n ENDING 0 k)
packing_all m n s k g h b =
    let st = g.kept.keeps.stands in
    let le : k ≤ ending n = elim (cases_lt 0 k) [ inl l ↦ let u = st.below (k - 1) (g.full (k - 1) (omega arith)) in omega arith | inr l ↦ omega arith ] in
    let past : (p : ℕ) → k ≤ p → p < ending n → taken n p ≡ false = λ p l u. g.gap p l (let e = g.end in omega arith) in
    let size : count n ≡ k = st.counts ∙ amount_gap (taken n) k (ending n) le past ∙ amount_all (taken n) k g.full in
    let end = ending_written n k g.kept.keeps.long (omega arith) in
    let c = written_same n ENDING COUNT 0 k refl in let r = written_same n ENDING SLOTS 0 k refl in
    let e = written_same n ENDING SEATS 0 k refl in let t = written_same n ENDING TAKEN 0 k refl in (
      record {
        keeps = record {
          long = let l = length_written n ENDING 0 k in let l' = g.kept.keeps.long in omega arith;
          stands = rw (c, end, r, e, t) record {
            counts = st.counts ∙ amount_gap (taken n) k (ending n) le past;
            below = λ p y. elim (cases_lt p k) [ inl l ↦ l | inr l ↦ absurd (both_ways (taken n p) (past p l (st.below p y)) y) ];
            low = st.low;
            seat_of = st.seat_of;
          };
        };
        same = rw (end, r, t) (sym (gap_to (cell n SLOTS) (taken n) k (ending n) le past)) ∙ g.kept.same;
        same_used = λ x. rw (r, e, t) (g.kept.same_used x);
        stays = λ x u. rw e (g.kept.stays x u);
      },
      end ∙ sym (rw c size),
    )

packing_rest : (f : ℕ) (m n : List ℕ) (s k : ℕ) → k ≤ s → ending m ≡ s + f → Packing m n s k → Compacted m (packed_from f n s k)
unfolding packed_from
packing_rest zero m n s k b e g = packing_all m n s k g (omega arith) b
packing_rest (suc f) m n s k b e g = elim (cases_Bool (taken n s)) [
  | inl y ↦ rw y (packing_rest f m (drawn n s k) (s + 1) (k + 1) (omega arith) (omega arith) (packing_draw m n s k g y b))
  | inr y ↦ rw y (packing_rest f m n (s + 1) k (omega arith) (omega arith) (packing_pass m n s k g y))
]

pub compacts : (m : List ℕ) → Seated m → Compacted m (compacted m)
unfolding compacted
compacts m sm = packing_rest (ending m) m m 0 0 (omega arith) (omega arith) record {
  kept = record { keeps = sm; same = refl; same_used = λ t. refl; stays = λ t _. refl };
  end = refl;
  full = λ p l. absurd (omega arith);
  gap = λ p _ l. absurd (omega arith);
}

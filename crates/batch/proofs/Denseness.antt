-- A packed row: what stands at each of the first seats; and it stays packed where nothing is written to it.
use Rattle.std.proofs.Common.{◌≡◌, ℕ, ◌-◌, ◌<◌, ◌≤◌, true, ltb, List, map, sym, ap, ◌∙◌, inl, inr, arith}
use Rattle.std.specs.List.{range_with_len}
use Rattle.std.proofs.lemmas.Bool.{cases_eq, lt-ltb, le-ltb, ltb-true}
use Rattle.order.specs.declared.board.TheConstants.{CARDS}
use Rattle.order.specs.Lists.{place, distinct}
use Rattle.order.proofs.RenamesLists.{distinct_map}
use Rattle.memory.specs.declared.column.Column.{Column}
use Rattle.memory.specs.Columns.{cell}
use Rattle.memory.specs.Footprints.{clear_all, Writes}
use Rattle.row.specs.declared.layout.TheConstants.{IDS, SLOTS, SEATS}
use Rattle.row.specs.Columns.{columns}
use Rattle.row.specs.Meaning.{count, ending, taken, row_of, used, IsRow}
use Rattle.row.specs.Laws.{Packed}
use Rattle.row.proofs.Along.{gap_to, listed_all, amount_all}
use Rattle.row.proofs.Depending.{depends}
use Rattle.row.proofs.Named.{one_slot, used_seat, row_used, place_ranked}
use Rattle.row.proofs.Present.{slot_used as at_seat, few_cards, apart}
use Rattle.batch.specs.Dense.{Dense}

pub dense_packed : (m m' : List ℕ) → Packed m m' → Dense m'
dense_packed m m' P = record { is_row = P.is_row; full = P.full }

pub row_once : (m : List ℕ) → IsRow m → distinct (row_of m) ≡ true
row_once m S = sym (distinct_map (cell m IDS) (used m) (one_slot m S) (row_of m) (row_used m S)) ∙ apart m S

module _ (m : List ℕ) (D : Dense m) where
  abbrev n : ℕ
  n = count m

  pub held : (p : ℕ) → p < n → taken m p ≡ true
  held p h = D.full p ∙ lt-ltb p n h

  pub few : n ≤ CARDS
  few = few_cards m D.is_row

  ends : n ≤ ending m
  ends = elim (cases_eq n 0) [
    | inl e ↦ omega arith
    | inr e ↦ let b = D.is_row.stands.seated.below (n - 1) (held (n - 1) (omega arith)) in omega arith
  ]

  pub row_is : row_of m ≡ map (cell m SLOTS) (range_with_len 0 n)
  row_is = gap_to (cell m SLOTS) (taken m) n (ending m) ends (λ p a _. D.full p ∙ le-ltb p n a) ∙ listed_all (cell m SLOTS) (taken m) n held

  -- a place and its slot
  pub slot_at : (p : ℕ) → p < n → (cell m SLOTS p < CARDS) × (cell m SEATS (cell m SLOTS p) ≡ p)
  slot_at p h = let s = D.is_row.stands.seated in (s.low p (held p h), s.seat_of p (held p h))

  pub slot_one : (p q : ℕ) → p < n → q < n → cell m SLOTS p ≡ cell m SLOTS q → p ≡ q
  slot_one p q a b e = sym (slot_at p a).1 ∙ ap (cell m SEATS) e ∙ (slot_at q b).1

  pub slot_used : (p : ℕ) → p < n → used m (cell m SLOTS p) ≡ true
  slot_used p h = (at_seat m D.is_row p (held p h)).0

  pub used_place : (s : ℕ) → used m s ≡ true → (cell m SEATS s < n) × (cell m SLOTS (cell m SEATS s) ≡ s)
  used_place s u = let a = used_seat m D.is_row s u in (ltb-true (cell m SEATS s) n (sym (D.full (cell m SEATS s)) ∙ a.0), a.1)

  pub place_slot : (s : ℕ) → used m s ≡ true → place (row_of m) s ≡ cell m SEATS s
  place_slot s u = place_ranked m D.is_row s u ∙ amount_all (taken m) (cell m SEATS s) (λ p l. held p (omega (arith, (used_place s u).0)))

pub dense_kept : (fs : List Column) (m m' : List ℕ) → clear_all fs columns ≡ true → Writes fs m m' → Dense m → Dense m'
dense_kept fs m m' c w D =
    let s = depends fs m m' c w in
    record { is_row = s.is_row D.is_row; full = λ p. s.same_taken p ∙ D.full p ∙ ap (ltb p) (sym s.same_count) }

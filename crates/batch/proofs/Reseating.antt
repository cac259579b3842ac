-- The row seated again: the slots put aside stand at their places, and the row is packed.
use Rattle.std.proofs.Common.{◌≡◌, ℕ, zero, suc, ◌+◌, ◌-◌, ◌<◌, ◌≤◌, min, true, ◌⊎◌, ltb, List, [], ◌∷◌, ◌++◌, map, length, take, drop, sym, refl, ap, ◌∙◌, ap₂, inl, inr, arith}
use lib.ListN.{length-map}
use Rattle.std.specs.List.{range_with_len}
use Rattle.std.proofs.lemmas.Bool.{cases_Bool}
use Rattle.std.proofs.lemmas.List.{append-nil, drop_all}
use Rattle.std.proofs.lemmas.List.FromFn.{take-map-range_with_len}
use Rattle.order.specs.Lists.{has, distinct}
use Rattle.order.proofs.Tabulated.{made_same, drop_made, take_made}
use Rattle.order.proofs.Members.{not_again, distinct_tail}
use Rattle.order.proofs.Parts.{with_part, row_in_parts}
use Rattle.memory.specs.declared.column.Column.{Column}
use Rattle.memory.specs.Columns.{cell}
use Rattle.memory.specs.Footprints.{at_each, Writes, View, view}
use Rattle.memory.proofs.Footprints.{kept}
use Rattle.row.specs.declared.layout.TheConstants.{SEATS_MOST, COUNT, ENDING, FRESH, FREE, IDS, CHAIN, SLOTS, SEATS, TAKEN}
use Rattle.row.specs.Meaning.{bit_set, in_use, count, ending, fresh, free, taken, row_of, cards, used, Standing}
use Rattle.row.specs.Moves.{put_at, packed}
use Rattle.row.proofs.Again.{packs}
use Rattle.row.proofs.Named.{length_slots}
use Rattle.search.proofs.Gathering.{put, put_apart, put_slots, put_places}
use Rattle.search.proofs.Exchanged.{with_at, at_here, exchanged, exchanged_out}
use Rattle.search.proofs.Listed.{counting_has, counting_once}
use Rattle.search.proofs.Mapped.{map_has, has_map}
use Rattle.search.proofs.Seating.{Rearranges, used_same, standing_again}
use Rattle.batch.specs.declared.layout.TheConstants.{SPARE}
use Rattle.batch.specs.Columns.{seated as seated_columns}
use Rattle.batch.specs.Dense.{Dense}
use Rattle.batch.specs.Seating.{reseated}
use Rattle.batch.specs.SeatLaws.{Seated, ReseatsIn, Reseats}
use Rattle.batch.proofs.Denseness.{dense_packed, few, held, row_is}
use Rattle.batch.proofs.Writing.{reseated_writes}

-- the places are given to the slots put aside for them, one after another
abbrev aside : List ℕ → ℕ → ℕ → List ℕ
aside m p n = map (cell m SPARE) (range_with_len p n)

reseated_put : (n : ℕ) (m : List ℕ) (p : ℕ) → reseated n m p ≡ put m (range_with_len p n) (aside m p n)
unfolding reseated at_each put
reseated_put zero m p = refl
reseated_put (suc n) m p =
    let m₁ = put_at m p (cell m SPARE p) in
    reseated_put n m₁ (p + 1)
    ∙ ap (put m₁ (range_with_len (p + 1) n)) (made_same (cell m₁ SPARE) (cell m SPARE) (p + 1) n (λ q _ _. put_apart m p (cell m SPARE p) SPARE q refl refl))

-- at each of the places then is what was given to it
exchanged_all : (g : ℕ → ℕ) (ps ks : List ℕ) → distinct ps ≡ true → length ks ≡ length ps → map (exchanged g ps ks) ps ≡ ks
unfolding exchanged
exchanged_all g [] [] d l = refl
exchanged_all g [] (k ∷ ks) d l = absurd (omega arith)
exchanged_all g (p ∷ ps) [] d l = absurd (omega arith)
exchanged_all g (p ∷ ps) (k ∷ ks) d l =
    let h = with_at g p k in
    ap₂ ◌∷◌ (exchanged_out h ps ks p (not_again p ps d) ∙ at_here g p k p refl) (exchanged_all h ps ks (distinct_tail p ps d) (omega arith))

-- the columns of the row that aren't written
abbrev others : List Column
others = COUNT ∷ ENDING ∷ FRESH ∷ FREE ∷ IDS ∷ CHAIN ∷ TAKEN ∷ []

module _ (m : List ℕ) (lo n : ℕ) (D : Dense m) (in_row : lo + n ≤ count m) (once : distinct (aside m lo n) ≡ true)
    (same : (s : ℕ) → has (aside m lo n) s ≡ has (map (cell m SLOTS) (range_with_len lo n)) s) where
  abbrev ps : List ℕ
  ps = range_with_len lo n

  abbrev ks : List ℕ
  ks = aside m lo n

  abbrev m' : List ℕ
  m' = reseated n m lo

  abbrev slot : ℕ → ℕ
  slot = cell m SLOTS

  abbrev slot' : ℕ → ℕ
  slot' = cell m' SLOTS

  wrote : Writes seated_columns m m'
  wrote = reseated_writes n m lo (omega (arith, in_row, few m D))

  R : Rearranges (taken m) slot ps ks
  R = record {
    seats_held = λ p h. held m D p (omega (arith, in_row, (counting_has lo n p h).1));
    as_many = length-map ps (cell m SPARE);
    ps_once = counting_once lo n;
    ks_once = once;
    from = λ s h. map_has slot ps s (sym (same s) ∙ h);
    all = λ p h. same (slot p) ∙ has_map slot ps p (slot p) h refl;
  }

  slots_are : (p : ℕ) → slot' p ≡ exchanged slot ps ks p
  slots_are p =
      ap (λ (x : List ℕ). cell x SLOTS p) (reseated_put n m lo)
      ∙ put_slots m ps ks (omega (arith, D.is_row.long)) (λ q h. omega (arith, in_row, few m D, (counting_has lo n q h).1)) p

  seats_are : (s : ℕ) → cell m' SEATS s ≡ exchanged (cell m SEATS) ks ps s
  seats_are s =
      ap (λ (x : List ℕ). cell x SEATS s) (reseated_put n m lo)
      ∙ put_places m ps ks (omega (arith, D.is_row.long)) (λ t h. let w = R.from t h in rw (← w.2) (D.is_row.stands.seated.low w.0 (R.seats_held w.0 w.1))) s

  as_before : (V : View → Type 0) → V (view others m) → V (view others m')
  as_before = kept seated_columns others refl m m' wrote

  same_count : count m' ≡ count m
  same_count = wrote.others COUNT 0 refl

  dense_so : Dense m'
  dense_so = record {
    is_row = record {
      long = omega (arith, wrote.as_long, D.is_row.long);
      stands =
          as_before (λ v. Standing (v.at COUNT 0) (min (v.at ENDING 0) SEATS_MOST) (v.at FRESH 0) (v.at FREE 0) (v.at IDS) (v.at CHAIN) slot' (cell m' SEATS)
          (bit_set (v.at TAKEN)))
          (standing_again (count m) (ending m) (fresh m) (free m) ps ks (cell m IDS) (cell m CHAIN) slot (cell m SEATS) (taken m) D.is_row.stands R slot'
          (cell m' SEATS) slots_are seats_are);
    };
    full = λ p. as_before (λ v. bit_set (v.at TAKEN) p ≡ taken m p) refl ∙ D.full p ∙ ap (ltb p) (sym same_count);
  }

  used_so : (s : ℕ) → used m' s ≡ used m s
  used_so s =
      as_before (λ v. in_use slot' (cell m' SEATS) (bit_set (v.at TAKEN)) s ≡ used m s)
      (used_same (count m) (ending m) (fresh m) (free m) ps ks (cell m IDS) (cell m CHAIN) slot (cell m SEATS) (taken m) D.is_row.stands R slot' (cell m' SEATS)
      slots_are seats_are s)

  -- the row, part by part
  abbrev row' : List ℕ
  row' = map slot' (range_with_len 0 (count m))

  abbrev row : List ℕ
  row = map slot (range_with_len 0 (count m))

  stays : (p : ℕ) → (p < lo) ⊎ (lo + n ≤ p) → slot' p ≡ slot p
  stays p o = slots_are p ∙ exchanged_out slot ps ks p (elim (cases_Bool (has ps p)) [
    | inl h ↦ absurd (let c = counting_has lo n p h in elim o [ inl l ↦ omega arith | inr l ↦ omega arith ])
    | inr h ↦ h
  ])

  front : take lo row' ≡ take lo row
  front =
      take-map-range_with_len slot' 0 (count m) lo (omega (arith, in_row)) ∙ made_same slot' slot 0 lo (λ p l u. stays p (inl (omega arith)))
      ∙ sym (take-map-range_with_len slot 0 (count m) lo (omega (arith, in_row)))

  middle : take n (drop lo row') ≡ ks
  middle = take_made slot' (count m) lo n in_row ∙ made_same slot' (exchanged slot ps ks) lo n (λ p l u. slots_are p) ∙ exchanged_all slot ps ks R.ps_once R.as_many

  rest : drop (lo + n) row' ≡ drop (lo + n) row
  rest =
      drop_made slot' 0 (count m) (lo + n) in_row
      ∙ made_same slot' slot (0 + (lo + n)) (count m - (lo + n)) (λ p l u. stays p (inr (omega arith)))
      ∙ sym (drop_made slot 0 (count m) (lo + n) in_row)

  row_so : row_of m' ≡ take lo (row_of m) ++ (ks ++ drop (lo + n) (row_of m))
  unfolding with_part
  row_so =
      let i : lo + n - lo ≡ n = omega arith in
      row_is m' dense_so ∙ ap (λ (x : ℕ). map slot' (range_with_len 0 x)) same_count ∙ sym (row_in_parts row' lo (lo + n) (omega arith))
      ∙ rw (i, front, middle, rest, row_is m D) refl

  pub seated_so : Seated m m' lo n ks
  seated_so = record { dense = dense_so; row_is = row_so; same_used = used_so }

pub reseats_dense : (m : List ℕ) (lo n : ℕ) → Dense m → ReseatsIn m lo n
reseats_dense m lo n D in_row once same = seated_so m lo n D in_row once same

pub reseats : Reseats
reseats = (reseats_dense, λ m lo n S. reseats_dense (packed m) lo n (dense_packed m (packed m) (packs m S)))

-- the cards, if their numbers are as they were
pub cards_by : (m m' : List ℕ) → ((j : ℕ) → cell m' IDS j ≡ cell m IDS j) → cards m' ≡ map (cell m IDS) (row_of m')
cards_by m m' e = ap (λ (f : ℕ → ℕ). map f (row_of m')) (λ t j. e j t)

-- the whole row seated again: m' is the memory m with the slots ks for its row
pub record RowSeated (m m' ks : List ℕ) : Type 0 where
  pub wrote : Writes seated_columns m m'
  pub dense : Dense m'
  pub row_is : row_of m' ≡ ks
  pub same_used : (s : ℕ) → used m' s ≡ used m s

pub row_seated : (m : List ℕ) → Dense m → (n : ℕ) → n ≡ count m → (ks : List ℕ) → map (cell m SPARE) (range_with_len 0 n) ≡ ks → distinct ks ≡ true →
    ((s : ℕ) → has ks s ≡ has (row_of m) s) → RowSeated m (reseated n m 0) ks
row_seated m D n all ks aside once same =
    let row_all : map (cell m SLOTS) (range_with_len 0 n) ≡ row_of m = rw all (sym (row_is m D)) in
    let S : Seated m (reseated n m 0) 0 n (map (cell m SPARE) (range_with_len 0 n)) = reseats_dense m 0 n D (omega arith) (rw aside once) (λ s. rw (aside, row_all) (same s)) in
    record {
      wrote = reseated_writes n m 0 (omega (arith, few m D));
      dense = S.dense;
      row_is = S.row_is ∙ rw (aside, drop_all (0 + n) (row_of m) (omega (arith, length_slots m D.is_row))) (append-nil ks);
      same_used = S.same_used;
    }

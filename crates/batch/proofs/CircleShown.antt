-- What is shown if not all cards come is a circle of links.
use Rattle.std.proofs.Common.{◌≡◌, ℕ, zero, suc, ◌+◌, ◌/◌, ◌%◌, ◌<◌, ◌≤◌, min, Bool, true, false, not, ◌&&◌, eqb, List, [], ◌∷◌, map, length, sym, refl, ap, ◌∙◌, subst, inl, inr, arith}
use Rattle.std.specs.List.{fold, range_with_len}
use Rattle.std.proofs.lemmas.List.FromFn.{length-map-range_with_len}
use Rattle.std.proofs.lemmas.Bool.{cases_Bool, cases_eq, both_ways, and_parts, and_from, or_cases, or_left, or_right, eqb-true, eq-eqb, ne_eqb, lt-ltb}
use Rattle.std.proofs.lemmas.Bool.Decides.{nat_tests}
use Rattle.order.specs.declared.board.TheConstants.{CARDS}
use Rattle.order.specs.Lists.{every, any, has}
use Rattle.order.specs.Board.{linked}
use Rattle.order.proofs.Filters.{every_at, every_more}
use Rattle.order.proofs.Members.{has_head, has_tail}
use Rattle.order.proofs.Tabulated.{made_has, made_same}
use Rattle.memory.specs.Columns.{cell, written, wiped}
use Rattle.memory.specs.Footprints.{Writes, at_each}
use Rattle.memory.proofs.Cells.{length_written, cell_same, cell_other, cell_apart}
use Rattle.memory.proofs.Footprints.{same, less, on, after, put_one, each}
use Rattle.row.specs.declared.layout.TheConstants.{COUNT, IDS, SLOTS}
use Rattle.row.specs.Meaning.{row_of, used, count}
use Rattle.row.proofs.Named.{used_below, has_used, has_slot, length_slots}
use Rattle.links.specs.declared.layout.TheConstants.{ENTRIES, AGE, ALL}
use Rattle.links.specs.Table.{edges, IsTable}
use Rattle.links.proofs.Giving.{age_gives}
use Rattle.links.proofs.Keeping.{age_walked}
use Rattle.chains.specs.declared.cells.Pointer.{Pointer}
use Rattle.search.specs.Meaning.{slot_board}
use Rattle.batch.specs.declared.layout.TheConstants.{SPARE, WAITS, LEAVES, NUMBERS}
use Rattle.batch.specs.Dense.{Dense}
use Rattle.batch.specs.Several.{circle}
use Rattle.batch.specs.Rule.{anew}
use Rattle.batch.specs.RuleLaws.{within_row}
use Rattle.batch.specs.Circling.{flagged, stays, noted, traced, first_left, start, back, on_circle, round}
use Rattle.batch.specs.MakingAnew.{new_row}
use Rattle.batch.proofs.RuleRounds.{left_waits, one_not}
use Rattle.batch.proofs.Counting.{pairs, any_pairs}
use Rattle.batch.proofs.Denseness.{few, row_is, row_once, slot_used}
use Rattle.batch.proofs.LinkByLink.{along_writes, along_fold}
use Rattle.batch.proofs.Noting.{noting, noted_writes, Noted, all_noted}
use Rattle.batch.proofs.StepsBack.{stays_inside, comes_round}
use Rattle.batch.proofs.RoundTrail.{round_circle}
use Rattle.batch.proofs.Saving.{wiped_writes, wiped_in}

-- which slots have come, as it is noted: after each has come, a slot has come if it had before, or is one of these
flagged_is : (f : ℕ) (m : List ℕ) (i s : ℕ) → LEAVES.base + LEAVES.size ≤ length m → s < CARDS →
    eqb (cell (flagged f m i) LEAVES s) 0 ≡ (not (has (map (cell m SPARE) (range_with_len i f)) s) && eqb (cell m LEAVES s) 0)
unfolding flagged at_each any
flagged_is zero m i s l h = refl
flagged_is (suc f) m i s l h =
    let t = cell m SPARE i in
    let m₁ = written m LEAVES t 1 in
    let ih = flagged_is f m₁ (i + 1) s (omega (arith, length_written m LEAVES t 1)) h in
    let e = made_same (cell m₁ SPARE) (cell m SPARE) (i + 1) f (λ p a b. cell_apart m LEAVES SPARE t p 1 refl) in
    ih ∙ ap (λ (ks : List ℕ). not (has ks s) && eqb (cell m₁ LEAVES s) 0) e ∙ elim (cases_eq s t) [
      | inl z ↦ let w = ap (cell m₁ LEAVES) z ∙ cell_same m LEAVES t 1 (omega arith) (omega arith) in rw (w, eq-eqb s t z) (grind (arith, nat_tests))
      | inr z ↦ rw (cell_other m LEAVES t s 1 z, ne_eqb s t z)
    ]

-- the first place whose slot hasn't come
first_left_is : (f : ℕ) (m : List ℕ) (p q : ℕ) → p ≤ q → q < p + f → stays m (cell m SLOTS q) ≡ true →
    (x : ℕ) × (x < p + f) × (first_left f m p ≡ cell m SLOTS x) × (stays m (cell m SLOTS x) ≡ true)
unfolding first_left
first_left_is zero m p q a b h = absurd (omega arith)
first_left_is (suc f) m p q a b h = elim (cases_Bool (stays m (cell m SLOTS p))) [
  | inl z ↦ (p, omega arith, rw z refl, z)
  | inr z ↦
      let w = first_left_is f m (p + 1) q (elim (cases_eq p q) [
        | inl e ↦ absurd (both_ways _ z (ap (λ (k : ℕ). stays m (cell m SLOTS k)) e ∙ h))
        | inr e ↦ omega arith
      ]) (omega arith) h in
      (w.0, omega arith, rw z w.2, w.3)
]

-- one of a list passes a test
one_any : (f : ℕ → Bool) (xs : List ℕ) → any f xs ≡ true → (x : ℕ) × (has xs x ≡ true) × (f x ≡ true)
unfolding any
one_any f [] j = absurd (both_ways false refl j)
one_any f (x ∷ xs) j = elim (or_cases (f x) (any f xs) j) [
  | inl e ↦ (x, has_head x xs, e)
  | inr e ↦ let w = one_any f xs e in (w.0, has_tail x xs w.0 w.1, w.2)
]

any_one : (f : ℕ → Bool) (xs : List ℕ) (x : ℕ) → has xs x ≡ true → f x ≡ true → any f xs ≡ true
unfolding any
any_one f [] x h e = h
any_one f (y ∷ ys) x h e = elim (or_cases (eqb x y) (has ys x) h) [
  | inl i ↦ or_left _ _ (ap f (sym (eqb-true x y i)) ∙ e)
  | inr i ↦ or_right (f y) _ (any_one f ys x i e)
]

-- m is the memory in which the row was made anew, of n slots that have come, and not all have
module _ (m : List ℕ) (n : ℕ) (long : NUMBERS.base + NUMBERS.size ≤ length m) (D : Dense m) (T : IsTable m) (within : within_row (row_of m) (edges m))
    (come : new_row m n ≡ anew (edges m) (row_of m)) (not_all : n < count m) where
  abbrev m₀ : List ℕ
  m₀ = wiped CARDS m WAITS 0

  abbrev y₀ : List ℕ
  y₀ = wiped CARDS m₀ LEAVES 0

  abbrev y : List ℕ
  y = flagged n y₀ 0

  abbrev x : List ℕ
  x = traced m n

  abbrev gone : ℕ → Bool
  gone s = has (anew (edges m) (row_of m)) s

  -- in the row, and hasn't come
  abbrev late : ℕ → Bool
  late s = used m s && not (gone s)

  y_since : Writes (LEAVES ∷ []) m₀ y
  unfolding flagged
  y_since =
      on _ m₀ y₀ y (wiped_writes LEAVES CARDS m₀ 0)
      (each _ (λ m₁ j. written m₁ LEAVES (cell m₁ SPARE j) 1) (λ m₁ j. put_one m₁ LEAVES (cell m₁ SPARE j) 1 (λ s. omega arith)) n y₀ 0)

  y_wrote : Writes (WAITS ∷ LEAVES ∷ []) m y
  y_wrote = after _ _ m m₀ y refl y_since (less _ _ m m₀ refl (wiped_writes WAITS CARDS m 0))

  x_wrote : Writes noting y x
  unfolding traced
  x_wrote = along_writes AGE noted noting noted_writes ENTRIES y ALL

  x_is : x ≡ fold noted y (pairs m T)
  unfolding traced
  x_is =
      along_fold AGE noted noting noted_writes refl ENTRIES y ALL
      ∙ ap (fold noted y) (ap (map (λ (q : Pointer). q.label)) (age_walked _ refl m y y_wrote ENTRIES ALL) ∙ age_gives m T)

  wrote : Writes (WAITS ∷ LEAVES ∷ NUMBERS ∷ []) m x
  wrote = after _ _ m y x refl x_wrote (less _ _ m y refl y_wrote)

  y_stays : (s : ℕ) → used m s ≡ true → stays y s ≡ not (gone s)
  unfolding stays
  y_stays s u =
      let low = used_below m D.is_row s u in
      let a = wiped_writes WAITS CARDS m 0 in
      let b = wiped_writes LEAVES CARDS m₀ 0 in
      let z = wiped_in LEAVES CARDS m₀ s (omega (arith, a.as_long, long)) low (omega arith) in
      let e = made_same (cell y₀ SPARE) (cell m SPARE) 0 n (λ p _ _. b.others SPARE p refl ∙ a.others SPARE p refl) ∙ come in
      rw (lt-ltb s CARDS low, flagged_is n y₀ 0 s (omega (arith, a.as_long, b.as_long, long)) low, z, e) (grind arith)

  -- nothing is noted at first
  y_none : (s : ℕ) → s < CARDS → cell y WAITS s ≡ 0
  y_none s low = y_since.others WAITS s refl ∙ wiped_in WAITS CARDS m s (omega (arith, long)) low (omega arith)

  x_stays : (s : ℕ) → stays x s ≡ stays y s
  unfolding stays
  x_stays s = rw (x_wrote.others LEAVES s refl)

  -- what is noted for a slot that hasn't come: one that hasn't come either, and is linked to it
  long_y : NUMBERS.base + NUMBERS.size ≤ length y
  long_y = omega (arith, y_wrote.as_long, long)

  noted_late : (s : ℕ) → late s ≡ true → Noted y long_y (pairs m T) s x
  noted_late s h =
      let u = and_parts (used m s) (not (gone s)) h in
      let low = used_below m D.is_row s u.0 in
      let w = left_waits (edges m) (row_of m) (row_once m D.is_row) s (has_slot m D.is_row s u.0) (grind arith) in
      let v = one_any _ (pairs m T) (any_pairs m T (λ a b. eqb a w.0 && eqb b s) ∙ w.1) in
      let e = and_parts (eqb (v.0 / CARDS) w.0) (eqb (v.0 % CARDS) s) v.2 in
      let z : stays y (v.0 / CARDS) ≡ true = ap (stays y) (eqb-true _ _ e.0) ∙ y_stays w.0 (sym (has_used m D.is_row w.0) ∙ w.2) ∙ ap not w.3 in
      subst (Noted y long_y (pairs m T) s) (sym x_is)
      (all_noted y long_y (pairs m T) s low (pairs m T) y v.0 (same noting y) (λ k i. i) (y_none s low) v.1 z (eqb-true _ _ e.1))

  abbrev next : ℕ → ℕ
  next = cell x NUMBERS

  goes_back : (s : ℕ) → late s ≡ true → (late (next s) ≡ true) × (linked (slot_board m) (next s) s ≡ true)
  goes_back s h =
      let w = noted_late s h in
      let e : linked (slot_board m) (next s) s ≡ true =
      sym (any_pairs m T (λ a b. eqb a (next s) && eqb b s))
      ∙ any_one _ (pairs m T) w.link w.looked (and_from _ _ (eq-eqb _ _ (sym w.is)) (eq-eqb _ _ w.into)) in
      let b = every_at (λ (a c : ℕ). has (row_of m) a && has (row_of m) c) (edges m) (next s) s within e in
      let u = sym (has_used m D.is_row (next s)) ∙ (and_parts (has (row_of m) (next s)) (has (row_of m) s) b).0 in
      (and_from _ _ u (sym (y_stays (next s) u) ∙ ap (stays y) w.is ∙ w.late), e)

  -- one that hasn't come, to start from
  late_at : (p : ℕ) → p < count m → stays x (cell x SLOTS p) ≡ not (gone (cell m SLOTS p))
  late_at p h = ap (stays x) (wrote.others SLOTS p refl) ∙ x_stays (cell m SLOTS p) ∙ y_stays (cell m SLOTS p) (slot_used m D p h)

  start_late : late (start x) ≡ true
  start_late =
      let c : min (count x) CARDS ≡ count m = let e = wrote.others COUNT 0 refl in omega (arith, few m D) in
      let o = one_not (row_of m) (new_row m n) (row_once m D.is_row) (omega (arith, length_slots m D.is_row, length-map-range_with_len (cell m SPARE) 0 n)) in
      let q = made_has (cell m SLOTS) 0 (count m) o.0 (ap (λ (ks : List ℕ). has ks o.0) (sym (row_is m D)) ∙ o.1) in
      let g : gone (cell m SLOTS q.0) ≡ false = ap gone q.3 ∙ ap (λ (ks : List ℕ). has ks o.0) (sym come) ∙ o.2 in
      let w = first_left_is (min (count x) CARDS) x 0 q.0 (omega arith) (omega (arith, c, q.2)) (late_at q.0 (omega (arith, q.2)) ∙ ap not g) in
      let l : w.0 < count m = omega (arith, c, w.1) in
      ap late (w.2 ∙ wrote.others SLOTS w.0 refl) ∙ and_from _ _ (slot_used m D w.0 l) (sym (late_at w.0 l) ∙ w.3)

  pub shows_circle : (N : ℕ) → CARDS ≤ N → (circle (slot_board m) (round x N) ≡ true) × (every (used m) (round x N) ≡ true)
  unfolding round on_circle
  shows_circle N h =
      let is_used : (s : ℕ) → late s ≡ true → used m s ≡ true = λ s d. (and_parts (used m s) (not (gone s)) d).0 in
      let in_row : (s : ℕ) → late s ≡ true → has (row_of m) s ≡ true = λ s d. has_slot m D.is_row s (is_used s d) in
      let w = comes_round next late (λ s d. (goes_back s d).0) (row_of m) in_row CARDS (start x) (omega (arith, length_slots m D.is_row, few m D)) start_late in
      let d = stays_inside next late (λ s d. (goes_back s d).0) (row_of m) in_row CARDS (start x) start_late in
      let c = round_circle (slot_board m) late next goes_back (back next CARDS (start x)) N w.0 (omega (arith, w.1)) w.2 d in
      (c.0, every_more late (used m) is_used _ c.1)

  pub same_ids : (s : ℕ) → cell x IDS s ≡ cell m IDS s
  same_ids s = wrote.others IDS s refl

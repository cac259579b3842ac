-- The slots at the marked seats are written to CHOSEN, one after another, and then the seats of both sets are given to them.
use Rattle.std.proofs.Common.{◌≡◌, ℕ, zero, suc, ◌+◌, ◌-◌, ◌^◌, ◌<◌, ◌≤◌, Bool, true, List, [], ◌∷◌, ◌++◌, map, length, Option, sym, refl, ap, ◌∙◌, ap₂, add-zero, arith, ◌||◌}
use Rattle.search.proofs.Common.{CARDS, has, Column, cell, written, apart, SLOTS, clear, Writes, CHOSEN, marked, next_up, first_mark, Summed, CellsAlone}
use Rattle.search.proofs.Common.{Gathered, gathered, gathers, both_next, seated, dealt, given, SEATS, SEATS_MOST, FORE, HIND, both_first}
use Rattle.order.proofs.Members.{has_head, has_tail}
use Rattle.memory.proofs.Footprints.{same, on, put_one}
use Rattle.memory.proofs.Cells.{length_written, cell_same, cell_other, cell_apart}
use Rattle.memory.proofs.Alone.{cells_alone}
use Rattle.memory.proofs.Nearest.{Up, changed}
use Rattle.memory.proofs.Upward.{next_up_nearest, first_of_all}
use Rattle.search.proofs.Listed.{From, Lists, from_least, from_list, from_sooner}
use Rattle.memory.proofs.Fuel.{fuel_step, fuel_end}
use Rattle.std.proofs.lemmas.Bool.Decides.{nat_tests}
use Rattle.row.specs.Moves.{put_at}
use Rattle.row.proofs.Framing.{put_at_writes}
use Rattle.search.proofs.Exchanged.{with_at, exchanged, exchanged_same}

abbrev pub all : List ℕ → ℕ → Gathered
all m i = record { memory = m; end = i }

-- the column c marks what passes T
pub record Marking (m : List ℕ) (c : Column) (T : ℕ → Bool) : Type 0 where
  pub summed : Summed m c
  pub marks : (p : ℕ) → marked m c p ≡ T p

pub marking_same : (m n : List ℕ) (c : Column) (T : ℕ → Bool) → length n ≡ length m → ((j : ℕ) → cell n c j ≡ cell m c j) → Marking m c T → Marking n c T
unfolding CellsAlone
marking_same m n c T l e k =
    let a = cells_alone m n c e in
    record { summed = a.1 (rw l k.summed.lies) k.summed; marks = λ p. a.0 p ∙ k.marks p }

pub marking_kept : (fs : List Column) (m n : List ℕ) (c : Column) (T : ℕ → Bool) → Writes fs m n → clear fs c ≡ true → Marking m c T → Marking n c T
marking_kept fs m n c T w e k = marking_same m n c T w.as_long (λ j. w.others c j e) k

pub marking_written : (m : List ℕ) (c d : Column) (i v : ℕ) (T : ℕ → Bool) → apart d c ≡ true → Marking m c T → Marking (written m d i v) c T
marking_written m c d i v T a k = marking_same m (written m d i v) c T (length_written m d i v) (λ j. cell_apart m d c i j v a) k

module _ (m : List ℕ) (c : Column) (T : ℕ → Bool) (k : Marking m c T) where
  pub from_next : (p : ℕ) → From T (p + 1) (next_up m c p)
  from_next p =
      changed Up (marked m c) T (λ r. p < r) (λ r. p + 1 ≤ r) (next_up m c p) (λ r l h. (omega arith, sym (k.marks r) ∙ h))
      (λ r l h. sym (k.marks r) ∙ h (omega arith)) (next_up_nearest m c k.summed p)

  pub from_first : From T 0 (first_mark m c)
  from_first = from_least (marked m c) T (first_mark m c) k.marks (first_of_all m c k.summed)

-- the numbers ks written to CHOSEN from the index i on
unfoldable pub wrote : List ℕ → ℕ → List ℕ → List ℕ
wrote m i [] = m
wrote m i (k ∷ ks) = wrote (written m CHOSEN i k) (i + 1) ks

pub wrote_append : (m : List ℕ) (i j : ℕ) (ks js : List ℕ) → i + length ks ≡ j → wrote m i (ks ++ js) ≡ wrote (wrote m i ks) j js
unfolding wrote
wrote_append m i j [] js e = ap (λ (x : ℕ). wrote m x js) (let z : i ≡ j = omega arith in z)
wrote_append m i j (k ∷ ks) js e = wrote_append (written m CHOSEN i k) (i + 1) j ks js (omega arith)

pub writes_wrote : (m : List ℕ) (i : ℕ) (ks : List ℕ) → ((k : ℕ) → has ks k ≡ true → k < 2 ^ 64) → Writes (CHOSEN ∷ []) m (wrote m i ks)
unfolding wrote
writes_wrote m i [] h = same _ m
writes_wrote m i (k ∷ ks) h =
    on _ m _ _ (put_one m CHOSEN i k (λ s. h k (has_head k ks))) (writes_wrote (written m CHOSEN i k) (i + 1) ks (λ s e. h s (has_tail k ks s e)))

-- what stands in CHOSEN from the index i on
abbrev pub Reads : List ℕ → ℕ → List ℕ → Type 0
Reads m i [] = Unit {0}
Reads m i (k ∷ ks) = (cell m CHOSEN i ≡ k) × Reads m (i + 1) ks

wrote_before : (m : List ℕ) (i : ℕ) (ks : List ℕ) (j : ℕ) → j < i → cell (wrote m i ks) CHOSEN j ≡ cell m CHOSEN j
unfolding wrote
wrote_before m i [] j l = refl
wrote_before m i (k ∷ ks) j l = wrote_before (written m CHOSEN i k) (i + 1) ks j (omega arith) ∙ cell_other m CHOSEN i j k (λ z. omega arith)

pub wrote_reads : (m : List ℕ) (i : ℕ) (ks : List ℕ) → CHOSEN.base + CHOSEN.size ≤ length m → i + length ks ≤ CARDS → Reads (wrote m i ks) i ks
unfolding wrote
wrote_reads m i [] l r = tt
wrote_reads m i (k ∷ ks) l r = (
  wrote_before (written m CHOSEN i k) (i + 1) ks i (omega arith) ∙ cell_same m CHOSEN i k (omega arith) (omega arith),
  wrote_reads (written m CHOSEN i k) (i + 1) ks (rw (length_written m CHOSEN i k) l) (omega arith),
)

-- the loop writes the SLOTS of the list of marked SEATS
module _ (c : Column) (ap_c : apart CHOSEN c ≡ true) (T : ℕ → Bool) (slot : ℕ → ℕ) where
  gathered_list : (f : ℕ) (m : List ℕ) (q : ℕ) (qs : List ℕ) (o : Option ℕ) (i : ℕ) → Marking m c T → ((p : ℕ) → cell m SLOTS p ≡ slot p) →
      Lists T q qs → From T q o → length qs ≤ f → gathered f m c o i ≡ all (wrote m i (map slot qs)) (i + length qs)
  unfolding gathered wrote
  gathered_list zero m q [] o i k s l e h = ap (all m) (sym (add-zero i))
  gathered_list zero m q (x ∷ qs) o i k s l e h = absurd (omega arith)
  gathered_list (suc f) m q [] o i k s l e h = rw (from_list T q [] o l e) (ap (all m) (sym (add-zero i)))
  gathered_list (suc f) m q (x ∷ qs) o i k s l e h =
      let v = cell m SLOTS x in
      let m₁ = written m CHOSEN i v in
      let k₁ = marking_written m c CHOSEN i v T ap_c k in
      let ih = gathered_list f m₁ (x + 1) qs (next_up m₁ c x) (i + 1) k₁ (λ p. cell_apart m CHOSEN SLOTS i p v refl ∙ s p)
      l.1 (from_next m₁ c T k₁ x) (omega arith) in
      rw (from_list T q (x ∷ qs) o l e) (ih ∙ ap₂ all (ap (λ (z : ℕ). wrote (written m CHOSEN i z) (i + 1) (map slot qs)) (s x)) (omega arith))

  pub gathers_list : (m : List ℕ) (qs : List ℕ) (i : ℕ) → Marking m c T → ((p : ℕ) → cell m SLOTS p ≡ slot p) → Lists T 0 qs → length qs ≤ CARDS →
      gathers m c i ≡ all (wrote m i (map slot qs)) (i + length qs)
  unfolding gathers
  gathers_list m qs i k s l h = gathered_list CARDS m 0 qs (first_mark m c) i k s l (from_first m c T k) h

-- the steps of the loops that gather the slots and give them their seats
pub gathered_at : (N j : ℕ) (m : List ℕ) (c : Column) (o : Option ℕ) (i : ℕ) → j < N →
    gathered (N - j) m c o i ≡ given o (all m i)
    (λ p. gathered (N - (j + 1)) (written m CHOSEN i (cell m SLOTS p)) c (next_up (written m CHOSEN i (cell m SLOTS p)) c p) (i + 1))
unfolding gathered
gathered_at N j m c o i h = fuel_step (λ f. gathered f m c o i) N j h

pub gathered_end : (N j : ℕ) (m : List ℕ) (c : Column) (o : Option ℕ) (i : ℕ) → N ≤ j → gathered (N - j) m c o i ≡ all m i
unfolding gathered
gathered_end N j m c o i h = fuel_end (λ f. gathered f m c o i) N j h

pub dealt_at : (N j : ℕ) (m : List ℕ) (o : Option ℕ) (i : ℕ) → j < N →
    dealt (N - j) m o i ≡ given o m (λ p. dealt (N - (j + 1)) (seated m p i) (both_next (seated m p i) p) (i + 1))
unfolding dealt
dealt_at N j m o i h = fuel_step (λ f. dealt f m o i) N j h

pub dealt_end : (N j : ℕ) (m : List ℕ) (o : Option ℕ) (i : ℕ) → N ≤ j → dealt (N - j) m o i ≡ m
unfolding dealt
dealt_end N j m o i h = fuel_end (λ f. dealt f m o i) N j h

pub ruleset steps = (gathered_at, gathered_end, dealt_at, dealt_end)

-- the seats ps given to the SLOTS ks
unfoldable pub put : List ℕ → List ℕ → List ℕ → List ℕ
put m [] ks = m
put m (p ∷ ps) [] = m
put m (p ∷ ps) (k ∷ ks) = put (put_at m p k) ps ks

put_long : (m : List ℕ) (p k : ℕ) → length (put_at m p k) ≡ length m
put_long m p k = length_written (written m SLOTS p k) SEATS k p ∙ length_written m SLOTS p k

pub put_apart : (m : List ℕ) (p k : ℕ) (d : Column) (j : ℕ) → apart SLOTS d ≡ true → apart SEATS d ≡ true → cell (put_at m p k) d j ≡ cell m d j
put_apart m p k d j a b = cell_apart (written m SLOTS p k) SEATS d k j p b ∙ cell_apart m SLOTS d p j k a

one_slot : (m : List ℕ) (p k : ℕ) → SEATS.base + SEATS.size ≤ length m → p < SEATS_MOST → (x : ℕ) → cell (put_at m p k) SLOTS x ≡ with_at (cell m SLOTS) p k x
one_slot m p k l h x =
    let a = cell_apart (written m SLOTS p k) SEATS SLOTS k x p refl in
    let s = cell_same m SLOTS p k h (omega arith) in
    let o = cell_other m SLOTS p x k in
    grind (arith, nat_tests)

one_seat : (m : List ℕ) (p k : ℕ) → SEATS.base + SEATS.size ≤ length m → k < CARDS → (x : ℕ) → cell (put_at m p k) SEATS x ≡ with_at (cell m SEATS) k p x
one_seat m p k l h x =
    let a = cell_apart m SLOTS SEATS p x k refl in
    let s = cell_same (written m SLOTS p k) SEATS k p h (omega (arith, length_written m SLOTS p k)) in
    let o = cell_other (written m SLOTS p k) SEATS k x p in
    grind (arith, nat_tests)

pub writes_put : (m : List ℕ) (ps ks : List ℕ) → ((p : ℕ) → has ps p ≡ true → p < 2 ^ 64) → ((k : ℕ) → has ks k ≡ true → k < 2 ^ 64) →
    Writes (SLOTS ∷ SEATS ∷ []) m (put m ps ks)
unfolding put
writes_put m [] ks h i = same _ m
writes_put m (p ∷ ps) [] h i = same _ m
writes_put m (p ∷ ps) (k ∷ ks) h i =
    on _ m _ _ (put_at_writes m p k (λ _. h p (has_head p ps)) (λ _. i k (has_head k ks)))
    (writes_put (put_at m p k) ps ks (λ q e. h q (has_tail p ps q e)) (λ q e. i q (has_tail k ks q e)))

pub put_slots : (m : List ℕ) (ps ks : List ℕ) → SEATS.base + SEATS.size ≤ length m → ((p : ℕ) → has ps p ≡ true → p < SEATS_MOST) → (x : ℕ) →
    cell (put m ps ks) SLOTS x ≡ exchanged (cell m SLOTS) ps ks x
unfolding put exchanged
put_slots m [] ks l h x = refl
put_slots m (p ∷ ps) [] l h x = refl
put_slots m (p ∷ ps) (k ∷ ks) l h x =
    put_slots (put_at m p k) ps ks (rw (put_long m p k) l) (λ q i. h q (has_tail p ps q i)) x
    ∙ exchanged_same _ _ ps ks (one_slot m p k l (h p (has_head p ps))) x

pub put_places : (m : List ℕ) (ps ks : List ℕ) → SEATS.base + SEATS.size ≤ length m → ((s : ℕ) → has ks s ≡ true → s < CARDS) → (x : ℕ) →
    cell (put m ps ks) SEATS x ≡ exchanged (cell m SEATS) ks ps x
unfolding put exchanged
put_places m [] [] l h x = refl
put_places m [] (k ∷ ks) l h x = refl
put_places m (p ∷ ps) [] l h x = refl
put_places m (p ∷ ps) (k ∷ ks) l h x =
    put_places (put_at m p k) ps ks (rw (put_long m p k) l) (λ q i. h q (has_tail k ks q i)) x
    ∙ exchanged_same _ _ ks ps (one_seat m p k l (h k (has_head k ks))) x

-- the loop gives the seats of the list
reads_same : (m n : List ℕ) (i : ℕ) (ks : List ℕ) → ((j : ℕ) → cell n CHOSEN j ≡ cell m CHOSEN j) → Reads m i ks → Reads n i ks
reads_same m n i [] e r = tt
reads_same m n i (k ∷ ks) e r = (e i ∙ r.0, reads_same m n (i + 1) ks e r.1)

module _ (A B : ℕ → Bool) where
  abbrev T : ℕ → Bool
  T p = A p || B p

  -- both sets mark what they should
  abbrev Both : List ℕ → Type 0
  Both m = Marking m HIND.column A × Marking m FORE.column B

  both_put : (m : List ℕ) (p k : ℕ) → Both m → Both (put_at m p k)
  both_put m p k b = (
    marking_same m _ HIND.column A (put_long m p k) (λ j. put_apart m p k HIND.column j refl refl) b.0,
    marking_same m _ FORE.column B (put_long m p k) (λ j. put_apart m p k FORE.column j refl refl) b.1,
  )

  dealt_list : (f : ℕ) (m : List ℕ) (q : ℕ) (ps ks : List ℕ) (o : Option ℕ) (i : ℕ) → Both m → Lists T q ps → From T q o → Reads m i ks →
      length ks ≡ length ps → length ps ≤ f → dealt f m o i ≡ put m ps ks
  unfolding put dealt seated both_next
  dealt_list zero m q [] ks o i b l e r n h = refl
  dealt_list (suc f) m q [] ks o i b l e r n h = rw (from_list T q [] o l e) refl
  dealt_list f m q (p ∷ ps) [] o i b l e r n h = absurd (omega arith)
  dealt_list zero m q (p ∷ ps) (k ∷ ks) o i b l e r n h = absurd (omega arith)
  dealt_list (suc f) m q (p ∷ ps) (k ∷ ks) o i b l e r n h =
      let m₁ = put_at m p k in
      let b₁ = both_put m p k b in
      let next = from_sooner A B (p + 1) _ _ (from_next m₁ HIND.column A b₁.0 p) (from_next m₁ FORE.column B b₁.1 p) in
      rw (from_list T q (p ∷ ps) o l e, r.0) (dealt_list f m₁ (p + 1) ps ks (both_next m₁ p) (i + 1) b₁ l.1 next
      (reads_same m m₁ (i + 1) ks (λ j. put_apart m p k CHOSEN j refl refl) r.1) (omega arith) (omega arith))

  pub deals : (m : List ℕ) (ps ks : List ℕ) → Marking m HIND.column A → Marking m FORE.column B → Lists T 0 ps → Reads m 0 ks →
      length ks ≡ length ps → length ps ≤ CARDS → dealt CARDS m (both_first m) 0 ≡ put m ps ks
  unfolding both_first
  deals m ps ks a b l r n h =
      dealt_list CARDS m 0 ps ks _ 0 (a, b) l (from_sooner A B 0 _ _ (from_first m HIND.column A a) (from_first m FORE.column B b)) r n h

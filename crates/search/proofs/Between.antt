-- The two searches over the board of slots: what a link tells of slots and seats, for both directions at once, and what is so of the memory meanwhile.
use Rattle.std.proofs.Common.{◌≡◌, ℕ, ◌<◌, ◌≤◌, Bool, true, List, sym, ◌∙◌, arith, ◌⊎◌, length, inl, inr}
use Rattle.std.proofs.lemmas.Bool.{ltb-true, lt-ltb}
use Rattle.std.proofs.lemmas.Bool.Decides.{nat_tests}
use Rattle.search.proofs.Common.{CARDS, place, Board, leads, linked, PLACES, cell, SLOTS, SEATS, row_of, used, taken, Side, Fore, Hind, slot_board, part}
use Rattle.search.proofs.Common.{Ready, Column, Writes, marked, Summed, CellsAlone, VIA, searched, marks_of, other, slot_on}
use Rattle.order.proofs.Climbs.{Fine, fine_parts, link_ends, link_before}
use Rattle.order.proofs.Leading.{leads_just}
use Rattle.row.proofs.Rows.{Seated, seated, room, sitting, at_seat, has_is, order_is}
use Rattle.memory.proofs.Alone.{cells_alone}

-- where a search begins
abbrev pub origin : ℕ → ℕ → Side → ℕ
origin a b Fore = b
origin a b Hind = a

-- a link leads a search from x to y
abbrev pub arc : Board → Side → ℕ → ℕ → Bool
arc r Fore x y = linked r x y
arc r Hind x y = linked r y x

-- links lead a search from x to y
abbrev pub comes : Board → Side → ℕ → ℕ → Bool
comes r Fore x y = leads r x y
comes r Hind x y = leads r y x

-- the seat q is farther than p
abbrev pub Beyond : Side → ℕ → ℕ → Type 0
Beyond Fore p q = p < q
Beyond Hind p q = q < p

-- the link that is asked for: it goes backward
pub record Setting (m : List ℕ) (a b : ℕ) : Type 0 where
  pub ready : Ready m
  pub a_used : used m a ≡ true
  pub b_used : used m b ≡ true
  pub before : cell m SEATS b < cell m SEATS a

module _ (m : List ℕ) (a b : ℕ) (S : Setting m a b) where
  abbrev r : Board
  r = slot_board m

  fine_so : Fine r
  fine_so = fine_parts r S.ready.fine_so

  sits : Seated m
  sits = seated m S.ready.is_row

  -- the slot sits, and at its seat sits the slot
  pub used_tells : (s : ℕ) → used m s ≡ true → (s < CARDS) × (taken m (cell m SEATS s) ≡ true) × (cell m SLOTS (cell m SEATS s) ≡ s)
  used_tells s u = sitting m sits s u

  pub taken_tells : (p : ℕ) → taken m p ≡ true → (used m (cell m SLOTS p) ≡ true) × (cell m SEATS (cell m SLOTS p) ≡ p) × (p < PLACES)
  taken_tells p h = (at_seat m sits p h, sits.stands.seat_of p h, room m sits p h)

  pub seat_below : (s : ℕ) → used m s ≡ true → cell m SEATS s < PLACES
  seat_below s u = (taken_tells (cell m SEATS s) (used_tells s u).1).2

  linked_tells : (x y : ℕ) → linked r x y ≡ true → (used m x ≡ true) × (used m y ≡ true) × (cell m SEATS x < cell m SEATS y)
  linked_tells x y h =
      let e = link_ends r fine_so x y h in
      let u = sym (has_is m sits x) ∙ e.0 in
      let v = sym (has_is m sits y) ∙ e.1 in
      let l = lt-ltb (place (row_of m) x) (place (row_of m) y) (link_before r fine_so x y h) in
      (u, v, ltb-true (cell m SEATS x) (cell m SEATS y) (order_is m sits x y u v ∙ l))

  pub arc_tells : (d : Side) (x y : ℕ) → arc r d x y ≡ true → (used m x ≡ true) × (used m y ≡ true) × Beyond d (cell m SEATS x) (cell m SEATS y)
  arc_tells Fore x y h = linked_tells x y h
  arc_tells Hind x y h = let t = linked_tells y x h in (t.1, t.0, t.2)

  pub comes_self : (d : Side) (x : ℕ) → comes r d x x ≡ true
  comes_self Fore x = (leads_just r x x x S.ready.fine_so).0
  comes_self Hind x = (leads_just r x x x S.ready.fine_so).0

  pub comes_on : (d : Side) (x y z : ℕ) → comes r d x y ≡ true → arc r d y z ≡ true → comes r d x z ≡ true
  comes_on Fore x y z h e = (leads_just r x y z S.ready.fine_so).2 h ((leads_just r y z z S.ready.fine_so).1 e)
  comes_on Hind x y z h e = (leads_just r z y x S.ready.fine_so).2 ((leads_just r z y y S.ready.fine_so).1 e) h

  -- the two searches meet: from the one's origin to the other's
  pub comes_round : (x t : ℕ) → leads r b x ≡ true → linked r x t ≡ true → leads r t a ≡ true → leads r b a ≡ true
  comes_round x t h e k = (leads_just r b t a S.ready.fine_so).2 (comes_on Fore b x t h e) k

  pub part_tells : (q : ℕ) → part m a b q ≡ true → (cell m SEATS b ≤ q) × (q ≤ cell m SEATS a) × (q < PLACES)
  part_tells q h = let u = seat_below a S.a_used in (grind (arith, nat_tests), grind (arith, nat_tests), grind (arith, nat_tests))

  pub part_from : (q : ℕ) → cell m SEATS b ≤ q → q ≤ cell m SEATS a → part m a b q ≡ true
  part_from q x y = grind (arith, nat_tests)

-- what is so at each moment of a search
pub record Sound (m : List ℕ) (a b : ℕ) (n : List ℕ) : Type 0 where
  pub frame : Writes searched m n
  pub summed : (d : Side) → Summed n (marks_of d)
  pub within : (d : Side) (q : ℕ) → marked n (marks_of d) q ≡ true → (taken m q ≡ true) × (part m a b q ≡ true)
  pub start : (d : Side) → marked n (marks_of d) (cell m SEATS (origin a b d)) ≡ true
  pub led : (d : Side) (q : ℕ) → marked n (marks_of d) q ≡ true → comes (slot_board m) d (origin a b d) (slot_on m q) ≡ true
  pub trail : (d : Side) (s : ℕ) → used m s ≡ true → marked n (marks_of d) (cell m SEATS s) ≡ true → (s ≡ origin a b d) ⊎
      ((used m (cell n VIA s) ≡ true) × (marked n (marks_of d) (cell m SEATS (cell n VIA s)) ≡ true) × (arc (slot_board m) d (cell n VIA s) s ≡ true))
  pub alone : (d : Side) (q : ℕ) → marked n (marks_of d) q ≡ true → marked n (marks_of (other d)) q ≡ true → ⊥

-- the search d comes to more, all beyond the seat c
pub record Grown (d : Side) (c : ℕ) (n n' : List ℕ) : Type 0 where
  pub stays : (q : ℕ) → marked n (marks_of d) q ≡ true → marked n' (marks_of d) q ≡ true
  pub same_other : (q : ℕ) → marked n' (marks_of (other d)) q ≡ marked n (marks_of (other d)) q
  pub beyond : (q : ℕ) → marked n' (marks_of d) q ≡ true → (marked n (marks_of d) q ≡ true) ⊎ Beyond d c q

pub grown_on : (d : Side) (c : ℕ) (n n' n'' : List ℕ) → Grown d c n n' → Grown d c n' n'' → Grown d c n n''
grown_on d c n n' n'' g h = record {
  stays = λ q e. h.stays q (g.stays q e);
  same_other = λ q. h.same_other q ∙ g.same_other q;
  beyond = λ q e. elim (h.beyond q e) [ inl t ↦ g.beyond q t | inr t ↦ inr t ];
}

-- equal cells, equal marks
pub marked_same : (m n : List ℕ) (c : Column) → ((j : ℕ) → cell n c j ≡ cell m c j) → (q : ℕ) → marked n c q ≡ marked m c q
unfolding CellsAlone
marked_same m n c e = (cells_alone m n c e).0

pub summed_same : (m n : List ℕ) (c : Column) → ((j : ℕ) → cell n c j ≡ cell m c j) → length n ≡ length m → Summed m c → Summed n c
unfolding CellsAlone
summed_same m n c e l s = (cells_alone m n c e).1 (omega (arith, l, s.lies)) s

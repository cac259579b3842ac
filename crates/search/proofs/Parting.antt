-- The two searches at their end: each has come to all that it should, or they have met.
use Rattle.std.proofs.Common.{◌≡◌, ℕ, zero, suc, ◌≤◌, Bool, true, ◌&&◌, List, ap, arith}
use Rattle.std.proofs.lemmas.Bool.{false_from_ne_true}
use Rattle.search.proofs.Common.{leads, linked, cell, marked, SEATS, used, taken, edges, Side, Fore, Hind, FORE, HIND, marks_of, other, joined, slot_board}
use Rattle.search.proofs.Common.{slot_on, part, Parted, Trailed}
use Rattle.order.proofs.Ways.{Way}
use Rattle.order.proofs.Climbs.{fine_parts, leads_way}
use Rattle.search.proofs.Between.{arc, Setting, used_tells, taken_tells, arc_tells, comes_round, part_tells, part_from, Sound}

-- what a link leads to from a place that the search has come to, it has come to
abbrev pub Closed : List ℕ → ℕ → ℕ → Side → List ℕ → ℕ → Type 0
Closed m a b d n q = (t : ℕ) → arc (slot_board m) d (slot_on m q) t ≡ true → part m a b (cell m SEATS t) ≡ true → marked n (marks_of d) (cell m SEATS t) ≡ true

module _ (m : List ℕ) (a b : ℕ) (S : Setting m a b) (n : List ℕ) (s : Sound m a b n) where
  ways : (y z : ℕ) → leads (slot_board m) y z ≡ true → (k : ℕ) × Way (edges m) k y z
  ways y z l = leads_way (slot_board m) (fine_parts (slot_board m) S.ready.fine_so) y z l

  module _ (closed : (d : Side) (q : ℕ) → marked n (marks_of d) q ≡ true → Closed m a b d n q) where
    -- ways go up
    fore_all : (k y z : ℕ) → Way (edges m) k y z → used m y ≡ true → (cell m SEATS y ≤ cell m SEATS z)
        × (marked n FORE.column (cell m SEATS y) ≡ true → cell m SEATS z ≤ cell m SEATS a → marked n FORE.column (cell m SEATS z) ≡ true)
    fore_all zero y z w u = (omega (arith, ap (cell m SEATS) w), λ h l. rw w at h)
    fore_all (suc k) y z w u =
        let t = arc_tells m a b S Fore y w.0 w.1 in
        let ih = fore_all k w.0 z w.2 t.1 in
        let e = (used_tells m a b S y u).2 in (
          omega (arith, t.2, ih.0),
          λ h l.
              let i = part_tells m a b S (cell m SEATS y) (s.within Fore (cell m SEATS y) h).1 in
              let p = part_from m a b S (cell m SEATS w.0) (omega (arith, i, t.2)) (omega (arith, ih.0)) in
              ih.1 (closed Fore (cell m SEATS y) h w.0 (rw e w.1) p) l,
        )

    hind_all : (k y z : ℕ) → Way (edges m) k y z → used m z ≡ true → marked n HIND.column (cell m SEATS z) ≡ true → cell m SEATS b ≤ cell m SEATS y
        → marked n HIND.column (cell m SEATS y) ≡ true
    hind_all zero y z w u h l = rw w h
    hind_all (suc k) y z w u h l =
        let t = arc_tells m a b S Fore y w.0 w.1 in
        let ih = hind_all k w.0 z w.2 u h (omega (arith, t.2)) in
        let e = (used_tells m a b S w.0 t.1).2 in
        let i = part_tells m a b S (cell m SEATS w.0) (s.within Hind (cell m SEATS w.0) ih).1 in
        closed Hind (cell m SEATS w.0) ih y (rw e w.1) (part_from m a b S (cell m SEATS y) l (omega (arith, t.2, i)))

    just : (p : ℕ) (d : Side) (l : Bool) → (taken m p ≡ true → part m a b p ≡ true → l ≡ true → marked n (marks_of d) p ≡ true) →
        (marked n (marks_of d) p ≡ true → l ≡ true) → marked n (marks_of d) p ≡ (taken m p && (part m a b p && l))
    just p d l x y = let i = s.within d p in grind arith

    pub parted : Parted m n a b
    parted = record {
      kept = s.frame;
      fore_summed = s.summed Fore;
      hind_summed = s.summed Hind;
      no_round = false_from_ne_true _ (λ h.
          let w = ways b a h in
          s.alone Fore (cell m SEATS a) ((fore_all w.0 b a w.1 S.b_used).1 (s.start Fore) (omega arith)) (s.start Hind));
      fore_is = λ p. just p Fore (leads (slot_board m) b (slot_on m p)) (λ h i l.
          let w = ways b (slot_on m p) l in
          let e = (taken_tells m a b S p h).1 in
          rw e at ((fore_all w.0 b (slot_on m p) w.1 S.b_used).1 (s.start Fore) (rw e (part_tells m a b S p i).1))) (s.led Fore p);
      hind_is = λ p. just p Hind (leads (slot_board m) (slot_on m p) a) (λ h i l.
          let w = ways (slot_on m p) a l in
          let e = (taken_tells m a b S p h).1 in
          rw e at (hind_all w.0 (slot_on m p) a w.1 S.a_used (s.start Hind) (rw e (part_tells m a b S p i).0))) (s.led Hind p);
    }

  -- they have met
  met_at : (x t : ℕ) → marked n FORE.column (cell m SEATS x) ≡ true → linked (slot_board m) x t ≡ true → marked n HIND.column (cell m SEATS t) ≡ true →
      Trailed m n a b x t
  met_at x t hx k ht =
      let u = arc_tells m a b S Fore x t k in
      let f = rw (used_tells m a b S x u.0).2 at (s.led Fore (cell m SEATS x) hx) in
      let g = rw (used_tells m a b S t u.1).2 at (s.led Hind (cell m SEATS t) ht) in
      record {
        kept = s.frame;
        fore_summed = s.summed Fore;
        hind_summed = s.summed Hind;
        round = comes_round m a b S x t f k g;
        x_used = u.0;
        t_used = u.1;
        x_fore = hx;
        t_hind = ht;
        joined = k;
        fore_trail = s.trail Fore;
        hind_trail = s.trail Hind;
      }

  pub trailed : (d : Side) (x t : ℕ) → marked n (marks_of d) (cell m SEATS x) ≡ true → arc (slot_board m) d x t ≡ true
      → marked n (marks_of (other d)) (cell m SEATS t) ≡ true → Trailed m n a b (joined d x t).from (joined d x t).to
  trailed Fore x t hx k ht = met_at x t hx k ht
  trailed Hind x t hx k ht = met_at t x ht k hx

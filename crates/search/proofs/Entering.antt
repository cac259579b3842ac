-- A search comes to one slot more.
use Rattle.std.proofs.Common.{◌≡◌, ℕ, Bool, true, false, cond, not, ◌&&◌, ◌||◌, eqb, ◌⊎◌, List, [], ◌∷◌, refl, sym, ap, ◌∙◌, inl, inr, ⊎_elim, arith}
use Rattle.std.proofs.lemmas.Bool.{both_ways, cases_eq, cond_both}
use Rattle.std.proofs.lemmas.Bool.Decides.{nat_tests}
use Rattle.search.proofs.Common.{◌⟶◌, cell, written, apart, Writes, clear, marked, fresh, added, Summed, SLOTS, SEATS, used, Side, Fore, Hind, VIA}
use Rattle.search.proofs.Common.{searched, marks_of, other, sees, entered, part_of, slot_board, part}
use Rattle.memory.proofs.Cells.{length_written, cell_same, cell_other, cell_apart}
use Rattle.memory.proofs.Footprints.{put}
use Rattle.memory.proofs.Adding.{adding}
use Rattle.memory.proofs.Alone.{writes_added}
use Rattle.search.proofs.Touching.{writes_marked}
use Rattle.search.proofs.Between.{origin, arc, Setting, used_tells, arc_tells, comes_on, part_tells, Sound, Grown, marked_same, summed_same}

-- what is so of one search and of the other is so of both
pub each_side : (P : Side → Type 0) (d : Side) → P d → P (other d) → (e : Side) → P e
each_side P Fore x y Fore = x
each_side P Fore x y Hind = y
each_side P Hind x y Fore = y
each_side P Hind x y Hind = x

never_both : (A : Side → ℕ → Type 0) (d : Side) → ((z : ℕ) → A d z → A (other d) z → ⊥) → (e : Side) (z : ℕ) → A e z → A (other e) z → ⊥
never_both A Fore x Fore z h g = x z h g
never_both A Fore x Hind z h g = x z g h
never_both A Hind x Fore z h g = x z g h
never_both A Hind x Hind z h g = x z h g

marks_apart : (d : Side) → (clear (marks_of d ∷ []) (marks_of (other d)) ≡ true) × (clear (marks_of d ∷ []) VIA ≡ true) × (apart VIA (marks_of d) ≡ true)
marks_apart Fore = (refl, refl, refl)
marks_apart Hind = (refl, refl, refl)

pub record Entered (m : List ℕ) (a b : ℕ) (d : Side) (x t : ℕ) (n n' : List ℕ) : Type 0 where
  pub sound : Sound m a b n'
  pub grown : Grown d (cell m SEATS x) n n'
  pub here : part m a b (cell m SEATS t) ≡ true → marked n' (marks_of d) (cell m SEATS t) ≡ true

module _ (m : List ℕ) (a b : ℕ) (S : Setting m a b) (n : List ℕ) (s : Sound m a b n) (d : Side) (x t : ℕ)
    (ux : used m x ≡ true) (mx : marked n (marks_of d) (cell m SEATS x) ≡ true) (k : arc (slot_board m) d x t ≡ true) where
  abbrev q : ℕ
  q = cell m SEATS t

  abbrev n₁ : List ℕ
  n₁ = added n (marks_of d) q

  abbrev n' : List ℕ
  n' = written n₁ VIA t x

  used_t : used m t ≡ true
  used_t = (arc_tells m a b S d x t k).1

  -- the place is new to both searches
  module _ (p : part m a b q ≡ true) (free : marked n (marks_of d) q ≡ false) (unseen : marked n (marks_of (other d)) q ≡ false) where
    cells_other : (j : ℕ) → cell n' (marks_of (other d)) j ≡ cell n (marks_of (other d)) j
    cells_other j =
        cell_apart n₁ VIA (marks_of (other d)) t j x (marks_apart (other d)).2
        ∙ (writes_added (marks_of d) n q).others (marks_of (other d)) j (marks_apart d).0

    cells_own : (j : ℕ) → cell n' (marks_of d) j ≡ cell n₁ (marks_of d) j
    cells_own j = cell_apart n₁ VIA (marks_of d) t j x (marks_apart d).2

    own : (z : ℕ) → marked n' (marks_of d) z ≡ (eqb z q || marked n (marks_of d) z)
    own z = marked_same n₁ n' (marks_of d) cells_own z ∙ (adding n (marks_of d) q (s.summed d) (part_tells m a b S q p).2).2 z

    not_own : (z : ℕ) → marked n' (marks_of (other d)) z ≡ marked n (marks_of (other d)) z
    not_own z = marked_same n n' (marks_of (other d)) cells_other z

    old : (e : Side) (z : ℕ) → marked n (marks_of e) z ≡ true → marked n' (marks_of e) z ≡ true
    old e z =
        each_side (λ e. marked n (marks_of e) z ≡ true → marked n' (marks_of e) z ≡ true) d (λ h. let o = own z in grind arith) (λ h. not_own z ∙ h) e

    was : (e : Side) (z : ℕ) → (z ≡ q → ⊥) → marked n' (marks_of e) z ≡ true → marked n (marks_of e) z ≡ true
    was e z ne =
        each_side (λ e. marked n' (marks_of e) z ≡ true → marked n (marks_of e) z ≡ true) d (λ h. let o = own z in grind (arith, nat_tests))
        (λ h. sym (not_own z) ∙ h) e

    is_own : (e : Side) → marked n' (marks_of e) q ≡ true → e ≡ d
    is_own = each_side (λ e. marked n' (marks_of e) q ≡ true → e ≡ d) d (λ h. refl) (λ h. absurd (both_ways _ unseen (sym (not_own q) ∙ h)))

    new : (e : Side) (z : ℕ) → marked n' (marks_of e) z ≡ true → (marked n (marks_of e) z ≡ true) ⊎ ((e ≡ d) × (z ≡ q))
    new e z h = ⊎_elim (λ i. inr (is_own e (rw i at h), i)) (λ i. inl (was e z i h)) (cases_eq z q)

    here : marked n' (marks_of d) q ≡ true
    here = let o = own q in grind (arith, nat_tests)

    -- slots are small
    frame : Writes searched m n'
    frame = put searched m n₁ VIA t x refl (λ _. omega (arith, (used_tells m a b S x ux).0)) (writes_marked m n d q s.frame)

    via_new : cell n' VIA t ≡ x
    via_new =
        let l = (used_tells m a b S t used_t).0 in
        cell_same n₁ VIA t x l (omega (arith, l, S.ready.fore_summed.lies, s.frame.as_long, (writes_added (marks_of d) n q).as_long))

    via_old : (u : ℕ) → (u ≡ t → ⊥) → cell n' VIA u ≡ cell n VIA u
    via_old u h = cell_other n₁ VIA t u x h ∙ (writes_added (marks_of d) n q).others VIA u (marks_apart d).1

    summed_new : (e : Side) → Summed n' (marks_of e)
    summed_new =
        each_side (λ e. Summed n' (marks_of e)) d
        (summed_same n₁ n' (marks_of d) cells_own (length_written n₁ VIA t x) (adding n (marks_of d) q (s.summed d) (part_tells m a b S q p).2).0)
        (summed_same n n' (marks_of (other d)) cells_other (length_written n₁ VIA t x ∙ (writes_added (marks_of d) n q).as_long) (s.summed (other d)))

    trail_new : (e : Side) (u : ℕ) → used m u ≡ true → marked n' (marks_of e) (cell m SEATS u) ≡ true → (u ≡ origin a b e) ⊎
        ((used m (cell n' VIA u) ≡ true) × (marked n' (marks_of e) (cell m SEATS (cell n' VIA u)) ≡ true) × (arc (slot_board m) e (cell n' VIA u) u ≡ true))
    trail_new e u y h = elim (cases_eq u t) [
      | inl z ↦ let o = is_own e (rw z at h) in inr (rw (z, via_new, o) (ux, old d (cell m SEATS x) mx, k))
      | inr z ↦
          let i = λ (i : cell m SEATS u ≡ q). z (sym (used_tells m a b S u y).2 ∙ ap (cell m SLOTS) i ∙ (used_tells m a b S t used_t).2) in
          ⊎_elim (λ i. inl i) (λ i. inr (rw (via_old u z) (i.0, old e (cell m SEATS (cell n VIA u)) i.1, i.2))) (s.trail e u y (was e (cell m SEATS u) i h))
    ]

    alone_new : (z : ℕ) → marked n' (marks_of d) z ≡ true → marked n' (marks_of (other d)) z ≡ true → ⊥
    alone_new z h g = let o = own z in let i = not_own z in let a = s.alone d z in grind (arith, nat_tests)

    marks_it : Entered m a b d x t n n'
    marks_it = record {
      sound = record {
        frame = frame;
        summed = summed_new;
        within = λ e z h. ⊎_elim (λ o. s.within e z o) (λ i. rw i.1 ((used_tells m a b S t used_t).1, p)) (new e z h);
        start = λ e. old e (cell m SEATS (origin a b e)) (s.start e);
        led = λ e z h. ⊎_elim (λ o. s.led e z o) (λ i.
            let y = rw (used_tells m a b S x ux).2 at (s.led d (cell m SEATS x) mx) in
            rw (i.0, i.1, (used_tells m a b S t used_t).2) (comes_on m a b S d (origin a b d) x t y k)) (new e z h);
        trail = trail_new;
        alone = never_both (λ e z. marked n' (marks_of e) z ≡ true) d alone_new;
      };
      grown = record {
        stays = old d;
        same_other = not_own;
        beyond = λ z h. ⊎_elim (λ o. inl o) (λ i. inr (rw i.1 (arc_tells m a b S d x t k).2)) (new d z h);
      };
      here = λ _. here;
    }

  -- nothing to do
  stays_so : (part m a b q ≡ true → marked n (marks_of d) q ≡ true) → Entered m a b d x t n n
  stays_so h = record {
    sound = s;
    grown = record { stays = λ z e. e; same_other = λ z. refl; beyond = λ z e. inl e };
    here = h;
  }

  abbrev w : ℕ → Bool
  w = part m a b

  abbrev u : Bool
  u = marked n (marks_of (other d)) q

  entered_is : entered n d (part_of m (a ⟶ b)) x t ≡ cond (w q && (not u && fresh n (marks_of d) q)) n' n
  unfolding entered
  entered_is = rw (s.frame.others SEATS t refl)

  pub seen_is : sees n d (part_of m (a ⟶ b)) t ≡ (w q && u)
  unfolding sees
  seen_is = rw (s.frame.others SEATS t refl)

  pub entered_seen : sees n d (part_of m (a ⟶ b)) t ≡ true → entered n d (part_of m (a ⟶ b)) x t ≡ n
  entered_seen h = let e = sym seen_is ∙ h in let i = entered_is in grind arith

  pub enters : sees n d (part_of m (a ⟶ b)) t ≡ false → Entered m a b d x t n (entered n d (part_of m (a ⟶ b)) x t)
  enters h =
      let v = sym seen_is ∙ h in
      let fr = λ (y : w q ≡ true). (adding n (marks_of d) q (s.summed d) (part_tells m a b S q y).2).1 in
      rw entered_is (cond_both (w q && (not u && fresh n (marks_of d) q)) n' n (Entered m a b d x t n)
      (λ e. let p : w q ≡ true = grind arith in let f = fr p in marks_it p (grind arith) (grind arith)) (λ e. stays_so (λ y. let f = fr y in grind arith)))

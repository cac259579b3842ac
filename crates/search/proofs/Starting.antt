-- The two searches at their start, and what they find.
use Rattle.std.proofs.Common.{◌≡◌, ℕ, ◌<◌, ◌≤◌, Bool, true, ◌||◌, eqb, List, Some, Option, sym, refl, ap, ◌∙◌, inl, arith}
use Rattle.std.proofs.lemmas.Bool.{both_ways, eq-eqb, eqb-true}
use Rattle.search.proofs.Common.{CARDS, Link, ◌⟶◌, PLACES, cell, marked, added, Summed, SLOTS, SEATS, used, edges, Side, Fore, Hind, FORE, HIND, marks_of}
use Rattle.search.proofs.Common.{other, front, started, meeting, Ready}
use Rattle.memory.proofs.Adding.{adding}
use Rattle.memory.proofs.Alone.{writes_added}
use Rattle.search.specs.declared.hunt.TheConstants.{FUEL, TURNS}
use Rattle.search.specs.HuntLaws.{Found, Meets}
use Rattle.search.proofs.Touching.{writes_started}
use Rattle.search.proofs.Potential.{weight_all}
use Rattle.search.proofs.Between.{origin, comes_self, Setting, used_tells, seat_below, part_from, Sound, marked_same, summed_same}
use Rattle.search.proofs.Reaching.{near_end, few_edges}
use Rattle.search.proofs.Advancing.{passed, not_passed, left_over, Placed}
use Rattle.search.proofs.Bounding.{hunts}

module _ (m : List ℕ) (a b : ℕ) (S : Setting m a b) where
  abbrev pb : ℕ
  pb = cell m SEATS b

  abbrev pa : ℕ
  pa = cell m SEATS a

  abbrev n₁ : List ℕ
  n₁ = added m FORE.column pb

  abbrev n : List ℕ
  n = started m (a ⟶ b)

  below_a : pa < PLACES
  below_a = seat_below m a b S a S.a_used

  below_b : pb < PLACES
  below_b = seat_below m a b S b S.b_used

  fore_cells : (j : ℕ) → cell n FORE.column j ≡ cell n₁ FORE.column j
  fore_cells j = (writes_added HIND.column n₁ pa).others FORE.column j refl

  hind_cells : (j : ℕ) → cell n₁ HIND.column j ≡ cell m HIND.column j
  hind_cells j = (writes_added FORE.column m pb).others HIND.column j refl

  hind_summed : Summed n₁ HIND.column
  hind_summed = summed_same m n₁ HIND.column hind_cells (writes_added FORE.column m pb).as_long S.ready.hind_summed

  marks_are : (d : Side) (q : ℕ) → marked n (marks_of d) q ≡ eqb q (cell m SEATS (origin a b d))
  marks_are Fore q =
      marked_same n₁ n FORE.column fore_cells q ∙ (adding m FORE.column pb S.ready.fore_summed below_b).2 q
      ∙ ap (λ (t : Bool). eqb q pb || t) (S.ready.fore_none q) ∙ grind arith
  marks_are Hind q =
      (adding n₁ HIND.column pa hind_summed below_a).2 q ∙ ap (λ (t : Bool). eqb q pa || t) (marked_same m n₁ HIND.column hind_cells q ∙ S.ready.hind_none q) ∙ grind arith

  summed_both : (d : Side) → Summed n (marks_of d)
  summed_both Fore = summed_same n₁ n FORE.column fore_cells (writes_added HIND.column n₁ pa).as_long (adding m FORE.column pb S.ready.fore_summed below_b).0
  summed_both Hind = (adding n₁ HIND.column pa hind_summed below_a).0

  is_origin : (d : Side) (q : ℕ) → marked n (marks_of d) q ≡ true → q ≡ cell m SEATS (origin a b d)
  is_origin d q h = eqb-true q (cell m SEATS (origin a b d)) (sym (marks_are d q) ∙ h)

  at_origin : (d : Side) → (used m (origin a b d) ≡ true) × (pb ≤ cell m SEATS (origin a b d)) × (cell m SEATS (origin a b d) ≤ pa)
  at_origin Fore = (S.b_used, omega arith, omega (arith, S.before))
  at_origin Hind = (S.a_used, omega (arith, S.before), omega arith)

  alone : (d : Side) (q : ℕ) → q ≡ cell m SEATS (origin a b d) → q ≡ cell m SEATS (origin a b (other d)) → ⊥
  alone Fore q h k = omega (arith, S.before)
  alone Hind q h k = omega (arith, S.before)

  sound : Sound m a b n
  sound = record {
    frame = writes_started m (a ⟶ b);
    summed = summed_both;
    within = λ d q h.
        let o = at_origin d in
        rw (is_origin d q h) ((used_tells m a b S (origin a b d) o.0).1, part_from m a b S (cell m SEATS (origin a b d)) o.1 o.2);
    start = λ d. marks_are d (cell m SEATS (origin a b d)) ∙ eq-eqb (cell m SEATS (origin a b d)) (cell m SEATS (origin a b d)) refl;
    led = λ d q h. rw (is_origin d q h, (used_tells m a b S (origin a b d) (at_origin d).0).2) (comes_self m a b S d (origin a b d));
    trail = λ d s u h. inl (sym (used_tells m a b S s u).2 ∙ ap (cell m SLOTS) (is_origin d (cell m SEATS s) h) ∙ (used_tells m a b S (origin a b d) (at_origin d).0).2);
    alone = λ d q h k. alone d q (is_origin d q h) (is_origin (other d) q k);
  }

  placed : (d : Side) → Placed m a b n d (Some (cell m SEATS (origin a b d))) FUEL
  placed d =
      let p = cell m SEATS (origin a b d) in
      record {
        there = λ q e. let i : q ≡ p = cc in rw i (sound.start d);
        closed = λ q h l. absurd (both_ways (passed d (Some p) p) (not_passed d p) (rw (is_origin d q h) at l));
        enough = omega (arith, weight_all (near_end d) (λ k. passed d (Some p) (cell m SEATS k)) CARDS (edges m), few_edges m);
      }

pub meets : (m : List ℕ) (a b : ℕ) → Ready m → used m a ≡ true → used m b ≡ true → cell m SEATS b < cell m SEATS a →
    Found m (meeting m (a ⟶ b)).memory a b (meeting m (a ⟶ b)).answer
unfolding meeting
meets m a b R ua ub l =
    let S : Setting m a b = record { ready = R; a_used = ua; b_used = ub; before = l } in
    let x = left_over Fore (cell m SEATS b) (below_b m a b S) in
    let y = left_over Hind (cell m SEATS a) (below_a m a b S) in
    hunts m a b S TURNS (started m (a ⟶ b)) (front Fore (cell m SEATS b)) (front Hind (cell m SEATS a)) (sound m a b S) refl
    (placed m a b S Fore) (placed m a b S Hind) (omega arith) (omega arith)

-- the law, by what is answered and left
pub meets_so : (m : List ℕ) (l : Link) (o : Option Link) (m' : List ℕ) → o ≡ (meeting m l).answer → m' ≡ (meeting m l).memory → Meets m l o m'
unfolding Meets
meets_so m l o m' e i R ua ub h = rw (e, i) (meets m l.from l.to R ua ub h)

-- What is shown after the two searches met is a way that goes round.
use Rattle.std.proofs.Common.{◌≡◌, ℕ, ◌+◌, ◌-◌, ◌<◌, ◌≤◌, true, ltb, leb, List, [], ◌∷◌, ◌++◌, map, length, drop, slice_index, refl, ap, ◌∙◌, arith}
use Rattle.std.proofs.lemmas.Bool.{and_from, lt-ltb, cond_both}
use Rattle.std.proofs.lemmas.Bool.Decides.{nat_tests}
use mathlib.Core.List.{reverse_aux-eq}
use Rattle.search.proofs.Common.{CARDS, Link, place, ◌⟶◌, linked, marked, IDS, SEATS, row_of, used, VIA, FORE, HIND, slot_board, Ready, Trailed, every}
use Rattle.memory.specs.Columns.{cell}
use Rattle.order.proofs.Places.{place_below}
use Rattle.order.proofs.Climbs.{fine_parts, link_before}
use Rattle.row.proofs.Rows.{seated, length_row, has_is}
use Rattle.search.specs.Way.{trail, way, shown, ShownSo}
use Rattle.search.specs.WayLaws.{way_of, Round, ShowsWay}
use Rattle.search.proofs.Joining.{way_few, shown_is}
use Rattle.search.proofs.Rounds.{Runs, runs_more, runs_round, onward, turned_round, short}

module _ (m : List ℕ) (R : Ready m) where
  abbrev at : ℕ → ℕ
  at s = place (row_of m) s

  slot_climbs : (s t : ℕ) → used m s ≡ true → used m t ≡ true → linked (slot_board m) s t ≡ true → at s < at t
  slot_climbs s t u v l = link_before (slot_board m) (fine_parts _ R.fine_so) s t l

  low : (s : ℕ) → used m s ≡ true → at s < length (row_of m)
  low s u = place_below (row_of m) s (has_is m (seated m R.is_row) s ∙ u)

  few : length (row_of m) ≤ CARDS
  few = omega (arith, length_row m (seated m R.is_row), R.is_row.stands.freed.all, R.is_row.stands.freed.few)

  module _ (m' : List ℕ) (a b x t : ℕ) (T : Trailed m m' a b x t) where
    abbrev back : List ℕ
    back = trail (cell m' VIA) CARDS b x

    abbrev on : List ℕ
    on = trail (cell m' VIA) (CARDS - length back) a t

    on_runs : Runs (slot_board m) (used m) t a on
    on_runs =
        let k = short (slot_board m) (used m) (λ s. marked m' FORE.column (cell m SEATS s)) at (cell m' VIA) slot_climbs b T.fore_trail CARDS x
        T.x_used T.x_fore in
        let l = slot_climbs x t T.x_used T.t_used T.joined in
        let f = few in
        onward (slot_board m) (used m) (λ s. marked m' HIND.column (cell m SEATS s)) at (cell m' VIA) slot_climbs a T.hind_trail (length (row_of m))
        (CARDS - length back) t low T.t_used T.t_hind (omega arith)

    way_runs : Runs (slot_board m) (used m) b a (way_of m' a b x t)
    unfolding way
    way_runs =
        let f = few in
        let w = turned_round (slot_board m) (used m) (λ s. marked m' FORE.column (cell m SEATS s)) at (cell m' VIA) slot_climbs b T.fore_trail CARDS x
        a on T.x_used T.x_fore (omega (arith, low x T.x_used))
        (runs_more (slot_board m) (used m) x t a on T.x_used T.joined on_runs) in
        rw (reverse_aux-eq back on) at w

pub shows_way : (m m' : List ℕ) (a b x t : ℕ) (out : List ℕ) → Ready m → Trailed m m' a b x t → CARDS ≤ length out → Round m m' a b x t out
shows_way m m' a b x t out R T h =
    let w = runs_round (slot_board m) (used m) (fine_parts _ R.fine_so) a b (way_of m' a b x t) (way_runs m R m' a b x t T) in
    record {
      round = w.0;
      cards = w.1;
      few = way_few (cell m' VIA) CARDS (a ⟶ b) (x ⟶ t);
      is = shown_is m' (a ⟶ b) (x ⟶ t) out h ∙ ap (λ (f : ℕ → ℕ). map f (way_of m' a b x t)) (λ i s. T.kept.others IDS s refl i);
    }

pub shows_so : (m : List ℕ) (l j : Link) (out : List ℕ) (n : ℕ) (out' : List ℕ) → ShownSo (shown m l j out) out n out' → ShowsWay m l j out n out'
unfolding ShowsWay
shows_so m' l j out n out' s m R T h =
    let r = shows_way m m' l.from l.to j.from j.to out R T h in
    (r, record { count = s.count ∙ ap length r.is; out = s.out ∙ ap (λ ks. ks ++ drop n out) r.is })

-- what is shown are numbers of the memory
every_map : (n : ℕ) (f : ℕ → ℕ) → ((s : ℕ) → f s < n) → (xs : List ℕ) → every (λ v. ltb v n) (map f xs) ≡ true
unfolding every
every_map n f h [] = refl
every_map n f h (x ∷ xs) = and_from _ _ (lt-ltb (f x) n (h x)) (every_map n f h xs)

cell_below : (m : List ℕ) (n : ℕ) → ((i : ℕ) → slice_index m i < n) → (s : ℕ) → cell m IDS s < n
unfolding cell
cell_below m n h s = let x = h (IDS.base + s) in let y = h 0 in grind (arith, nat_tests)

pub shown_below : (m : List ℕ) (n : ℕ) (l j : Link) (out : List ℕ) → ((i : ℕ) → slice_index m i < n) → every (λ v. ltb v n) (shown m l j out) ≡ true
unfolding shown every
shown_below m n l j out h =
    cond_both (leb CARDS (length out)) (map (cell m IDS) (way (cell m VIA) CARDS l j)) [] (λ (xs : List ℕ). every (λ v. ltb v n) xs ≡ true)
    (λ _. every_map n (cell m IDS) (cell_below m n h) (way (cell m VIA) CARDS l j)) (λ _. refl)

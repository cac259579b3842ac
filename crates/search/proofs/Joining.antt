-- A trail is written by a loop. A way is two trails: the first is turned round where it stands, and the second written behind it.
use Rattle.std.proofs.Common.{◌≡◌, ℕ, ◌+◌, ◌-◌, ◌≤◌, List, [], ◌∷◌, ◌++◌, map, reverse, length, take, drop, sym, refl, ap, ◌∙◌, arith, zero, suc, ◌<◌, cond, eqb, get_or, set, length-drop}
use mathlib.Core.List.{reverse_aux}
use Rattle.std.proofs.lemmas.Bool.{le-leb, eq-eqb, ne_eqb}
use borrow.Rule.Slice.PartMut.{put_mid, post_of}
use Rattle.std.proofs.lemmas.List.{append-nil, append_assoc, map-append, length-map, length-reverse, length-append, length-drop, take_at, take_all}
use Rattle.std.proofs.lemmas.List.{drop_at, drop_all, drop-drop, drop-append-le, length-take-le, take-append-drop, drop_more}
use Rattle.search.proofs.Common.{CARDS, Link, cell, IDS, VIA}
use Rattle.search.specs.Way.{trail, way, shown}
use Rattle.memory.proofs.Fuel.{fuel_step, fuel_end}
use Rattle.order.proofs.Fronts.{front_more, front_all}

pub trail_few : (next : ℕ → ℕ) (n e s : ℕ) → length (trail next n e s) ≤ n
unfolding trail
trail_few next zero e s = omega arith
trail_few next (suc n) e s = let ih = trail_few next n e (next s) in grind arith

-- the whole of a trail, once its cards are written
written_all : (name : ℕ → ℕ) (ks was out : List ℕ) (n : ℕ) → length ks ≡ n → out ≡ map name (take n ks) ++ drop n was → out ≡ map name ks ++ drop n was
written_all name ks was out n l f =
    front_all name ks was out n (omega arith) (omega arith) f ∙ ap (λ (k : ℕ). map name ks ++ drop k was) l

-- i cards of the trail are written, and the loop stands at a slot: the rest of the trail is the one from there
pub record Walked (next name : ℕ → ℕ) (e s : ℕ) (was out : List ℕ) (i at : ℕ) : Type 0 where
  pub rest : drop i (trail next (length was) e s) ≡ trail next (length was - i) e at
  pub within : i ≤ length (trail next (length was) e s)
  pub front : out ≡ map name (take i (trail next (length was) e s)) ++ drop i was

module _ (next name : ℕ → ℕ) (e s : ℕ) (was : List ℕ) where
  abbrev ks : List ℕ
  ks = trail next (length was) e s

  module _ (out : List ℕ) (i at : ℕ) (w : Walked next name e s was out i at) where
    here : i < length was →
        (i < length ks) × (at ≡ get_or ks i 0) × (drop (i + 1) ks ≡ cond (eqb at e) [] (trail next (length was - (i + 1)) e (next at)))
    unfolding trail
    here h =
        let b = w.rest ∙ fuel_step (λ n. trail next n e at) (length was) i h in
        let l : i < length ks = omega (arith, ap length b, length-drop i ks) in
        let a = drop_more ks i 0 l in
        (l, (cc), (cc))

    -- v is the card of the slot, and b the slot that follows
    written_one : (v : ℕ) → i < length was → v ≡ name at → set out i v ≡ map name (take (i + 1) ks) ++ drop (i + 1) was
    written_one v h x =
        ap (set out i) (x ∙ ap name (here h).1) ∙ front_more name ks was out i (here h).0 (trail_few next (length was) e s) w.front

    pub walked_more : (v b : ℕ) → i < length was → (at ≡ e → ⊥) → v ≡ name at → b ≡ next at → Walked next name e s was (set out i v) (i + 1) b
    walked_more v b h n x y =
        record {
          rest = (rw (ne_eqb at e n) at (here h).2) ∙ ap (trail next (length was - (i + 1)) e) (sym y);
          within = omega (arith, (here h).0);
          front = written_one v h x;
        }

    pub walked_last : (v : ℕ) → i < length was → at ≡ e → v ≡ name at → (i + 1 ≡ length ks) × (set out i v ≡ map name ks ++ drop (i + 1) was)
    walked_last v h y x =
        let z : drop (i + 1) ks ≡ [] = rw (eq-eqb at e y) at (here h).2 in
        let l : length ks ≡ i + 1 = omega (arith, (here h).0, ap length z, length-drop (i + 1) ks) in
        (sym l, written_all name ks was (set out i v) (i + 1) l (written_one v h x))

    pub walked_end : (n : ℕ) → length was ≤ i → i ≤ length was → n ≡ length was → (n ≡ length ks) × (out ≡ map name ks ++ drop n was)
    unfolding trail
    walked_end n h k x =
        let z : drop i ks ≡ [] = w.rest ∙ fuel_end (λ n. trail next n e at) (length was) i h in
        let l : length ks ≡ i = omega (arith, w.within, ap length z, length-drop i ks) in
        let y : i ≡ n = omega arith in
        (sym (l ∙ y), written_all name ks was out i l w.front ∙ ap (λ (k : ℕ). map name ks ++ drop k was) y)

map_turned : (f : ℕ → ℕ) (xs ys : List ℕ) → map f (reverse_aux xs ys) ≡ reverse_aux (map f xs) (map f ys)
map_turned f [] ys = refl
map_turned f (x ∷ xs) ys = map_turned f xs (x ∷ ys)

module _ (name : ℕ → ℕ) (ks was : List ℕ) (k : ℕ) (l : k ≡ length ks) where
  pub turned_front : (out rev : List ℕ) → out ≡ map name ks ++ drop k was → rev ≡ reverse (take k out) →
      rev ++ post_of 0 k out ≡ map name (reverse ks) ++ drop k was
  turned_front out rev e r =
      let n : length (map name ks) ≡ k = length-map ks name ∙ sym l in
      let t : take k out ≡ map name ks = ap (take k) e ∙ take_at (map name ks) (drop k was) k n in
      let d : drop k out ≡ drop k was = ap (drop k) e ∙ drop_at (map name ks) (drop k was) k n in
      ap (λ (xs : List ℕ). xs ++ drop k out) (r ∙ ap reverse t ∙ sym (map_turned name ks []))
      ∙ ap (λ (xs : List ℕ). map name (reverse ks) ++ xs) d

  module _ (rest : ℕ → List ℕ) (mid : List ℕ) (e : mid ≡ map name (reverse ks) ++ drop k was) where
    abbrev part : List ℕ
    part = take (length mid - k) (drop k mid)

    in_two : (drop k mid ≡ drop k was) × (take k mid ≡ map name (reverse ks))
    in_two =
        let n : length (map name (reverse ks)) ≡ k = length-map (reverse ks) name ∙ length-reverse ks ∙ sym l in
        (ap (drop k) e ∙ drop_at (map name (reverse ks)) (drop k was) k n, ap (take k) e ∙ take_at (map name (reverse ks)) (drop k was) k n)

    part_rest : part ≡ drop k was
    part_rest = take_all (length mid - k) (drop k mid) (omega (arith, length-drop k mid)) ∙ in_two.0

    fuel : length part ≡ length was - length ks
    fuel = ap length part_rest ∙ length-drop k was ∙ ap (λ n. length was - n) l

    pub joined_length : (j : ℕ) → j ≡ length (rest (length part)) → k + j ≡ length (reverse ks ++ rest (length was - length ks))
    joined_length j x =
        let y : j ≡ length (rest (length was - length ks)) = x ∙ ap (λ n. length (rest n)) fuel in
        omega (arith, length-append (reverse ks) (rest (length was - length ks)), length-reverse ks)

    pub joined : (last : List ℕ) (j : ℕ) → last ≡ map name (rest (length part)) ++ drop j part →
        put_mid k (length mid - k) mid last ≡ map name (reverse ks ++ rest (length was - length ks)) ++ drop (k + j) was
    joined last j x =
        let js = rest (length was - length ks) in
        let a : last ≡ map name js ++ drop (k + j) was =
        x ∙ ap (λ n. map name (rest n) ++ drop j part) fuel ∙ ap (λ (p : List ℕ). map name js ++ drop j p) part_rest
        ∙ ap (λ (p : List ℕ). map name js ++ p) (drop-drop j k was) in
        let b : drop (length mid - k) (drop k mid) ≡ [] = drop_all (length mid - k) (drop k mid) (omega (arith, length-drop k mid)) in
        ap (λ (p : List ℕ). p ++ (last ++ drop (length mid - k) (drop k mid))) in_two.1
        ∙ ap (λ (p : List ℕ). map name (reverse ks) ++ (last ++ p)) b
        ∙ ap (λ (p : List ℕ). map name (reverse ks) ++ p) (append-nil last ∙ a)
        ∙ sym (ap (λ (p : List ℕ). p ++ drop (k + j) was) (map-append name (reverse ks) js)
        ∙ append_assoc (map name (reverse ks)) (map name js) (drop (k + j) was))

pub way_few : (next : ℕ → ℕ) (n : ℕ) (l j : Link) → length (way next n l j) ≤ n
unfolding way
way_few next n l j =
    let ks = trail next n l.to j.from in
    let js = trail next (n - length ks) l.from j.to in
    omega (arith, length-append (reverse ks) js, length-reverse ks, trail_few next n l.to j.from, trail_few next (n - length ks) l.from j.to)

pub shown_is : (m : List ℕ) (l j : Link) (out : List ℕ) → CARDS ≤ length out → shown m l j out ≡ map (cell m IDS) (way (cell m VIA) CARDS l j)
unfolding shown
shown_is m l j out h = rw (le-leb CARDS (length out) h)

-- what is written to the front of n numbers, of all of them
pub fronted : (name : ℕ → ℕ) (ws : ℕ → List ℕ) (n r : ℕ) (out part : List ℕ) → n ≤ length out → length (ws n) ≤ n → r ≡ length (ws (length (take n out))) →
    part ≡ map name (ws (length (take n out))) ++ drop r (take n out) → (r ≡ length (ws n)) × (part ++ post_of 0 n out ≡ map name (ws n) ++ drop r out)
fronted name ws n r out part h f x e =
    let k : length (take n out) ≡ n = length-take-le n out h in
    let y : r ≡ length (ws n) = x ∙ ap (λ (i : ℕ). length (ws i)) k in (
      y,
      ap (λ (xs : List ℕ). xs ++ drop n out) (e ∙ ap (λ (i : ℕ). map name (ws i) ++ drop r (take n out)) k)
          ∙ append_assoc (map name (ws n)) (drop r (take n out)) (drop n out)
          ∙ ap (λ (xs : List ℕ). map name (ws n) ++ xs)
          (sym (drop-append-le r (take n out) (drop n out) (omega arith)) ∙ ap (drop r) (take-append-drop n out)),
    )

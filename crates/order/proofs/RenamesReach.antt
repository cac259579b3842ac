-- What one comes to by links, on a board with other names for its cards.
use Rattle.std.proofs.Common.{◌≡◌, ℕ, zero, suc, Bool, true, cond, ◌&&◌, eqb, List, [], ◌∷◌, ◌++◌, map, refl, ◌∙◌, inl, inr, arith}
use Rattle.std.proofs.lemmas.List.{map-append}
use Rattle.std.proofs.lemmas.Bool.{cases_Bool, and_parts, and_from}
use Rattle.order.specs.declared.board.Link.{Link}
use Rattle.order.specs.Lists.{every, has, with_all, flat}
use Rattle.order.specs.Board.{nexts, rounds}
use Rattle.order.specs.Renaming.{named}
use Rattle.order.proofs.Filters.{every_append}
use Rattle.order.proofs.RenamesLists.{eqb_named, has_map}
use Rattle.order.proofs.RenamesLinks.{Known}

module _ (f : ℕ → ℕ) (D : ℕ → Bool) (tell : (j k : ℕ) → D j ≡ true → D k ≡ true → f j ≡ f k → j ≡ k) where
  with_all_known : (js ks : List ℕ) → every D js ≡ true → every D ks ≡ true → every D (with_all js ks) ≡ true
  unfolding with_all every
  with_all_known [] ks g h = h
  with_all_known (j ∷ js) ks g h =
      let p = and_parts (D j) (every D js) g in
      let a = every_append D ks (j ∷ []) in
      with_all_known js (cond (has ks j) ks (ks ++ j ∷ [])) p.1
      (elim (cases_Bool (has ks j)) [ inl e ↦ rw e h | inr e ↦ rw e (grind arith) ])

  with_all_map : (js ks : List ℕ) → every D js ≡ true → every D ks ≡ true → with_all (map f js) (map f ks) ≡ map f (with_all js ks)
  unfolding with_all every
  with_all_map [] ks g h = refl
  with_all_map (j ∷ js) ks g h =
      let p = and_parts (D j) (every D js) g in
      let a = every_append D ks (j ∷ []) in
      let e = has_map f D tell ks j h p.0 in
      let b = map-append f ks (j ∷ []) in
      elim (cases_Bool (has ks j)) [
        | inl t ↦ let ih = with_all_map js ks p.1 h in grind arith
        | inr t ↦ let ih = with_all_map js (ks ++ j ∷ []) p.1 (grind arith) in grind arith
      ]

  nexts_known : (ls : List Link) (k : ℕ) → Known D ls → every D (nexts ls k) ≡ true
  unfolding nexts every
  nexts_known [] k h = refl
  nexts_known (l ∷ ls) k h =
      let p = and_parts (D l.from && D l.to) (every (λ l. D l.from && D l.to) ls) h in
      let q = and_parts (D l.from) (D l.to) p.0 in
      let ih = nexts_known ls k p.1 in
      grind arith

  nexts_map : (ls : List Link) (k : ℕ) → Known D ls → D k ≡ true → nexts (map (named f) ls) (f k) ≡ map f (nexts ls k)
  unfolding nexts every
  nexts_map [] k h d = refl
  nexts_map (l ∷ ls) k h d =
      let p = and_parts (D l.from && D l.to) (every (λ l. D l.from && D l.to) ls) h in
      let q = and_parts (D l.from) (D l.to) p.0 in
      let ih = nexts_map ls k p.1 d in
      let e = eqb_named f D tell l.from k q.0 d in
      elim (cases_Bool (eqb l.from k)) [ inl x ↦ grind arith | inr x ↦ grind arith ]

  module _ (ls : List Link) (h : Known D ls) where
    flat_known : (ks : List ℕ) → every D (flat (nexts ls) ks) ≡ true
    unfolding flat every
    flat_known [] = refl
    flat_known (k ∷ ks) = every_append D (nexts ls k) (flat (nexts ls) ks) ∙ and_from _ _ (nexts_known ls k h) (flat_known ks)

    flat_map : (ks : List ℕ) → every D ks ≡ true → flat (nexts (map (named f) ls)) (map f ks) ≡ map f (flat (nexts ls) ks)
    unfolding flat every
    flat_map [] g = refl
    flat_map (k ∷ ks) g =
        let p = and_parts (D k) (every D ks) g in
        rw (nexts_map ls k h p.0, flat_map ks p.1, map-append f (nexts ls k) (flat (nexts ls) ks))

    pub rounds_known : (n : ℕ) (ks : List ℕ) → every D ks ≡ true → every D (rounds ls n ks) ≡ true
    unfolding rounds
    rounds_known zero ks g = g
    rounds_known (suc n) ks g = rounds_known n (with_all (flat (nexts ls) ks) ks) (with_all_known (flat (nexts ls) ks) ks (flat_known ks) g)

    pub rounds_map : (n : ℕ) (ks : List ℕ) → every D ks ≡ true → rounds (map (named f) ls) n (map f ks) ≡ map f (rounds ls n ks)
    unfolding rounds
    rounds_map zero ks g = refl
    rounds_map (suc n) ks g =
        rw (flat_map ks g, with_all_map (flat (nexts ls) ks) ks (flat_known ks) g)
        (rounds_map n (with_all (flat (nexts ls) ks) ks) (with_all_known (flat (nexts ls) ks) ks (flat_known ks) g))

    -- of the row only its length matters
    pub reach_map : (n a b : ℕ) → D a ≡ true → D b ≡ true → has (rounds (map (named f) ls) n (f a ∷ [])) (f b) ≡ has (rounds ls n (a ∷ [])) b
    unfolding every
    reach_map n a b x y =
        let o : every D (a ∷ []) ≡ true = and_from (D a) true x refl in
        rw (rounds_map n (a ∷ []) o) (has_map f D tell (rounds ls n (a ∷ [])) b (rounds_known n (a ∷ []) o) y)

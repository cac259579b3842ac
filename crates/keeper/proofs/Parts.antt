-- A row told anew in parts, one after the other: each part is what the new row has from one place up to another.
use Rattle.std.proofs.Common.{◌≡◌, ℕ, ◌+◌, ◌-◌, ◌≤◌, true, List, [], ◌∷◌, ◌++◌, length, take, drop, sym, refl, ap, ◌∙◌, ap₂, arith, length-append, length-drop, take-append-drop}
use Rattle.std.proofs.lemmas.List.{take-take, take_at, length-take-le}
use Rattle.std.proofs.lemmas.Slice.{between_is, drop-append-drop}
use Rattle.std.proofs.lemmas.Bool.{and_from, le-leb}
use Rattle.order.specs.Lists.{every}
use Rattle.command.specs.Commands.{Told, told_row, told_rows}
use Rattle.keeper.specs.Sister.{within}
use Rattle.keeper.proofs.Unroll.{told}

-- what the new row has from the place i up to the place j
abbrev pub part : List ℕ → ℕ → ℕ → Told
part new i j = told i (take (j - i) (drop i new))

pub length_part : (new : List ℕ) (i j : ℕ) → j ≤ length new → length (part new i j).cards ≡ j - i
length_part new i j u = length-take-le (j - i) (drop i new) (omega (arith, length-drop i new))

-- the row is as the new one before the place i and from the place j on
pub record Anew (row new : List ℕ) (i j : ℕ) : Type 0 where
  pub long : length row ≡ length new
  pub front : take i row ≡ take i new
  pub rest : drop j row ≡ drop j new

front_more : (xs : List ℕ) (i k : ℕ) → i ≤ k → take i xs ++ take (k - i) (drop i xs) ≡ take k xs
front_more xs i k l = ap₂ ◌++◌ (sym (take-take i k xs l)) (between_is xs i k) ∙ take-append-drop i (take k xs)

-- once a part is told, the row is new up to where the part ends
module _ (row new : List ℕ) (i j : ℕ) (a : Anew row new i j) (high : j ≤ length new) where
  told_part : (k : ℕ) → i ≤ k → k ≤ j → told_row row (part new i k) ≡ take k new ++ drop k row
  told_part k l u =
      let M = take (k - i) (drop i new) in
      let n : i + length M ≡ k = omega (arith, length_part new i k (omega arith)) in
      ap₂ (λ (xs : List ℕ) (z : ℕ). xs ++ M ++ drop z row) a.front n ∙ ap (λ (xs : List ℕ). xs ++ drop k row) (front_more new i k l)

  pub told_further : (k : ℕ) → i ≤ k → k ≤ j → Anew (told_row row (part new i k)) new k j
  told_further k l u =
      let n : length (take k new) ≡ k = length-take-le k new (omega arith) in
      rw (told_part k l u) (record {
        long = omega (arith, length-append (take k new) (drop k row), length-drop k row, a.long);
        front = take_at (take k new) (drop k row) k n;
        rest = drop-append-drop k row (take k new) j u n ∙ a.rest;
      })

pub told_all : (row new : List ℕ) (j : ℕ) → Anew row new j j → row ≡ new
told_all row new j a = sym (take-append-drop j row) ∙ ap₂ ◌++◌ a.front a.rest ∙ take-append-drop j new

-- in one part, or in two
module _ (row new : List ℕ) (i j : ℕ) (a : Anew row new i j) (high : j ≤ length new) where
  pub told_in_one : i ≤ j → told_rows row (part new i j ∷ []) ≡ new
  unfolding told_rows
  told_in_one l = told_all _ new j (told_further row new i j a high j l (omega arith))

  pub told_in_two : (k : ℕ) → i ≤ k → k ≤ j → told_rows row (part new i k ∷ part new k j ∷ []) ≡ new
  unfolding told_rows
  told_in_two k l u = told_all _ new j (told_further _ new k j (told_further row new i j a high k l u) high j u (omega arith))

-- and no part goes further than from i to j
module _ (new : List ℕ) (i j : ℕ) (high : j ≤ length new) where
  part_within : (k₁ k₂ : ℕ) → i ≤ k₁ → k₁ ≤ k₂ → k₂ ≤ j → within i j (part new k₁ k₂) ≡ true
  part_within k₁ k₂ l m u = and_from _ _ (le-leb i k₁ l) (le-leb _ j (omega (arith, length_part new k₁ k₂ (omega arith))))

  pub one_within : i ≤ j → every (within i j) (part new i j ∷ []) ≡ true
  unfolding every
  one_within l = and_from _ _ (part_within i j (omega arith) l (omega arith)) refl

  pub two_within : (k : ℕ) → i ≤ k → k ≤ j → every (within i j) (part new i k ∷ part new k j ∷ []) ≡ true
  unfolding every
  two_within k l u = and_from _ _ (part_within i k (omega arith) l u) (and_from _ _ (part_within k j l u (omega arith)) refl)

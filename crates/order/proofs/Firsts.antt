-- The first of two cards that is met in a row stands before the other; the links that numbers spell, as pairs.
use Rattle.std.proofs.Common.{◌≡◌, ℕ, zero, suc, ◌+◌, ◌*◌, ◌/◌, ◌≤◌, Bool, false, cond, not, ◌||◌, eqb, ltb, List, [], ◌∷◌, length, slice_index, Some, None, Option, refl, arith}
use Rattle.std.proofs.lemmas.Bool.Decides.{nat_tests}
use Rattle.std.specs.List.{find, position_or_len}
use Rattle.std.specs.Simd.{first_chunks}
use Rattle.order.specs.Lists.{place}
use Rattle.order.specs.Kept.{before, links_of, broken_pair, first_broken}

-- something is met, and it isn't b
abbrev pub meets_other : Option ℕ → ℕ → Bool
meets_other None b = false
meets_other (Some x) b = not (eqb x b)

-- the first of the two decides
pub first_met : (row : List ℕ) (a b : ℕ) → before row a b ≡ meets_other (find (λ x. eqb x a || eqb x b) row) b
unfolding before place
first_met [] a b = refl
first_met (x ∷ row) a b = let ih = first_met row a b in grind (arith, nat_tests)

-- the pairs of the numbers are their links
module _ (row : List ℕ) where
  abbrev test : List ℕ → Bool
  test p = not (before row (slice_index p 0) (slice_index p 1))

  -- the first that passes, where the pairs are counted from i
  pairs_from : (k : ℕ) (ns : List ℕ) (i : ℕ) → k * 2 ≤ length ns → length ns ≤ k * 2 + 1 →
      cond (ltb (position_or_len test (first_chunks 2 k ns)) (length (first_chunks 2 k ns))) (Some (i + position_or_len test (first_chunks 2 k ns))) None
      ≡ first_broken row (links_of ns) i
  unfolding first_broken links_of
  pairs_from zero [] i l h = refl
  pairs_from zero (a ∷ []) i l h = refl
  pairs_from zero (a ∷ b ∷ ns) i l h = absurd (omega arith)
  pairs_from (suc k) [] i l h = absurd (omega arith)
  pairs_from (suc k) (a ∷ []) i l h = absurd (omega arith)
  pairs_from (suc k) (a ∷ b ∷ ns) i l h = let ih = pairs_from k ns (i + 1) (omega arith) (omega arith) in grind (arith, nat_tests)

  pub pairs_are : (ns : List ℕ) → broken_pair row (first_chunks 2 (length ns / 2) ns) ≡ first_broken row (links_of ns) 0
  pairs_are ns = let e = pairs_from (length ns / 2) ns 0 (omega arith) (omega arith) in grind arith

-- Several links, whose bytes are cut into fours all at once: they are those that are read one after the other.
use Rattle.std.proofs.Common.{◌≡◌, ℕ, zero, suc, ◌*◌, ◌<◌, ◌/◌, List, [], ◌∷◌, ◌++◌, length, take, drop, Some, None, refl, subst, arith}
use Rattle.std.proofs.lemmas.List.{take-append-drop}
use Rattle.std.specs.Simd.{first_chunks}
use Rattle.board.specs.Sayings.{links_in, links_of}

in_fours : (n : ℕ) (front back : List ℕ) → length front ≡ 4 * n → links_in n (front ++ back) ≡ Some (links_of (first_chunks 4 n front))
unfolding links_in
in_fours zero front back e = refl
in_fours (suc n) [] back e = absurd (omega arith)
in_fours (suc n) (a ∷ []) back e = absurd (omega arith)
in_fours (suc n) (a ∷ b ∷ []) back e = absurd (omega arith)
in_fours (suc n) (a ∷ b ∷ c ∷ []) back e = absurd (omega arith)
in_fours (suc n) (a ∷ b ∷ c ∷ d ∷ front) back e = let ih = in_fours n front back (omega arith) in grind arith

module _ (n : ℕ) (bs front : List ℕ) (e : front ≡ take (4 * n) bs) (l : length front ≡ 4 * n) where
  -- All are there.
  pub links_there : links_in n bs ≡ Some (links_of (first_chunks 4 (length front / 4) front))
  links_there =
      let whole : front ++ drop (4 * n) bs ≡ bs = rw e (take-append-drop (4 * n) bs) in
      let many : length front / 4 ≡ n = omega arith in
      rw many (subst (λ (cs : List ℕ). links_in n cs ≡ Some (links_of (first_chunks 4 n front))) whole (in_fours n front (drop (4 * n) bs) l))

-- The bytes end before all are there.
pub links_short : (n : ℕ) (bs : List ℕ) → length bs < 4 * n → links_in n bs ≡ None
unfolding links_in
links_short zero bs h = absurd (omega arith)
links_short (suc n) [] h = refl
links_short (suc n) (a ∷ []) h = refl
links_short (suc n) (a ∷ b ∷ []) h = refl
links_short (suc n) (a ∷ b ∷ c ∷ []) h = refl
links_short (suc n) (a ∷ b ∷ c ∷ d ∷ bs) h = let ih = links_short n bs (omega arith) in grind arith

pub ruleset reading = (links_there, links_short)

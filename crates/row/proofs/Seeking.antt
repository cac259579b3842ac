-- A card's entry is sought, in a memory whose pointers spell a chain, and in any.
use Rattle.std.proofs.Common.{◌≡◌, ℕ, zero, suc, ◌+◌, ◌-◌, ◌<◌, ◌≤◌, true, false, ◌||◌, eqb, ltb, List, [], ◌∷◌, length, Some, None, refl, ap, ◌∙◌, inl, inr, arith}
use Rattle.std.proofs.lemmas.Bool.Decides.{nat_tests}
use Rattle.std.proofs.lemmas.Bool.{cases_eq, eq-eqb, ne_eqb, eqb-false, ltb-false, or_parts, cond_both, both_ways}
use Rattle.order.specs.Lists.{any, has}
use Rattle.memory.specs.Columns.{cell}
use Rattle.order.specs.declared.board.TheConstants.{CARDS}
use Rattle.row.specs.declared.layout.TheConstants.{HEADS, IDS, CHAIN}
use Rattle.memory.specs.Options.{Within}
use Rattle.memory.proofs.Options.{given_holds}
use Rattle.row.specs.Lookup.{EntryBelow, followed, entry, sought}
use Rattle.row.specs.Meaning.{Spells}
use Rattle.order.proofs.Members.{has_head, has_tail, has_on}
use Rattle.row.proofs.Chaining.{holder}

module _ (m : List ℕ) where
  pub followed_none : (p : ℕ) → cell m CHAIN p ≡ 0 → followed m p ≡ None
  unfolding followed
  followed_none p e = grind (arith, nat_tests)

  pub followed_some : (p s : ℕ) → cell m CHAIN p ≡ suc s → s < CARDS → followed m p ≡ Some s
  unfolding followed
  followed_some p s e l = let t : cell m CHAIN p - 1 ≡ s = omega arith in grind (arith, nat_tests)

  followed_low : (p : ℕ) → Within CARDS (followed m p)
  unfolding followed
  followed_low p =
      cond_both (eqb (cell m CHAIN p) 0 || ltb CARDS (cell m CHAIN p)) None (Some (cell m CHAIN p - 1)) (Within CARDS) (λ _. tt) (λ t.
      let q = or_parts (eqb (cell m CHAIN p) 0) (ltb CARDS (cell m CHAIN p)) t in
      omega (arith, ltb-false _ _ q.1, eqb-false _ _ q.0))

  module _ (k : ℕ) where
    pub sought_none : (f : ℕ) (xs : List ℕ) (p : ℕ) → Spells (cell m CHAIN) p xs → ((t : ℕ) → has xs t ≡ true → t < CARDS) →
        ((t : ℕ) → has xs t ≡ true → cell m IDS t ≡ k → ⊥) → sought f m p k ≡ None
    unfolding sought
    sought_none zero xs p w b n = refl
    sought_none (suc f) [] p w b n = rw (followed_none p w)
    sought_none (suc f) (x ∷ xs) p w b n =
        rw (followed_some p x w.0 (b x (has_head x xs)), ne_eqb (cell m IDS x) k (n x (has_head x xs)))
        (sought_none f xs (HEADS + x) w.1 (λ t h. b t (has_tail x xs t h)) (λ t h. n t (has_tail x xs t h)))

    pub sought_some : (f : ℕ) (xs : List ℕ) (p s : ℕ) → Spells (cell m CHAIN) p xs → ((t : ℕ) → has xs t ≡ true → t < CARDS) → length xs ≤ f →
        has xs s ≡ true → cell m IDS s ≡ k → ((t : ℕ) → has xs t ≡ true → cell m IDS t ≡ k → t ≡ s) →
        sought f m p k ≡ Some (entry (holder p xs s) s)
    unfolding any sought
    sought_some f [] p s w b l h i u = absurd (both_ways false refl h)
    sought_some zero (x ∷ xs) p s w b l h i u = absurd (omega arith)
    sought_some (suc f) (x ∷ xs) p s w b l h i u = rw (followed_some p x w.0 (b x (has_head x xs))) (elim (cases_eq x s) [
      | inl e ↦ rw (eq-eqb x s e, eq-eqb (cell m IDS x) k (ap (cell m IDS) e ∙ i), e)
      | inr e ↦
          rw (ne_eqb x s e, ne_eqb (cell m IDS x) k (λ j. e (u x (has_head x xs) j)))
          (sought_some f xs (HEADS + x) s w.1 (λ t j. b t (has_tail x xs t j)) (omega arith) (has_on x s xs e h) i (λ t j. u t (has_tail x xs t j)))
    ])

-- what is sought is below the number of slots
pub sought_low : (f : ℕ) (m : List ℕ) (p k : ℕ) → EntryBelow (sought f m p k)
unfolding sought
sought_low zero m p k = tt
sought_low (suc f) m p k =
    given_holds (Within CARDS) EntryBelow (followed m p) None _ (followed_low m p) tt
    (λ s b. cond_both (eqb (cell m IDS s) k) _ _ EntryBelow (λ _. b) (λ _. sought_low f m (HEADS + s) k))

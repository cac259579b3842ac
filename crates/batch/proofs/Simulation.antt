-- The promise, from the memory's meaning that each saying keeps; the memory's length and its small numbers are had for nothing.
use Rattle.std.proofs.Common.{◌≡◌, ℕ, zero, suc, ◌≤◌, true, eqb, ltb, List, [], ◌∷◌, length, Some, None, refl, ◌∙◌, arith}
use Rattle.std.proofs.lemmas.Bool.{and_parts, eqb-true}
use Rattle.order.specs.declared.board.TheConstants.{LINKS}
use Rattle.order.specs.declared.board.Refusal.{Refusal}
use Rattle.order.specs.Lists.{every}
use Rattle.order.specs.Board.{Board}
use Rattle.command.specs.Commands.{Told}
use Rattle.order.proofs.Filters.{every_more}
use Rattle.keeper.specs.Promise.{empty, all_small}
use Rattle.keeper.specs.Sized.{KeepsSize}
use Rattle.keeper.specs.Meaning.{Means}
use Rattle.keeper.proofs.Ends.{act_size}
use Rattle.batch.specs.Engine.{Saying, Heard, said, next, Engine, runs, run_of}
use Rattle.batch.specs.Promise.{small_saying, Steady, refused_for, after, Done, Refused, RightIn, WholeIn}

-- the memory means the board, which has no more links than it may
pub record Keeps (m : List ℕ) (r : Board) : Type 0 where
  pub means : Means m r
  pub few : length r.links ≤ LINKS

-- one saying, from one memory and board on, is done or refused rightly, and keeps that
abbrev pub StepKept : Engine → ℕ → List ℕ → Board → Saying → Type 0
StepKept e n m r s =
    (refused_for r s ≡ None → Done r s (run_of n e m s) × Keeps (run_of n e m s).memory (after r s (run_of n e m s).told))
    × ((why : Refusal) → refused_for r s ≡ Some why → Refused r s why (run_of n e m s) × Keeps (run_of n e m s).memory r)

abbrev pub Kept : Engine → ℕ → Type 0
Kept e n =
    (m : List ℕ) (r : Board) (s : Saying) → length m ≡ length e.start → all_small m ≡ true → Keeps m r → small_saying s ≡ true → StepKept e n m r s

start_small : (e : Engine) → Steady e → all_small e.start ≡ true
unfolding Steady all_small
start_small e s = every_more (λ m. eqb m 0) (λ m. ltb m 18446744073709551616) (λ m h. rw (eqb-true m 0 h)) e.start s.1

module _ (e : Engine) (st : Steady e) where
  size_from : (m₀ : List ℕ) (n : ℕ) (m : List ℕ) (h : Heard) (ts : List Told) (ss : List (List ℕ)) → KeepsSize m₀ m →
      KeepsSize m₀ (runs n e m h ts ss).memory
  unfolding runs Steady
  size_from m₀ zero m h ts ss b = b
  size_from m₀ (suc n) m h ts ss b =
      let d = st.2 m h in
      act_size m₀ (λ m₁ ts₁ ss₁. runs n e m₁ next ts₁ ss₁) (λ m₁ ts₁ ss₁ b₁. size_from m₀ n m₁ next ts₁ ss₁ b₁) ts ss
      (e.step m h).memory (d.0 ∙ b.0, λ k. d.1 (b.1 k)) (e.step m h).action

  module _ (n : ℕ) (k : Kept e n) where
    right_in : (ss : List Saying) (m : List ℕ) (r : Board) → length m ≡ length e.start → all_small m ≡ true → Keeps m r →
        every small_saying ss ≡ true → RightIn n e m r ss
    unfolding RightIn every
    right_in [] m r l a K h = refl
    right_in (s ∷ ss) m r l a K h =
        let p = and_parts (small_saying s) (every small_saying ss) h in
        let q = k m r s l a K p.0 in
        let b = size_from m n m (said s) [] [] (refl, λ x. x) in (
          (λ z. let d = q.0 z in (d.0, right_in ss _ _ (b.0 ∙ l) (b.1 a) d.1 p.1)),
          (λ w z. let d = q.1 w z in (d.0, right_in ss _ r (b.0 ∙ l) (b.1 a) d.1 p.1)),
        )

    pub whole_in : Means e.start empty → WholeIn n e
    unfolding WholeIn
    whole_in i = (st, λ ss h. right_in ss e.start empty refl (start_small e st) (record { means = i; few = omega arith }) h)

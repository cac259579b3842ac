-- What is left of a row when one card after another comes, and which of it is the first that waits for none.
use Rattle.std.proofs.Common.{◌≡◌, ℕ, zero, suc, ◌+◌, ◌<◌, ◌≤◌, Bool, true, not, ◌&&◌, eqb, List, [], ◌∷◌, map, Some, None, sym, refl, ap, ◌∙◌, inl, inr, arith}
use Rattle.std.specs.List.{range_with_len}
use Rattle.std.proofs.lemmas.Bool.{cases_Bool, and_parts}
use Rattle.order.specs.declared.board.Link.{Link}
use Rattle.order.specs.Lists.{filter, has}
use Rattle.memory.specs.Options.{given}
use Rattle.order.proofs.Filters.{has_filter}
use Rattle.search.proofs.Listed.{head_of}
use Rattle.search.proofs.Mapped.{filter_same, filter_both}
use Rattle.batch.specs.Rule.{waits, first_free, without}

-- the cards that are left, as a part of the row
abbrev pub Part : List ℕ → List ℕ → Type 0
Part row left = left ≡ filter (has left) row

filter_all : (xs : List ℕ) → filter (λ k. true) xs ≡ xs
unfolding filter
filter_all [] = refl
filter_all (x ∷ xs) = ap (λ (ys : List ℕ). x ∷ ys) (filter_all xs)

pub part_whole : (row : List ℕ) → Part row row
part_whole row = sym (filter_same (has row) (λ k. true) row (λ k h. h) ∙ filter_all row)

pub part_without : (row left : List ℕ) (k : ℕ) → Part row left → Part row (without left k)
part_without row left k e =
    ap (λ (xs : List ℕ). without xs k) e ∙ filter_both (has left) (λ i. not (eqb i k)) row
    ∙ filter_same _ (has (without left k)) row (λ j _. let f = has_filter (λ i. not (eqb i k)) left j in grind arith)

pub part_has : (row left : List ℕ) (k : ℕ) → Part row left → has left k ≡ true → has row k ≡ true
part_has row left k e h =
    (and_parts (has left k) (has row k) (sym (has_filter (has left) row k) ∙ ap (λ (xs : List ℕ). has xs k) (sym e) ∙ h)).1

-- the first that doesn't wait, by places
pub first_by_place : (ls : List Link) (left : List ℕ) (slot : ℕ → ℕ) (M : ℕ → Bool) (a n : ℕ) →
    ((p : ℕ) → a ≤ p → p < a + n → M p ≡ (has left (slot p) && not (waits ls left (slot p)))) →
    first_free ls left (filter (has left) (map slot (range_with_len a n))) ≡ given (head_of (filter M (range_with_len a n))) None (λ p. Some (slot p))
unfolding first_free filter
first_by_place ls left slot M a zero h = refl
first_by_place ls left slot M a (suc n) h =
    let ih = first_by_place ls left slot M (a + 1) n (λ p l u. h p (omega arith) (omega arith)) in
    let e = h a (omega arith) (omega arith) in
    elim (cases_Bool (has left (slot a))) [
      | inl i ↦ elim (cases_Bool (waits ls left (slot a))) [
        | inl j ↦ rw (e, i, j) ih
        | inr j ↦ rw (e, i, j)
      ]
      | inr i ↦ rw (e, i) ih
    ]

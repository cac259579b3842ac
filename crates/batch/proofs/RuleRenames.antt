-- A row made anew by the rule is the same row, if its cards have other names.
use Rattle.std.proofs.Common.{◌≡◌, ℕ, zero, suc, Bool, true, ◌&&◌, eqb, List, [], ◌∷◌, map, length, Some, None, refl, ap, ◌∙◌, inl, inr}
use lib.ListN.{length-map}
use Rattle.std.proofs.lemmas.Bool.{cases_Bool, and_parts}
use Rattle.order.specs.declared.board.Link.{Link}
use Rattle.order.specs.Lists.{every, has}
use Rattle.memory.specs.Options.{given}
use Rattle.order.specs.Renaming.{named, Naming}
use Rattle.order.proofs.Filters.{every_has, every_filter_more}
use Rattle.order.proofs.RenamesTests.{any_map}
use Rattle.order.proofs.RenamesLists.{eqb_named, has_map, without_map}
use Rattle.order.proofs.RenamesLinks.{Known}
use Rattle.batch.specs.Rule.{waits, first_free, without, by_rule, anew}
use Rattle.batch.proofs.RuleRows.{first_next, by_rule_holds}

module _ (f : ℕ → ℕ) (D : ℕ → Bool) (tell : (j k : ℕ) → D j ≡ true → D k ≡ true → f j ≡ f k → j ≡ k) (ls : List Link) (known : Known D ls) where
  waits_named : (left : List ℕ) (k : ℕ) → every D left ≡ true → D k ≡ true → waits (map (named f) ls) (map f left) (f k) ≡ waits ls left k
  waits_named left k h d =
      any_map (named f) (λ l. D l.from && D l.to) (λ l. eqb l.to k && has left l.from) (λ l. eqb l.to (f k) && has (map f left) l.from)
      (λ l e. let p = and_parts (D l.from) (D l.to) e in rw (eqb_named f D tell l.to k p.1 d, has_map f D tell left l.from h p.0)) ls known

  first_free_named : (left ks : List ℕ) → every D left ≡ true → every D ks ≡ true →
      first_free (map (named f) ls) (map f left) (map f ks) ≡ given (first_free ls left ks) None (λ k. Some (f k))
  unfolding first_free every
  first_free_named left [] h g = refl
  first_free_named left (k ∷ ks) h g =
      let p = and_parts (D k) (every D ks) g in
      rw (waits_named left k h p.0, first_free_named left ks h p.1)
      (elim (cases_Bool (waits ls left k)) [ inl w ↦ rw w | inr w ↦ rw w ])

  by_rule_named : (n : ℕ) (left : List ℕ) → every D left ≡ true → by_rule n (map (named f) ls) (map f left) ≡ map f (by_rule n ls left)
  unfolding by_rule
  by_rule_named zero left h = refl
  by_rule_named (suc n) left h =
      let e = first_free_named left left h h in
      by_rule_holds ls n left (λ (xs : List ℕ). by_rule (suc n) (map (named f) ls) (map f left) ≡ map f xs) (λ o. rw (e, o) refl) (λ k o.
      let d = every_has D left k h (first_next ls left left k o).there in
      rw (e, o) (ap (λ (zs : List ℕ). f k ∷ zs) (rw (← without_map f D tell k left d h) (by_rule_named n (without left k) (every_filter_more D _ D (λ _ i _. i) left h)))))

pub anew_named : (f : ℕ → ℕ) (D : ℕ → Bool) (ls : List Link) (row : List ℕ) → Naming f D (record { row = row; links = ls }) →
    anew (map (named f) ls) (map f row) ≡ map f (anew ls row)
anew_named f D ls row n =
    ap (λ (k : ℕ). by_rule k (map (named f) ls) (map f row)) (length-map row f) ∙ by_rule_named f D n.tell ls n.ends (length row) row n.cards

-- The stack of free slots, over any columns: what it says stays, one is taken from it, or the first that was never in use, one comes to it.
use Rattle.std.proofs.Common.{◌≡◌, ℕ, suc, ◌+◌, ◌-◌, ◌<◌, ◌≤◌, min, Bool, true, false, cond, not, ◌&&◌, ◌||◌, eqb, List, [], ◌∷◌, length, sym, refl, ap, ◌∙◌, inl, inr, arith}
use Rattle.std.proofs.lemmas.Bool.{cases_eq, cases_Bool, eq-eqb, ne_eqb, both_ways}
use Rattle.order.specs.declared.board.TheConstants.{CARDS}
use Rattle.order.specs.Lists.{any, has, distinct}
use Rattle.row.specs.Meaning.{Stacked, Freed}
use Rattle.order.proofs.Members.{has_head, has_tail, not_again, distinct_tail, has_at}

stacked_same : (seat seat' : ℕ → ℕ) (xs : List ℕ) (t : ℕ) → ((s : ℕ) → has xs s ≡ true → seat' s ≡ seat s) → Stacked seat t xs → Stacked seat' t xs
stacked_same seat seat' [] t h w = w
stacked_same seat seat' (x ∷ xs) t h w = (w.0, rw (h x (has_head x xs)) (stacked_same seat seat' xs (seat x) (λ s i. h s (has_tail x xs s i)) w.1))

-- what isn't in use keeps its cell
pub freed_same : {n f top : ℕ} {seat seat' : ℕ → ℕ} {live : ℕ → Bool} → ((s : ℕ) → live s ≡ false → seat' s ≡ seat s) →
    Freed n f top seat live → Freed n f top seat' live
freed_same {n} {f} {top} {seat} {seat'} {live} e g = record {
  stack = g.stack;
  stacked = stacked_same seat seat' g.stack top (λ s h. e s (g.unused s h).1) g.stacked;
  once = g.once;
  unused = g.unused;
  early = g.early;
  all = g.all;
  few = g.few;
}

-- a slot comes to the stack
module _ {n f top k : ℕ} {seat seat' : ℕ → ℕ} {live live' : ℕ → Bool} (g : Freed n f top seat live) (u : live k ≡ true) (pos : 0 < n)
    (here : seat' k ≡ top) (other : (s : ℕ) → (s ≡ k → ⊥) → seat' s ≡ seat s) (l : (s : ℕ) → live' s ≡ (live s && not (eqb s k))) where
  apart : (s : ℕ) → has g.stack s ≡ true → s ≡ k → ⊥
  apart s h e = both_ways (live s) (g.unused s h).1 (ap live e ∙ u)

  pub freed_push : Freed (n - 1) f (suc k) seat' live'
  unfolding any distinct
  freed_push = record {
    stack = k ∷ g.stack;
    stacked = (refl, rw here (stacked_same seat seat' g.stack top (λ s h. other s (apart s h)) g.stacked));
    once = elim (cases_Bool (has g.stack k)) [ inl y ↦ absurd (apart k y refl) | inr y ↦ rw y g.once ];
    unused = λ s h. elim (cases_eq s k) [
      | inl e ↦ (omega (arith, g.early k u), l s ∙ (let i = eq-eqb s k e in grind arith))
      | inr ne ↦ let i = ne_eqb s k ne in let w = g.unused s (grind arith) in (w.0, l s ∙ (let z = w.1 in grind arith))
    ];
    early = λ s y. g.early s (let i = l s in grind arith);
    all = let a = g.all in omega arith;
    few = g.few;
  }

-- the slot s comes next
abbrev pub next_slot : ℕ → ℕ → ℕ
next_slot f top = min (cond (eqb top 0) f (top - 1)) (CARDS - 1)

module _ {n f top s : ℕ} {seat : ℕ → ℕ} {live : ℕ → Bool} (g : Freed n f top seat live) (room : n < CARDS) (is : s ≡ next_slot f top) where
  first : top ≡ 0 → n ≡ f → s ≡ f
  first z e = is ∙ rw (eq-eqb top 0 z) (omega arith)

  again : (x : ℕ) → top ≡ suc x → x < f → s ≡ x
  again x e l = is ∙ rw (ne_eqb top 0 (λ z. omega arith)) (let a = g.few in omega arith)

  pub next_free : live s ≡ false
  next_free = go g.stack g.stacked g.all g.unused
    where
      go : (xs : List ℕ) → Stacked seat top xs → n + length xs ≡ f → ((j : ℕ) → has xs j ≡ true → (j < f) × (live j ≡ false)) → live s ≡ false
      go [] w a u = let e = first w (omega arith) in elim (cases_Bool (live s)) [ inl y ↦ let b = g.early s y in absurd (omega arith) | inr y ↦ y ]
      go (x ∷ xs) w a u = let h = u x (has_head x xs) in ap live (again x w.0 h.0) ∙ h.1

  -- it is in use from now on
  pub freed_pop : {f' top' : ℕ} {seat' : ℕ → ℕ} {live' : ℕ → Bool} → f' ≡ cond (eqb top 0) (s + 1) f → top' ≡ cond (eqb top 0) top (seat s) →
      ((j : ℕ) → (j ≡ s → ⊥) → seat' j ≡ seat j) → ((j : ℕ) → live' j ≡ (eqb j s || live j)) → Freed (n + 1) f' top' seat' live'
  unfolding any distinct
  freed_pop {f'} {top'} {seat'} {live'} ef et other l = go g.stack g.stacked g.all g.once g.unused
    where
      left : (xs : List ℕ) → Stacked seat top' xs → distinct xs ≡ true → ((j : ℕ) → has xs j ≡ true → (j < f) × (live j ≡ false) × (j ≡ s → ⊥)) →
          s < f' → f ≤ f' → n + 1 + length xs ≡ f' → f' ≤ CARDS → Freed (n + 1) f' top' seat' live'
      left xs w o u a b c d = record {
        stack = xs;
        stacked = stacked_same seat seat' xs top' (λ j h. other j (u j h).2) w;
        once = o;
        unused = λ j h. let v = u j h in (omega (arith, v.0), l j ∙ rw (ne_eqb j s v.2, v.1));
        early = λ j y. elim (cases_eq j s) [ inl e ↦ omega arith | inr ne ↦ let i = g.early j (sym (l j ∙ rw (ne_eqb j s ne)) ∙ y) in omega arith ];
        all = c;
        few = d;
      }

      go : (xs : List ℕ) → Stacked seat top xs → n + length xs ≡ f → distinct xs ≡ true → ((j : ℕ) → has xs j ≡ true → (j < f) × (live j ≡ false)) →
          Freed (n + 1) f' top' seat' live'
      go [] w a o u =
          let i = eq-eqb top 0 w in
          let e = first w (omega arith) in
          let ff : f' ≡ s + 1 = ef ∙ rw i refl in
          left [] (et ∙ rw i w) refl (λ j h. absurd (both_ways false refl h)) (omega arith) (omega arith) (omega arith) (omega arith)
      go (x ∷ xs) w a o u =
          let h = u x (has_head x xs) in
          let e = again x w.0 h.0 in
          let i = ne_eqb top 0 (λ z. omega (arith, w.0)) in
          let ff : f' ≡ f = ef ∙ rw i refl in
          left xs (rw (et, i, e) w.1) (distinct_tail x xs o)
          (λ j k. let v = u j (has_tail x xs j k) in (v.0, v.1, λ z. both_ways (has xs x) (not_again x xs o) (has_at xs j x (z ∙ e) k)))
          (omega (arith, h.0)) (omega arith) (omega arith) (let b = g.few in omega arith)

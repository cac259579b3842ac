-- A search goes through the chain of one slot: it comes to all that the slot is linked to, or it meets the other search.
use Rattle.std.proofs.Common.{◌≡◌, ℕ, zero, suc, ◌+◌, ◌<◌, ◌≤◌, Bool, true, false, cond, eqb, List, [], ◌∷◌, length, Some, None, Continue, Break, ControlFlow, sym, refl, ap, ◌∙◌, inl, inr, ⊎_elim, arith}
use Rattle.std.proofs.lemmas.Bool.Decides.{nat_tests}
use Rattle.std.proofs.lemmas.Bool.{cases_Bool, both_ways, and_parts, or_cases, or_right, eqb-true}
use Rattle.search.proofs.Common.{any, has, ◌⟶◌, cell, clear, marked, SEATS, used, Pointer, Side, Fore, Hind, Part, searched, table_of, marks_of, other}
use Rattle.search.proofs.Common.{sees, entered, turn, Spreading, spreading, part_of, slot_board, part}
use Rattle.chains.specs.declared.chain_table.ChainTable.{ChainTable}
use Rattle.chains.specs.Packing.{decoded}
use Rattle.chains.specs.Tables.{node, at}
use Rattle.chains.specs.Walks.{met}
use Rattle.chains.proofs.Walking.{Leads, met_none, met_some}
use Rattle.search.proofs.Between.{arc, Setting, Sound, Grown, grown_on}
use Rattle.search.proofs.Reaching.{labels}
use Rattle.search.proofs.Entering.{enters, entered_seen, seen_is}

table_clear : (d : Side) → clear searched (table_of d).cells ≡ true
table_clear Fore = refl
table_clear Hind = refl

module _ (m : List ℕ) (a b : ℕ) (S : Setting m a b) (d : Side) (x : ℕ) (ux : used m x ≡ true) where
  abbrev T : ChainTable
  T = table_of d

  abbrev w : Part
  w = part_of m (a ⟶ b)

  abbrev mine : List ℕ → ℕ → Bool
  mine n q = marked n (marks_of d) q

  -- the search has come to all that these lead to, as far as it lies in the part
  abbrev pub Covered : List Pointer → List ℕ → Type 0
  Covered xs n = (t : ℕ) → has (labels xs) t ≡ true → part m a b (cell m SEATS t) ≡ true → mine n (cell m SEATS t) ≡ true

  -- by what is told, with so much fuel at first
  abbrev pub Ends : List Pointer → List ℕ → ℕ → ControlFlow ℕ ℕ → Type 0
  Ends xs n f (Continue k) = Covered xs n × (f ≤ k + suc (length xs))
  Ends xs n f (Break t) = (arc (slot_board m) d x t ≡ true) × (marked n (marks_of (other d)) (cell m SEATS t) ≡ true)

  pub record Spreaded (n : List ℕ) (f : ℕ) (xs : List Pointer) (y : Spreading) : Type 0 where
    pub sound : Sound m a b y.memory
    pub grown : Grown d (cell m SEATS x) n y.memory
    pub told : Ends xs y.memory f y.spread

  grown_not : (n : List ℕ) → Grown d (cell m SEATS x) n n
  grown_not n = record { stays = λ q k. k; same_other = λ q. refl; beyond = λ q k. inl k }

  ends_more : (y : Pointer) (ys : List Pointer) (n : List ℕ) (f : ℕ) (o : ControlFlow ℕ ℕ) → (Covered ys n → Covered (y ∷ ys) n) → Ends ys n f o →
      Ends (y ∷ ys) n (suc f) o
  ends_more y ys n f (Continue k) c h = (c h.0, omega (arith, h.1))
  ends_more y ys n f (Break t) c h = h

  cov_more : (y : Pointer) (ys : List Pointer) (n : List ℕ) → (part m a b (cell m SEATS y.label) ≡ true → mine n (cell m SEATS y.label) ≡ true) →
      Covered ys n → Covered (y ∷ ys) n
  unfolding any
  cov_more y ys n here c t h p = ⊎_elim (λ e. let z = eqb-true t y.label e in rw z (here (rw z at p))) (λ e. c t e p) (or_cases (eqb t y.label) _ h)

  -- the table is as it was
  met_same : (n : List ℕ) → Sound m a b n → (p : ℕ) → met T n p ≡ met T m p
  met_same n s p =
      ap (λ (v : ℕ). cond (eqb (decoded v).next.held 0) None (Some (decoded v).next)) (s.frame.others T.cells p (table_clear d))

  pub spreads : (xs : List Pointer) (f : ℕ) (n : List ℕ) (p : ℕ) → Sound m a b n → mine n (cell m SEATS x) ≡ true → Leads T (at T m) p xs →
      ((t : ℕ) → has (labels xs) t ≡ true → arc (slot_board m) d x t ≡ true) → length xs < f → Spreaded n f xs (spreading f n d w x p)
  unfolding spreading turn any
  spreads xs zero n p s h c g l = absurd (omega arith)
  spreads [] (suc f) n p s h c g l =
      rw (met_same n s p ∙ met_none T m p c) (record { sound = s; grown = grown_not n; told = (λ t z. absurd (both_ways false refl z), omega arith) })
  spreads (y ∷ ys) (suc f) n p s h c g l =
      let e = met_same n s p ∙ met_some T m p y c.0 c.1 in
      let j = g y.label (grind (arith, nat_tests)) in
      elim (cases_Bool (sees n d w y.label)) [
        | inl v ↦
            let q = and_parts (part m a b (cell m SEATS y.label)) _ (sym (seen_is m a b S n s d x y.label ux h j) ∙ v) in
            rw (e, v, entered_seen m a b S n s d x y.label ux h j v) (record { sound = s; grown = grown_not n; told = (j, q.1) })
        | inr v ↦
            let r = enters m a b S n s d x y.label ux h j v in
            let n' = entered n d w x y.label in
            let k = spreads ys f n' (node T y.held) r.sound (r.grown.stays (cell m SEATS x) h) c.2 (λ t z. g t (or_right (eqb t y.label) _ z)) (omega arith) in
            rw (e, v) (record {
              sound = k.sound;
              grown = grown_on d (cell m SEATS x) n n' _ r.grown k.grown;
              told = ends_more y ys _ f _ (cov_more y ys _ (λ z. k.grown.stays (cell m SEATS y.label) (r.here z))) k.told;
            })
      ]

-- An entry is taken out of the chain that it is in: what has to be so of the cells, and what becomes of the chains.
use Rattle.std.proofs.Common.{◌≡◌, ℕ, ◌+◌, ◌<◌, true, false, eqb, List, [], ◌∷◌, refl, sym, ap, subst, ◌∙◌, ◌⊎◌, inl, inr, arith}
use Rattle.std.proofs.lemmas.Bool.{cases_eq, eq-eqb}
use Rattle.std.proofs.lemmas.Bool.Decides.{nat_tests}
use Rattle.chains.specs.declared.cells.Pointer.{Pointer}
use Rattle.chains.specs.declared.cells.Cell.{Cell}
use Rattle.chains.specs.declared.chain_table.ChainTable.{ChainTable}
use Rattle.chains.specs.Tables.{node}
use Rattle.chains.specs.Chains.{InRange, Spells, has, out_of}
use Rattle.chains.proofs.Nodes.{node_apart}

-- the cells f tell where the entry of x stands
pub record Stands (F : ChainTable) (f : ℕ → Cell) (x : Pointer) : Type 0 where
  pub range : InRange F x
  pub holder : (f (f (node F x.held)).back).next ≡ x
  pub behind : (y : Pointer) → InRange F y → (f (node F x.held)).next.held ≡ y.held → (f (node F y.held)).back ≡ node F x.held
  pub near : F.heads + (f (node F x.held)).next.held < F.cells.size

-- the cells f', where the entry of x is out
pub record Unhooks (F : ChainTable) (f f' : ℕ → Cell) (x : Pointer) : Type 0 where
  pub joined : (f' (f (node F x.held)).back).next ≡ (f (node F x.held)).next
  pub nexts : (p : ℕ) → (p ≡ (f (node F x.held)).back → ⊥) → (f' p).next ≡ (f p).next
  pub backs : (y : Pointer) → InRange F y → ((f (node F x.held)).next.held ≡ y.held → ⊥) → (f' (node F y.held)).back ≡ (f (node F y.held)).back
  pub after : (y : Pointer) → InRange F y → (f (node F x.held)).next.held ≡ y.held → (f' (node F y.held)).back ≡ (f (node F x.held)).back

module _ (F : ChainTable) (f : ℕ → Cell) where
  -- what stands first of a chain says which cell holds it
  pub behind_is : (xs : List Pointer) (p : ℕ) → Spells F f p xs → (y : Pointer) → InRange F y → (f p).next.held ≡ y.held → (f (node F y.held)).back ≡ p
  behind_is [] p s y r e = absurd (omega (arith, r.entry))
  behind_is (z ∷ zs) p s y r e = let q : z.held ≡ y.held = sym (ap (λ (o : Pointer). o.held) s.0) ∙ e in subst (λ (h : ℕ). (f (node F h)).back ≡ p) q s.2

  pub near_is : F.heads < F.cells.size → (xs : List Pointer) (p : ℕ) → Spells F f p xs → F.heads + (f p).next.held < F.cells.size
  near_is b [] p s = rw s (omega arith)
  near_is b (z ∷ zs) p s = rw s.0 s.1.inside

  pub stands : F.heads < F.cells.size → (xs : List Pointer) (p h : ℕ) → Spells F f p xs → has h xs ≡ true → (x : Pointer) × (x.held ≡ h) × Stands F f x
  stands b [] p h s e = cc
  stands b (y ∷ ys) p h s e = elim (cases_eq y.held h) [
    | inl t ↦ (y, t, record { range = s.1; holder = rw s.2 s.0; behind = behind_is ys (node F y.held) s.3; near = near_is b ys (node F y.held) s.3 })
    | inr t ↦ stands b ys (node F y.held) h s.3 (grind (arith, nat_tests))
  ]

module _ (F : ChainTable) (f f' : ℕ → Cell) (x : Pointer) (a : Stands F f x) (u : Unhooks F f f' x) where
  abbrev own : ℕ
  own = node F x.held

  abbrev holder : ℕ
  holder = (f own).back

  -- q is where p went: behind the entry that is out, the cell that held it
  abbrev Went : ℕ → ℕ → Type 0
  Went p q = ((p ≡ q) × (p ≡ own → ⊥)) ⊎ ((p ≡ own) × (q ≡ holder) × (q ≡ own → ⊥))

  kept : (y : Pointer) (ys : List Pointer) (p q : ℕ) → (y.held ≡ x.held → ⊥) → Spells F f p (y ∷ ys) → Went p q
      → ((f' q).next ≡ y) × ((f' (node F y.held)).back ≡ q)
  kept y ys p q n s w = let i = u.nexts p in let j = u.backs y s.1 in let k = u.after y s.1 in let v = a.behind y s.1 in grind (arith, nat_tests)

  pub unhooks : (xs : List Pointer) (p q : ℕ) → Spells F f p xs → Went p q → Spells F f' q (out_of x.held xs)
  unhooks [] p q s w = let n = u.nexts p in grind (arith, nat_tests)
  unhooks (y ∷ ys) p q s w = elim (cases_eq y.held x.held) [
    | inl e ↦
        let o : node F y.held ≡ own = ap (node F) e in
        rw (e, eq-eqb x.held x.held refl) (unhooks ys (node F y.held) q s.3 (grind (arith, nat_tests)))
    | inr n ↦
        let k = kept y ys p q n s w in let t : eqb y.held x.held ≡ false = grind (arith, nat_tests) in
        rw t (k.0, s.1, k.1, unhooks ys (node F y.held) (node F y.held) s.3 (inl (refl, node_apart F y.held x.held s.1.word a.range.word n)))
  ]

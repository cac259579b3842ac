-- An entry is put in front of the chain of a key: what has to be so of the cells, and what becomes of the chains.
use Rattle.std.proofs.Common.{◌≡◌, ℕ, ◌<◌, false, List, [], ◌∷◌, sym, ap, ◌∙◌, arith}
use Rattle.std.proofs.lemmas.Bool.Decides.{nat_tests}
use Rattle.chains.specs.declared.cells.Pointer.{Pointer}
use Rattle.chains.specs.declared.cells.Cell.{Cell}
use Rattle.chains.specs.declared.chain_table.ChainTable.{ChainTable}
use Rattle.chains.specs.Tables.{node}
use Rattle.chains.specs.Chains.{InRange, Spells, has}
use Rattle.chains.proofs.Nodes.{node_apart, node_above}

-- the cells f', where the entry of x is in front of the chain of k, and was in no chain by the cells f
pub record Pushes (F : ChainTable) (f f' : ℕ → Cell) (k : ℕ) (x : Pointer) : Type 0 where
  pub front : (f' k).next ≡ x
  pub own_next : (f' (node F x.held)).next ≡ (f k).next
  pub own_back : (f' (node F x.held)).back ≡ k
  pub nexts : (p : ℕ) → (p ≡ k → ⊥) → (p ≡ node F x.held → ⊥) → (f' p).next ≡ (f p).next
  pub backs : (y : Pointer) → InRange F y → (y.held ≡ x.held → ⊥) → ((f k).next.held ≡ y.held → ⊥) → (f' (node F y.held)).back ≡ (f (node F y.held)).back
  pub after : (y : Pointer) → InRange F y → (y.held ≡ x.held → ⊥) → (f k).next.held ≡ y.held → (f' (node F y.held)).back ≡ node F x.held

module _ (F : ChainTable) (f f' : ℕ → Cell) (k : ℕ) (x : Pointer) (b : k < F.heads) (r : InRange F x) (u : Pushes F f f' k x)
    (behind : (y : Pointer) → InRange F y → (f k).next.held ≡ y.held → (f (node F y.held)).back ≡ k) where
  -- the chains behind places that are neither the head nor the new entry's cell
  pub stays : (xs : List Pointer) (p : ℕ) → Spells F f p xs → has x.held xs ≡ false → (p ≡ k → ⊥) → (p ≡ node F x.held → ⊥) → Spells F f' p xs
  stays [] p s h n o = ap (λ (i : Pointer). i.held) (u.nexts p n o) ∙ s
  stays (y ∷ ys) p s h n o =
      let d : y.held ≡ x.held → ⊥ = λ (z : y.held ≡ x.held). grind (arith, nat_tests) in
      let v = u.backs y s.1 d in let w = behind y s.1 in
      let m = stays ys (node F y.held) s.3 (grind arith) (λ z. node_above F y.held k b (sym z)) (node_apart F y.held x.held s.1.word r.word d) in
      (u.nexts p n o ∙ s.0, s.1, grind (arith, nat_tests), m)

  moved : (xs : List Pointer) → Spells F f k xs → has x.held xs ≡ false → Spells F f' (node F x.held) xs
  moved [] s h = ap (λ (i : Pointer). i.held) u.own_next ∙ s
  moved (y ∷ ys) s h =
      let d : y.held ≡ x.held → ⊥ = λ (z : y.held ≡ x.held). grind (arith, nat_tests) in
      let m = stays ys (node F y.held) s.3 (grind arith) (λ z. node_above F y.held k b (sym z)) (node_apart F y.held x.held s.1.word r.word d) in
      (u.own_next ∙ s.0, s.1, u.after y s.1 d (ap (λ (i : Pointer). i.held) s.0), m)

  pub comes : (xs : List Pointer) → Spells F f k xs → has x.held xs ≡ false → Spells F f' k (x ∷ xs)
  comes xs s h = (u.front, r, u.own_back, moved xs s h)

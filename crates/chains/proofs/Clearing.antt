-- A chain is emptied at its head, and all chains are empty at first.
use Rattle.std.proofs.Common.{◌≡◌, ℕ, ◌+◌, ◌<◌, ◌≤◌, cond, eqb, List, [], ◌∷◌, length, sym, ap, ◌∙◌, inl, inr, lit<, arith}
use Rattle.std.proofs.lemmas.Bool.{cases_Bool, eqb-false}
use Rattle.std.proofs.lemmas.Bool.Decides.{nat_tests}
use Rattle.chains.specs.declared.cells.Pointer.{Pointer}
use Rattle.chains.specs.declared.cells.Cell.{Cell}
use Rattle.chains.specs.declared.chain_table.ChainTable.{ChainTable}
use Rattle.chains.specs.Packing.{decoded}
use Rattle.chains.specs.Tables.{node, at, cleared}
use Rattle.chains.specs.Chains.{Spells}
use Rattle.chains.specs.Laws.{Empties, Begins}
use Rattle.chains.proofs.Nodes.{node_above}
use Rattle.chains.proofs.Puts.{put_at}
use Rattle.chains.proofs.Framing.{cleared_writes}

-- a write to one head leaves the other chains
spells_but : (F : ChainTable) (f f' : ℕ → Cell) (k : ℕ) → k < F.heads → ((p : ℕ) → (p ≡ k → ⊥) → f' p ≡ f p) → (xs : List Pointer) (p : ℕ)
    → (p ≡ k → ⊥) → Spells F f p xs → Spells F f' p xs
spells_but F f f' k b e [] p n s = ap (λ (i : Cell). i.next.held) (e p n) ∙ s
spells_but F f f' k b e (x ∷ xs) p n s =
    let d : node F x.held ≡ k → ⊥ = λ (q : node F x.held ≡ k). node_above F x.held k b (sym q) in
    (ap (λ (i : Cell). i.next) (e p n) ∙ s.0, s.1, ap (λ (i : Cell). i.back) (e (node F x.held) d) ∙ s.2, spells_but F f f' k b e xs (node F x.held) d s.3)

module _ (F : ChainTable) (m : List ℕ) where
  cleared_at : (k : ℕ) → F.cells.base + F.cells.size ≤ length m → k < F.cells.size → (q : ℕ)
      → at F (cleared F m k) q ≡ cond (eqb q k) (record { next = record { held = 0; label = 0 }; back = 0 }) (at F m q)
  unfolding cleared
  cleared_at k r i q = put_at F m r k _ i (record { held = lit< tt; label = lit< tt; back = lit< tt }) q

  pub empties : (k : ℕ) → Empties F m k (cleared F m k)
  unfolding Empties
  empties k chains h b =
      let c = cleared_at k h.room (omega (arith, h.headed)) in
      record {
        room = omega (arith, h.room, (cleared_writes F m k).as_long);
        small = h.small;
        headed = h.headed;
        spelled = λ j l. elim (cases_Bool (eqb j k)) [
          | inl t ↦ rw t (let d = c j in grind arith)
          | inr t ↦ rw t (spells_but F (at F m) (at F (cleared F m k)) k b (λ p n. let d = c p in grind (arith, nat_tests)) (chains j) j
              (eqb-false j k t) (h.spelled j l))
        ];
      }

pub begins : Begins
unfolding Begins decoded
begins F m r s b z = record {
  room = r;
  small = s;
  headed = b;
  spelled = λ k l. ap (λ (i : ℕ). (decoded i).next.held) (z k l);
}

pub ruleset clears = (empties, cleared_writes)

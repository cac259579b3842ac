-- All entries of a slot's chain are given back, and the chain is emptied.
use Rattle.std.proofs.Common.{◌≡◌, ℕ, ◌+◌, ◌-◌, ◌<◌, ◌≤◌, true, not, eqb, List, [], ◌∷◌, ◌++◌, filter, length, sym, subst, append_assoc, inl, inr, arith}
use Rattle.std.proofs.lemmas.Bool.{cases_Bool}
use Rattle.std.proofs.lemmas.Bool.Decides.{nat_tests}
use Rattle.memory.specs.declared.column.Column.{Column}
use Rattle.memory.specs.Footprints.{clear, clear_all, Writes, view}
use Rattle.memory.proofs.Footprints.{kept}
use Rattle.order.specs.declared.board.Link.{Link}
use Rattle.chains.specs.declared.chain_table.ChainTable.{ChainTable}
use Rattle.chains.specs.declared.cells.Pointer.{Pointer}
use Rattle.chains.specs.Tables.{node, at, unhooked, cleared}
use Rattle.chains.specs.Chains.{Holds, emptied as chains_emptied}
use Rattle.chains.specs.Laws.{Empties}
use Rattle.chains.proofs.Walking.{Leads, leads, met_none, met_some}
use Rattle.chains.proofs.Reading.{head_off, short}
use Rattle.chains.proofs.Framing.{holds_kept, leads_kept, unhooked_writes, cleared_writes}
use Rattle.chains.proofs.Clearing.{empties}
use Rattle.links.specs.declared.layout.TheConstants.{ENTRIES, LIVE, AGE, PAIR}
use Rattle.links.specs.Pairs.{is_between}
use Rattle.links.specs.Entries.{pointer, freed, dropped, emptied}
use Rattle.links.specs.Table.{Entry, point, part, listed, others}
use Rattle.links.proofs.Parting.{listed_between, others_between}
use Rattle.links.proofs.Writing.{stepped, stepped_writes, dropped_writes, freed_writes}
use Rattle.links.proofs.Coming.{holds_like, went, all_apart}
use Rattle.links.proofs.Freeing.{inner, Rest, freed_rest}
use Rattle.links.proofs.Turns.{dropped_none, dropped_some}

-- a table by the slots of links: where its keys end, and that it shares nothing with the others
pub record Side (G : ChainTable) (key : Link → ℕ) : Type 0 where
  pub below : (z : Link) → is_between z ≡ true → key z < G.heads
  pub size : G.cells.size ≤ G.heads + ENTRIES + 1
  pub apart : clear_all (G.cells ∷ []) inner ≡ true
  pub stays : clear (LIVE ∷ AGE.cells ∷ PAIR.cells ∷ []) G.cells ≡ true

-- a table but for the chains of one of the slots
pub record Beside (G : ChainTable) (key label : Link → ℕ) (m : List ℕ) (L : List Entry) : Type 0 where
  pub free : List Pointer
  pub across : Holds G m (part key label L)
  pub rest : Rest (view inner m) 0 L free

pub beside_kept : (G : ChainTable) (key label : Link → ℕ) (fs : List Column) → clear fs G.cells ≡ true → clear_all fs inner ≡ true → (m n : List ℕ)
    → Writes fs m n → (L : List Entry) → Beside G key label m L → Beside G key label n L
beside_kept G key label fs c d m n w L h =
    record { free = h.free; across = holds_kept G w c h.across; rest = kept fs inner d m n w (λ v. Rest v 0 L h.free) h.rest }

pub given_back : (G : ChainTable) (key label : Link → ℕ) → Side G key → (m : List ℕ) (L : List Entry) → Beside G key label m L → (e : ℕ)
    → listed e L ≡ true → Beside G key label (freed (unhooked G m e) e) (others e L)
given_back G key label s m L h e t = record {
  free = pointer e 0 ∷ h.free;
  across = holds_kept G (freed_writes _ e) s.stays (went G key label m L h.across e s.below h.rest.between t);
  rest = freed_rest _ L h.free (kept (G.cells ∷ []) inner s.apart m _ (unhooked_writes G m e) (λ v. Rest v 0 L h.free) h.rest) e t;
}

-- along the chains of F, across those of G
module _ (F G : ChainTable) (key label : Link → ℕ) (sf : Side F key) (sg : Side G label) (c : clear (stepped F G) F.cells ≡ true)
    (d : clear (F.cells ∷ []) G.cells ≡ true) (s : ℕ) where
  abbrev left : List Entry → List Entry
  left L = filter (λ y. not (eqb (key y.link) s)) L

  -- K are passed, M are to come
  dropping : (M K : List Entry) (f : ℕ) (m : List ℕ) (p : ℕ) → Leads F (at F m) p (part key label M s) → length (part key label M s) ≤ f
      → Beside G label key m (K ++ M) → Beside G label key (dropped f F G m p) (K ++ left M)
  dropping [] K f m p l b h = rw (dropped_none F G m p f (met_none F m p l)) h
  dropping (y ∷ M) K f m p l b h = elim (cases_Bool (eqb (key y.link) s)) [
    | inl t ↦
        let i = rw t at l in
        let j : length (part key label M s) < f = rw t at b in
        let a = others_between K y M (all_apart m _ h.free h.rest.ages) in
        let g = rw a at (given_back G label key sg m _ h y.number (listed_between K y M)) in
        let k = dropping M K (f - 1) _ (node F y.number) (leads_kept F (stepped_writes F G m y.number) c (part key label M s) _ i.2) (omega arith) g in
        rw (t, dropped_some F G m p f (f - 1) (point label y) (omega arith) (met_some F m p (point label y) i.0 i.1)) k
    | inr t ↦
        let g = subst (λ (N : List Entry). Beside G label key m N) (sym (append_assoc K (y ∷ []) M)) h in
        let k = dropping M (K ++ y ∷ []) f m p (rw t at l) (rw t at b) g in
        rw t (subst (λ (N : List Entry). Beside G label key (dropped f F G m p) N) (append_assoc K (y ∷ []) (left M)) k)
  ]

  emptied_is : (L : List Entry) (k : ℕ) → chains_emptied s (part key label L) k ≡ part key label (left L) k
  emptied_is [] k = grind arith
  emptied_is (y ∷ L) k = let ih = emptied_is L k in grind (arith, nat_tests)

  module _ (m : List ℕ) (b : s < F.heads) (L : List Entry) (h : Holds F m (part key label L)) (t : Beside G label key m L) where
    abbrev n : List ℕ
    n = dropped ENTRIES F G m s

    pub slot_emptied : Holds F (emptied F G m s) (part key label (left L))
    unfolding emptied Empties
    slot_emptied =
        holds_like F (cleared F n s) (chains_emptied s (part key label L)) (part key label (left L)) (λ k l. emptied_is L k)
        (empties F n s (part key label L) (holds_kept F (dropped_writes F G ENTRIES m s) c h) b)

    pub slot_beside : Beside G label key (emptied F G m s) (left L)
    unfolding emptied
    slot_beside =
        let a = h.spelled s b in
        let l = short F (at F m) (part key label L s) s a (head_off F (at F m) (part key label L s) s b) in
        let z = sf.size in
        beside_kept G label key (F.cells ∷ []) d sf.apart n _ (cleared_writes F n s) (left L)
        (dropping L [] ENTRIES m s (leads F (at F m) (part key label L s) s a) (omega arith) t)

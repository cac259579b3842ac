-- What the operations write.
use Rattle.std.proofs.Common.{◌≡◌, ℕ, zero, suc, ◌+◌, ◌-◌, ◌%◌, ◌^◌, true, ltb, List, [], ◌∷◌, refl, arith}
use Rattle.std.proofs.lemmas.Bool.{cond_both, ltb-true}
use Rattle.memory.specs.declared.column.Column.{Column}
use Rattle.memory.specs.Columns.{written}
use Rattle.memory.specs.Footprints.{within, Writes}
use Rattle.memory.proofs.Cells.{small_cell}
use Rattle.memory.proofs.Footprints.{same, on, less, after, put, put_one, either, covers_itself}
use Rattle.memory.proofs.Options.{given_holds}
use Rattle.order.specs.declared.board.TheConstants.{CARDS}
use Rattle.order.specs.declared.board.Link.{Link}
use Rattle.chains.specs.declared.cells.Pointer.{Pointer}
use Rattle.chains.specs.declared.chain_table.ChainTable.{ChainTable}
use Rattle.chains.specs.Tables.{node, pushed, unhooked}
use Rattle.chains.specs.Walks.{met}
use Rattle.chains.proofs.Framing.{pushed_writes, unhooked_writes, cleared_writes}
use Rattle.links.specs.declared.layout.TheConstants.{ENTRIES, LIVE, USED, OUT, IN, AGE, ALL, FREE, PAIR}
use Rattle.links.specs.Pairs.{is_between, pair, bucket}
use Rattle.links.specs.Entries.{live, used, free_entry, taken, pointer, hung, shelved, freed, counted, inserted, looked_up, Outcome, removed, dropped, emptied, removed_all}
use Rattle.links.specs.Table.{columns}

-- a step of a chain behind what was written
module _ (fs : List Column) (F : ChainTable) (c : within (F.cells ∷ []) fs ≡ true) (m n : List ℕ) (w : Writes fs m n) where
  then_pushed : (k : ℕ) (x : Pointer) → Writes fs m (pushed F n k x)
  then_pushed k x = after fs (F.cells ∷ []) m n _ c (pushed_writes F n k x) w

  then_unhooked : (e : ℕ) → Writes fs m (unhooked F n e)
  then_unhooked e = after fs (F.cells ∷ []) m n _ c (unhooked_writes F n e) w

-- an entry is taken, hung up, counted, and given back
module _ (m : List ℕ) where
  taken_writes : Writes (USED ∷ AGE.cells ∷ []) m (taken m)
  unfolding taken
  taken_writes =
      let fs = USED ∷ AGE.cells ∷ [] in
      given_holds (λ o. Unit {0}) (λ n. Writes fs m n) (met AGE m FREE) _ (λ x. unhooked AGE m x.held) tt
      (cond_both (ltb (used m) ENTRIES) (written m USED 0 (used m + 1)) m (λ n. Writes fs m n)
      (λ t. put fs m m USED 0 (used m + 1) refl (λ s. let b = ltb-true _ _ t in omega arith) (same fs m)) (λ t. same fs m))
      (λ x u. then_unhooked fs AGE refl m m (same fs m) x.held)

  pub hung_writes : (x : Link) (e : ℕ) → Writes (OUT.cells ∷ IN.cells ∷ AGE.cells ∷ PAIR.cells ∷ []) m (hung m x e)
  unfolding hung
  hung_writes x e =
      let fs = OUT.cells ∷ IN.cells ∷ AGE.cells ∷ PAIR.cells ∷ [] in
      let a = then_pushed fs OUT refl m m (same fs m) x.from (pointer e x.to) in
      let b = then_pushed fs IN refl m _ a x.to (pointer e x.from) in
      let d = then_pushed fs AGE refl m _ b ALL (pointer e (pair x)) in
      then_pushed fs PAIR refl m _ d (bucket x) (pointer e (pair x))

  pub counted_writes : Writes (LIVE ∷ []) m (counted m)
  counted_writes = put_one m LIVE 0 ((live m + 1) % 2 ^ 64) (λ s. omega arith)

  pub shelved_writes : (e : ℕ) → Writes (AGE.cells ∷ PAIR.cells ∷ []) m (shelved m e)
  shelved_writes e =
      let fs = AGE.cells ∷ PAIR.cells ∷ [] in
      then_pushed fs AGE refl m _ (then_unhooked fs AGE refl m _ (then_unhooked fs PAIR refl m m (same fs m) e) e) FREE (pointer e 0)

  pub set_writes : (e : ℕ) → Writes (LIVE ∷ []) (shelved m e) (freed m e)
  unfolding freed
  set_writes e = put_one (shelved m e) LIVE 0 (live (shelved m e) - 1) (λ s. let b = small_cell (shelved m e) LIVE 0 s in omega arith)

  pub freed_writes : (e : ℕ) → Writes (LIVE ∷ AGE.cells ∷ PAIR.cells ∷ []) m (freed m e)
  freed_writes e =
      let fs = LIVE ∷ AGE.cells ∷ PAIR.cells ∷ [] in
      after fs (LIVE ∷ []) m (shelved m e) _ refl (set_writes e) (less fs (AGE.cells ∷ PAIR.cells ∷ []) m _ refl (shelved_writes e))

-- a link is put in
module _ (m : List ℕ) (x : Link) where
  pub inserted_writes : Writes columns m (inserted m x)
  unfolding inserted
  inserted_writes =
      let a = less columns (USED ∷ AGE.cells ∷ []) m (taken m) refl (taken_writes m) in
      either columns m (is_between x) _ m
      (given_holds (λ o. Unit {0}) (λ n. Writes columns m n) (free_entry m) (taken m) (λ e. counted (hung (taken m) x e)) tt a
      (λ e u. after columns (LIVE ∷ []) m _ _ refl (counted_writes (hung (taken m) x e))
      (after columns (OUT.cells ∷ IN.cells ∷ AGE.cells ∷ PAIR.cells ∷ []) m (taken m) _ refl (hung_writes (taken m) x e) a)))
      (same columns m)

-- an entry goes out of one chain more, and is given back; so do all of a slot
module _ (F G : ChainTable) where
  abbrev pub stepped : List Column
  stepped = LIVE ∷ AGE.cells ∷ PAIR.cells ∷ G.cells ∷ []

  pub stepped_writes : (m : List ℕ) (e : ℕ) → Writes stepped m (freed (unhooked G m e) e)
  stepped_writes m e =
      after stepped (LIVE ∷ AGE.cells ∷ PAIR.cells ∷ []) m _ _ refl (freed_writes (unhooked G m e) e)
      (less stepped (G.cells ∷ []) m _ (let c = covers_itself G.cells in grind arith) (unhooked_writes G m e))

  pub dropped_writes : (f : ℕ) (m : List ℕ) (p : ℕ) → Writes stepped m (dropped f F G m p)
  unfolding dropped
  dropped_writes zero m p = same stepped m
  dropped_writes (suc f) m p =
      given_holds (λ o. Unit {0}) (λ n. Writes stepped m n) (met F m p) m (λ x. dropped f F G (freed (unhooked G m x.held) x.held) (node F x.held)) tt
      (same stepped m) (λ x u. on stepped m _ _ (stepped_writes m x.held) (dropped_writes f _ (node F x.held)))

pub removed_writes : (m : List ℕ) (x : Link) → Writes columns m (removed m x).memory
unfolding removed
removed_writes m x =
    given_holds (λ o. Unit {0}) (λ (r : Outcome). Writes columns m r.memory) (looked_up m x) _ _ tt (same columns m)
    (λ e u. after columns (stepped OUT IN) m _ _ refl (stepped_writes OUT IN _ e) (then_unhooked columns OUT refl m m (same columns m) e))

pub out_emptied_writes : (m : List ℕ) (s : ℕ) → Writes columns m (emptied OUT IN m s)
unfolding emptied
out_emptied_writes m s =
    after columns (OUT.cells ∷ []) m _ _ refl (cleared_writes OUT _ s) (less columns (stepped OUT IN) m _ refl (dropped_writes OUT IN ENTRIES m s))

pub in_emptied_writes : (m : List ℕ) (s : ℕ) → Writes columns m (emptied IN OUT m s)
unfolding emptied
in_emptied_writes m s =
    after columns (IN.cells ∷ []) m _ _ refl (cleared_writes IN _ s) (less columns (stepped IN OUT) m _ refl (dropped_writes IN OUT ENTRIES m s))

pub removed_all_writes : (m : List ℕ) (s : ℕ) → Writes columns m (removed_all m s)
unfolding removed_all
removed_all_writes m s =
    either columns m (ltb s CARDS) _ m (on columns m _ _ (out_emptied_writes m s) (in_emptied_writes (emptied OUT IN m s) s)) (same columns m)

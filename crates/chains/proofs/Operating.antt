-- The two operations do to the cells what they should, so the memory holds the chains that it should.
use Rattle.std.proofs.Common.{◌≡◌, ℕ, ◌<◌, true, false, cond, eqb, List, [], ◌∷◌, refl, sym, ap, subst, ◌∙◌, inl, inr, arith}
use Rattle.std.proofs.lemmas.Bool.{cases_Bool, cases_lt, eqb-true, eqb-false}
use Rattle.std.proofs.lemmas.Bool.Decides.{nat_tests}
use Rattle.chains.specs.declared.cells.Pointer.{Pointer}
use Rattle.chains.specs.declared.chain_table.ChainTable.{ChainTable}
use Rattle.memory.specs.Columns.{cell}
use Rattle.chains.specs.Packing.{decoded, Fits}
use Rattle.chains.specs.Tables.{node, at, put, nexted, pushed, unhooked}
use Rattle.chains.specs.Chains.{InRange, Spells, Holds, has, front, out_of}
use Rattle.chains.proofs.Nodes.{node_apart, node_above, node_inside}
use Rattle.chains.proofs.Packing.{decoded_fits}
use Rattle.chains.proofs.Unhooking.{Stands, Unhooks, behind_is, near_is, stands, unhooks}
use Rattle.chains.proofs.Pushing.{Pushes, stays, comes}
use Rattle.chains.proofs.Puts.{put_at}
use Rattle.chains.proofs.Framing.{put_writes, pushed_writes, unhooked_writes}

-- a cell that holds something is in the column
inside : (F : ChainTable) (m : List ℕ) (p : ℕ) → 0 < (at F m p).next.held → p < F.cells.size
unfolding cell decoded
inside F m p i = elim (cases_lt p F.cells.size) [ inl l ↦ l | inr g ↦ grind (arith, nat_tests) ]

module _ (F : ChainTable) (m : List ℕ) (chains : ℕ → List Pointer) (h : Holds F m chains) where
  module _ (x : Pointer) (s : Stands F (at F m) x) where
    abbrev c : ℕ
    c = (at F m (node F x.held)).back

    abbrev o : Pointer
    o = (at F m (node F x.held)).next

    abbrev n : ℕ
    n = node F o.held

    abbrev m₁ : List ℕ
    m₁ = nexted F m c o

    o_fits : Fits (at F m (node F x.held))
    o_fits = decoded_fits (cell m F.cells (node F x.held))

    c_inside : c < F.cells.size
    c_inside = inside F m c (let e = ap (λ (i : Pointer). i.held) s.holder in omega (arith, s.range.entry))

    first_at : (q : ℕ) → at F m₁ q ≡ cond (eqb q c) (record { next = o; back = (at F m c).back }) (at F m q)
    first_at q = put_at F m h.room c _ c_inside (record { held = o_fits.held; label = o_fits.label; back = (decoded_fits (cell m F.cells c)).back }) q

    unhooked_at : (q : ℕ) → at F (unhooked F m x.held) q
        ≡ cond (eqb q n) (record { next = (at F m₁ n).next; back = c }) (cond (eqb q c) (record { next = o; back = (at F m c).back }) (at F m q))
    unfolding unhooked
    unhooked_at q =
        let w = put_writes F m c (record { next = o; back = (at F m c).back }) in
        let f = decoded_fits (cell m₁ F.cells n) in
        put_at F m₁ (omega (arith, h.room, w.as_long)) n _ (node_inside F o.held o_fits.held s.near)
        (record { held = f.held; label = f.label; back = omega (arith, c_inside, h.small) }) q
        ∙ ap (cond (eqb q n) _) (first_at q)

    unhooked_is : Unhooks F (at F m) (at F (unhooked F m x.held)) x
    unhooked_is =
        let b = first_at n in
        record {
          joined = let a = unhooked_at c in grind (arith, nat_tests);
          nexts = λ p d. let a = unhooked_at p in grind (arith, nat_tests);
          backs = λ y r d. let a = unhooked_at (node F y.held) in let e = node_apart F o.held y.held o_fits.held r.word d in grind (arith, nat_tests);
          after = λ y r e. let a = unhooked_at (node F y.held) in let d = ap (node F) e in grind (arith, nat_tests);
        }

    holds_out : Holds F (unhooked F m x.held) (λ j. out_of x.held (chains j))
    holds_out = record {
      room = omega (arith, h.room, (unhooked_writes F m x.held).as_long);
      small = h.small;
      headed = h.headed;
      spelled = λ j l. unhooks F (at F m) (at F (unhooked F m x.held)) x s unhooked_is (chains j) j j (h.spelled j l)
          (inl (refl, λ (e : j ≡ node F x.held). node_above F x.held j l e));
    }

  module _ (k e : ℕ) (b : k < F.heads) (t : has e (chains k) ≡ true) where
    it : (x : Pointer) × (x.held ≡ e) × Stands F (at F m) x
    it = stands F (at F m) h.headed (chains k) k e (h.spelled k b) t

    pub unhooked_nexts : (p : ℕ) → (p ≡ (at F m (node F e)).back → ⊥) → (at F (unhooked F m e) p).next ≡ (at F m p).next
    unhooked_nexts = rw (← it.1) (unhooked_is it.0 it.2).nexts

    pub holds_unhooked : Holds F (unhooked F m e) (λ j. out_of e (chains j))
    holds_unhooked = rw (← it.1) (holds_out it.0 it.2)

module _ (F : ChainTable) (m : List ℕ) (chains : ℕ → List Pointer) (h : Holds F m chains) (k : ℕ) (b : k < F.heads) (x : Pointer) (r : InRange F x)
    (absent : (j : ℕ) → j < F.heads → has x.held (chains j) ≡ false) where
  abbrev own : ℕ
  own = node F x.held

  abbrev old : Pointer
  old = (at F m k).next

  abbrev next : ℕ
  next = node F old.held

  abbrev m₂ : List ℕ
  m₂ = put F m own (record { next = old; back = k })

  abbrev m₃ : List ℕ
  m₃ = put F m₂ k (record { next = x; back = 0 })

  old_fits : Fits (at F m k)
  old_fits = decoded_fits (cell m F.cells k)

  other : (xs : List Pointer) → Spells F (at F m) k xs → has x.held xs ≡ false → old.held ≡ x.held → ⊥
  other [] s t e = omega (arith, r.entry)
  other (y ∷ ys) s t e = let q = s.0 in grind (arith, nat_tests)

  third_at : (q : ℕ) → at F m₃ q ≡ cond (eqb q k) (record { next = x; back = 0 }) (cond (eqb q own) (record { next = old; back = k }) (at F m q))
  third_at q =
      let w = put_writes F m own (record { next = old; back = k }) in
      put_at F m₂ (omega (arith, h.room, w.as_long)) k _ (omega (arith, b, h.headed)) (record { held = r.word; label = r.label; back = omega arith }) q
      ∙ ap (cond (eqb q k) _) (put_at F m h.room own _ (node_inside F x.held r.word r.inside)
      (record { held = old_fits.held; label = old_fits.label; back = omega (arith, b, h.headed, h.small) }) q)

  pushed_at : (q : ℕ) → at F (pushed F m k x) q ≡ cond (eqb q next) (record { next = (at F m₃ next).next; back = own }) (at F m₃ q)
  unfolding pushed
  pushed_at q =
      let v = put_writes F m own (record { next = old; back = k }) in
      let w = put_writes F m₂ k (record { next = x; back = 0 }) in
      let f = decoded_fits (cell m₃ F.cells next) in
      let l = near_is F (at F m) h.headed (chains k) k (h.spelled k b) in
      put_at F m₃ (omega (arith, h.room, v.as_long, w.as_long)) next _ (node_inside F old.held old_fits.held l)
      (record { held = f.held; label = f.label; back = omega (arith, node_inside F x.held r.word r.inside, h.small) }) q

  pushed_is : Pushes F (at F m) (at F (pushed F m k x)) k x
  pushed_is =
      let n = node_above F old.held k b in let d = node_above F x.held k b in
      let e = node_apart F old.held x.held old_fits.held r.word (other (chains k) (h.spelled k b) (absent k b)) in
      let a = third_at next in
      record {
        front = let g = pushed_at k in let t = third_at k in grind (arith, nat_tests);
        own_next = let g = pushed_at own in let t = third_at own in grind (arith, nat_tests);
        own_back = let g = pushed_at own in let t = third_at own in grind (arith, nat_tests);
        nexts = λ p u v. let g = pushed_at p in let t = third_at p in grind (arith, nat_tests);
        backs = λ y i u v.
            let g = pushed_at (node F y.held) in let t = third_at (node F y.held) in let j = node_above F y.held k b in
            let l = node_apart F old.held y.held old_fits.held i.word v in let o = node_apart F y.held x.held i.word r.word u in grind (arith, nat_tests);
        after = λ y i u v. let g = pushed_at (node F y.held) in let w = ap (node F) v in grind (arith, nat_tests);
      }

  behind : (y : Pointer) → InRange F y → old.held ≡ y.held → (at F m (node F y.held)).back ≡ k
  behind = behind_is F (at F m) (chains k) k (h.spelled k b)

  pub holds_pushed : Holds F (pushed F m k x) (front k x chains)
  holds_pushed = record {
    room = omega (arith, h.room, (pushed_writes F m k x).as_long);
    small = h.small;
    headed = h.headed;
    spelled = λ j l. elim (cases_Bool (eqb j k)) [
      | inl t ↦ rw t (subst (λ (i : ℕ). Spells F (at F (pushed F m k x)) i (x ∷ chains i)) (sym (eqb-true j k t))
          (comes F (at F m) (at F (pushed F m k x)) k x b r pushed_is behind (chains k) (h.spelled k b) (absent k b)))
      | inr t ↦ rw t (stays F (at F m) (at F (pushed F m k x)) k x b r pushed_is behind (chains j) j (h.spelled j l) (absent j l)
          (eqb-false j k t) (λ (e : j ≡ own). node_above F x.held j l e))
    ];
  }

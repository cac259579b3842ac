-- An entry is taken for a link, and the link hung up in the chains.
use Rattle.std.proofs.Common.{◌≡◌, ℕ, ◌+◌, ◌<◌, ◌≤◌, true, false, ltb, List, [], ◌∷◌, length, Some, None, refl, sym, ◌∙◌, subst, ◌⊎◌, inl, inr, lit<, arith}
use Rattle.std.proofs.lemmas.Bool.{cases_lt, and_parts, and_from, le-leb, leb-true, lt-ltb}
use Rattle.std.proofs.lemmas.Bool.Decides.{nat_tests}
use Rattle.memory.specs.Columns.{written}
use Rattle.memory.specs.Footprints.{view}
use Rattle.memory.proofs.Cells.{cell_same}
use Rattle.memory.proofs.Footprints.{put_one}
use Rattle.order.specs.declared.board.Link.{Link}
use Rattle.chains.specs.declared.cells.Pointer.{Pointer}
use Rattle.chains.specs.Chains.{Holds, has}
use Rattle.chains.specs.Tables.{unhooked}
use Rattle.chains.proofs.Walking.{met_none, met_some}
use Rattle.chains.proofs.Framing.{holds_kept, unhooked_writes, pushed_writes}
use Rattle.links.specs.declared.layout.TheConstants.{ENTRIES, LIVE, USED, OUT, IN, AGE, FREE, PAIR}
use Rattle.links.specs.Pairs.{is_between, pair, bucket}
use Rattle.links.specs.Entries.{live, used, free_entry, taken, hung, counted}
use Rattle.links.specs.Table.{columns, Entry, part, aged, listed, TableOf}
use Rattle.links.proofs.Pairing.{between_parts, bucket_below, pair_label}
use Rattle.links.proofs.Filtering.{low_lacks, low_more}
use Rattle.links.proofs.Writing.{hung_writes, counted_writes}
use Rattle.links.proofs.Coming.{in_range, came, came_all, went_free, taken_absent, taken_not_listed}
use Rattle.links.proofs.Freeing.{Numbers, inner, Rest}
use Rattle.links.proofs.Standing.{table_of}

-- the entry e is taken: a table but for it
pub record Took (m : List ℕ) (e : ℕ) (L : List Entry) (free : List Pointer) : Type 0 where
  pub outs : Holds OUT m (part (λ x. x.from) (λ x. x.to) L)
  pub ins : Holds IN m (part (λ x. x.to) (λ x. x.from) L)
  pub rest : Rest (view inner m) 1 L free
  pub above : 0 < e
  pub below : e ≤ used m
  pub absent : listed e L ≡ false
  pub absent_free : has e free ≡ false

module _ (m : List ℕ) (L : List Entry) where
  took_free : (x : Pointer) (rest : List Pointer) → TableOf (view columns m) L (x ∷ rest) → Took (unhooked AGE m x.held) x.held L rest
  took_free x rest t =
      let w = unhooked_writes AGE m x.held in
      let e : used (unhooked AGE m x.held) ≡ used m = w.others USED 0 refl in
      let p = and_parts _ _ t.low_free in
      record {
        outs = holds_kept OUT w refl t.outs;
        ins = holds_kept IN w refl t.ins;
        rest = record {
          ages = went_free m L x rest t.ages;
          pairs = holds_kept PAIR w refl t.pairs;
          between = t.between;
          count = w.others LIVE 0 refl ∙ t.count;
          numbers = subst (λ (u : ℕ). Numbers u 1 L rest) (sym e) (record {
            filled = (let f = t.filled in omega arith);
            room = t.room;
            low = t.low;
            low_free = p.1;
          });
        };
        above = (t.ages.spelled FREE (lit< tt)).1.entry;
        below = rw e (leb-true x.held (used m) p.0);
        absent = taken_not_listed m L x rest t.ages;
        absent_free = taken_absent m L x rest t.ages;
      }

  took_fresh : TableOf (view columns m) L [] → used m < ENTRIES → Took (written m USED 0 (used m + 1)) (used m + 1) L []
  took_fresh t b =
      let w = put_one m USED 0 (used m + 1) (λ s. omega arith) in
      let e = cell_same m USED 0 (used m + 1) (lit< tt) (let r = t.outs.room in omega arith) in
      record {
        outs = holds_kept OUT w refl t.outs;
        ins = holds_kept IN w refl t.ins;
        rest = record {
          ages = holds_kept AGE w refl t.ages;
          pairs = holds_kept PAIR w refl t.pairs;
          between = t.between;
          count = w.others LIVE 0 refl ∙ t.count;
          numbers = subst (λ (u : ℕ). Numbers u 1 L []) (sym e) (record {
            filled = (let f : length L + 0 ≡ used m = t.filled in omega arith);
            room = omega (arith, b);
            low = low_more (λ (y : Entry). y.number) (used m) L t.low;
            low_free = refl;
          });
        };
        above = omega arith;
        below = rw e (omega arith);
        absent = low_lacks (λ (y : Entry). y.number) (used m) L t.low;
        absent_free = refl;
      }

  -- what is taken, if there is one left
  abbrev pub Taken : Type 0
  Taken = ((e : ℕ) × (free : List Pointer) × (free_entry m ≡ Some e) × Took (taken m) e L free)
      ⊎ ((free_entry m ≡ None) × (taken m ≡ m) × (length L ≡ ENTRIES))

  pub taking : (free : List Pointer) → TableOf (view columns m) L free → Taken
  unfolding free_entry taken
  taking [] t =
      let e = met_none AGE m FREE (t.ages.spelled FREE (lit< tt)) in
      elim (cases_lt (used m) ENTRIES) [
        | inl b ↦ let l = lt-ltb (used m) ENTRIES b in inl (used m + 1, [], rw (e, l) refl, rw (e, l) (took_fresh t b))
        | inr b ↦
            let l : ltb (used m) ENTRIES ≡ false = grind (arith, nat_tests) in
            inr (rw (e, l) refl, rw (e, l) refl, let g : length L + 0 ≡ used m = t.filled in let r : used m ≤ ENTRIES = t.room in omega arith)
      ]
  taking (x ∷ rest) t =
      let s = t.ages.spelled FREE (lit< tt) in
      let e = met_some AGE m FREE x s.0 s.1.entry in
      inl (x.held, rest, rw e refl, rw e (took_free x rest t))

-- the link is hung up
module _ (m : List ℕ) (e : ℕ) (L : List Entry) (free : List Pointer) (t : Took m e L free) (x : Link) (b : is_between x ≡ true) where
  abbrev y : Entry
  y = record { number = e; link = x }

  abbrev n : List ℕ
  n = counted (hung m x e)

  reach : e ≤ ENTRIES
  reach = omega (arith, t.below, t.rest.numbers.room)

  outs : Holds OUT n (part (λ z. z.from) (λ z. z.to) (y ∷ L))
  unfolding hung
  outs =
      let p = between_parts x b in
      let h = came OUT (λ z. z.from) (λ z. z.to) m L t.outs y p.0 (in_range OUT e x.to t.above reach (omega (arith, p.1)) (lit< tt)) t.absent in
      holds_kept OUT (counted_writes _) refl (holds_kept OUT (pushed_writes PAIR _ _ _) refl (holds_kept OUT (pushed_writes AGE _ _ _) refl
      (holds_kept OUT (pushed_writes IN _ _ _) refl h)))

  ins : Holds IN n (part (λ z. z.to) (λ z. z.from) (y ∷ L))
  unfolding hung
  ins =
      let p = between_parts x b in
      let r = in_range IN e x.from t.above reach (omega (arith, p.0)) (lit< tt) in
      let h = came IN (λ z. z.to) (λ z. z.from) _ L (holds_kept IN (pushed_writes OUT m _ _) refl t.ins) y p.1 r t.absent in
      holds_kept IN (counted_writes _) refl (holds_kept IN (pushed_writes PAIR _ _ _) refl (holds_kept IN (pushed_writes AGE _ _ _) refl h))

  ages : Holds AGE n (aged (y ∷ L) free)
  unfolding hung
  ages =
      let i = holds_kept AGE (pushed_writes IN _ _ _) refl (holds_kept AGE (pushed_writes OUT m _ _) refl t.rest.ages) in
      let h = came_all _ L free i y (in_range AGE e (pair x) t.above reach (pair_label x) (lit< tt)) t.absent t.absent_free in
      holds_kept AGE (counted_writes _) refl (holds_kept AGE (pushed_writes PAIR _ _ _) refl h)

  pairs : Holds PAIR n (part bucket pair (y ∷ L))
  unfolding hung
  pairs =
      let i = holds_kept PAIR (pushed_writes AGE _ _ _) refl (holds_kept PAIR (pushed_writes IN _ _ _) refl
      (holds_kept PAIR (pushed_writes OUT m _ _) refl t.rest.pairs)) in
      let h = came PAIR bucket pair _ L i y (bucket_below x) (in_range PAIR e (pair x) t.above reach (pair_label x) (lit< tt)) t.absent in
      holds_kept PAIR (counted_writes _) refl h

  pub table_more : TableOf (view columns n) (y ∷ L) free
  table_more = table_of n (y ∷ L) free outs ins (record {
    ages = ages;
    pairs = pairs;
    between = and_from _ _ b t.rest.between;
    count = cell_same (hung m x e) LIVE 0 _ (lit< tt) (let r = outs.room in let l = (counted_writes (hung m x e)).as_long in omega arith)
        ∙ (let a : live (hung m x e) ≡ live m = (hung_writes m x e).others LIVE 0 refl in let c : live m ≡ length L = t.rest.count in
        let f = t.rest.numbers.filled in let r = t.rest.numbers.room in omega arith);
    numbers = subst (λ (u : ℕ). Numbers u 0 (y ∷ L) free) (sym ((counted_writes (hung m x e)).others USED 0 refl ∙ (hung_writes m x e).others USED 0 refl))
        (record {
          filled = (let f = t.rest.numbers.filled in omega arith);
          room = t.rest.numbers.room;
          low = and_from _ _ (le-leb e (used m) t.below) t.rest.numbers.low;
          low_free = t.rest.numbers.low_free;
        });
  })

-- An entry is given back.
use Rattle.std.proofs.Common.{◌≡◌, ℕ, ◌+◌, ◌-◌, ◌≤◌, true, leb, List, [], ◌∷◌, length, refl, sym, ◌∙◌, subst, lit<, arith}
use Rattle.std.specs.List.{list_all}
use Rattle.std.proofs.lemmas.Bool.{and_from, le-leb}
use Rattle.memory.specs.declared.column.Column.{Column}
use Rattle.memory.specs.Footprints.{View, view}
use Rattle.memory.proofs.Cells.{cell_same}
use Rattle.chains.specs.declared.cells.Pointer.{Pointer}
use Rattle.chains.specs.Chains.{Holds, HoldsBy}
use Rattle.chains.specs.Tables.{unhooked}
use Rattle.chains.proofs.Framing.{holds_kept, unhooked_writes, pushed_writes}
use Rattle.links.specs.declared.layout.TheConstants.{ENTRIES, LIVE, USED, AGE, FREE, PAIR}
use Rattle.links.specs.Pairs.{is_between, pair, bucket}
use Rattle.links.specs.Entries.{live, used, pointer, shelved, freed}
use Rattle.links.specs.Table.{Entry, part, aged, listed, others}
use Rattle.links.proofs.Pairing.{bucket_below}
use Rattle.links.proofs.Filtering.{filter_lacks, filter_tested, low_listed}
use Rattle.links.proofs.Parting.{others_length}
use Rattle.links.proofs.Writing.{shelved_writes, set_writes, freed_writes}
use Rattle.links.proofs.Coming.{in_range, went, went_all, came_free, all_apart, not_free, above_zero}

-- the numbers of entries, u of which were ever in use, and k of which are neither listed nor free
pub record Numbers (u k : ℕ) (L : List Entry) (free : List Pointer) : Type 0 where
  pub filled : k + (length L + length free) ≡ u
  pub room : u ≤ ENTRIES
  pub low : list_all (λ y. leb y.number u) L ≡ true
  pub low_free : list_all (λ x. leb x.held u) free ≡ true

-- all that a table is but for the chains of the slots, and the columns that it is of
abbrev pub inner : List Column
inner = LIVE ∷ USED ∷ AGE.cells ∷ PAIR.cells ∷ []

pub record Rest (v : View) (k : ℕ) (L : List Entry) (free : List Pointer) : Type 0 where
  pub ages : HoldsBy AGE v.long (v.at AGE.cells) (aged L free)
  pub pairs : HoldsBy PAIR v.long (v.at PAIR.cells) (part bucket pair L)
  pub between : list_all (λ y. is_between y.link) L ≡ true
  pub count : v.at LIVE 0 ≡ length L
  pub numbers : Numbers (v.at USED 0) k L free

module _ (m : List ℕ) (L : List Entry) (free : List Pointer) (r : Rest (view inner m) 0 L free) (e : ℕ) (t : listed e L ≡ true) where
  abbrev M : List Entry
  M = others e L

  low : e ≤ used m
  low = low_listed (λ (y : Entry). y.number) (used m) e L r.numbers.low t

  ages : Holds AGE (shelved m e) (aged M (pointer e 0 ∷ free))
  ages =
      came_free _ M free (went_all _ L free (holds_kept AGE (unhooked_writes PAIR m e) refl r.ages) e t) (pointer e 0)
      (in_range AGE e 0 (above_zero m L free r.ages e t) (let b = r.numbers.room in let l = low in omega arith) (lit< tt) (lit< tt)) (filter_lacks _ L)
      (not_free m L free r.ages e t)

  pairs : Holds PAIR (shelved m e) (part bucket pair M)
  pairs =
      holds_kept PAIR (pushed_writes AGE _ FREE (pointer e 0)) refl (holds_kept PAIR (unhooked_writes AGE (unhooked PAIR m e) e) refl
      (went PAIR bucket pair m L r.pairs e (λ z i. bucket_below z) r.between t))

  count : live (freed m e) ≡ length M
  unfolding freed
  count =
      cell_same (shelved m e) LIVE 0 (live (shelved m e) - 1) (lit< tt) (let a = ages.room in omega arith)
      ∙ (let a : live (shelved m e) ≡ live m = (shelved_writes m e).others LIVE 0 refl in let c : live m ≡ length L = r.count in
      let o = others_length e L (all_apart m L free r.ages) t in omega arith)

  numbers : Numbers (used m) 0 M (pointer e 0 ∷ free)
  numbers = record {
    filled = (let f : 0 + (length L + length free) ≡ used m = r.numbers.filled in let o = others_length e L (all_apart m L free r.ages) t in omega arith);
    room = r.numbers.room;
    low = filter_tested _ _ L r.numbers.low;
    low_free = and_from _ _ (le-leb e (used m) low) r.numbers.low_free;
  }

  pub freed_rest : Rest (view inner (freed m e)) 0 M (pointer e 0 ∷ free)
  freed_rest = record {
    ages = holds_kept AGE (set_writes m e) refl ages;
    pairs = holds_kept PAIR (set_writes m e) refl pairs;
    between = filter_tested _ _ L r.between;
    count = count;
    numbers = subst (λ (u : ℕ). Numbers u 0 M (pointer e 0 ∷ free)) (sym ((freed_writes m e).others USED 0 refl)) numbers;
  }

-- What the table means depends on its columns alone, so it is the same after anything that was written elsewhere.
use Rattle.std.proofs.Common.{◌≡◌, ℕ, true, List, map, reverse, ap, sym, subst}
use Rattle.memory.specs.declared.column.Column.{Column}
use Rattle.memory.specs.Footprints.{clear_all, Writes, View, Alike}
use Rattle.memory.proofs.Footprints.{view_alike, alike}
use Rattle.chains.specs.Walks.{walked, walked_by}
use Rattle.links.specs.declared.layout.TheConstants.{ENTRIES, LIVE, OUT, IN, AGE, ALL, PAIR}
use Rattle.links.specs.Pairs.{unpair}
use Rattle.links.specs.Entries.{live}
use Rattle.links.specs.Table.{columns, edges, TableOf, TableIn, IsTable}
use Rattle.links.specs.Laws.{SameTable, Depends}

same_table : (m n : List ℕ) → Alike columns m n → SameTable m n
unfolding edges
same_table m n a =
    let e = view_alike columns m n a in
    record {
      is_table = λ t. record { table = subst TableIn (sym e) t.table };
      same_entries = λ L free t. subst (λ (v : View). TableOf v L free) (sym e) t;
      same_edges = ap (λ (v : View). reverse (map (λ x. unpair x.label) (walked_by ENTRIES AGE (v.at AGE.cells) ALL))) e;
      same_live = ap (λ (v : View). v.at LIVE 0) e;
      same_out = λ f p. ap (λ (v : View). walked_by f OUT (v.at OUT.cells) p) e;
      same_in = λ f p. ap (λ (v : View). walked_by f IN (v.at IN.cells) p) e;
      same_age = λ f p. ap (λ (v : View). walked_by f AGE (v.at AGE.cells) p) e;
      same_pair = λ f p. ap (λ (v : View). walked_by f PAIR (v.at PAIR.cells) p) e;
    }

module _ (fs : List Column) (c : clear_all fs columns ≡ true) (m n : List ℕ) (w : Writes fs m n) where
  kept : SameTable m n
  kept = same_table m n (alike fs columns c m n w)

  pub table_kept : IsTable m → IsTable n
  table_kept = kept.is_table

  pub edges_kept : edges n ≡ edges m
  edges_kept = kept.same_edges

  pub live_kept : live n ≡ live m
  live_kept = kept.same_live

  pub out_walked : (f p : ℕ) → walked f OUT n p ≡ walked f OUT m p
  out_walked = kept.same_out

  pub age_walked : (f p : ℕ) → walked f AGE n p ≡ walked f AGE m p
  age_walked = kept.same_age

pub depends : Depends
unfolding Depends
depends = (same_table, λ fs m n c w. kept fs c m n w)

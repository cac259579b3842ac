-- The columns lie in the memory, and where the heads are zeros there are no links.
use Rattle.std.proofs.Common.{◌≡◌, ℕ, ◌+◌, ◌<◌, ◌≤◌, List, [], length, replicate, refl, sym, lit<, lit≤, arith}
use Rattle.std.proofs.lemmas.List.{length-replicate}
use Rattle.memory.specs.Footprints.{view}
use Rattle.memory.proofs.Zeros.{cell_zeros}
use Rattle.chains.specs.declared.cells.TheConstants.{CELLS}
use Rattle.chains.specs.declared.chain_table.ChainTable.{ChainTable}
use Rattle.chains.specs.Chains.{Holds}
use Rattle.chains.specs.Laws.{Begins as EachBegins}
use Rattle.chains.proofs.Clearing.{begins as each_begins}
use Rattle.links.specs.declared.layout.TheConstants.{LIVE, USED, OUT, IN, AGE, PAIR}
use Rattle.links.specs.Entries.{live, used}
use Rattle.links.specs.Table.{columns, edges, aged, TableOf, IsTable}
use Rattle.links.specs.Laws.{Lies, zero_heads, Begins}
use Rattle.links.proofs.Coming.{holds_like}
use Rattle.links.proofs.Telling.{edges_is}

pub lies : Lies
unfolding Lies
lies = (refl, refl)

module _ (m : List ℕ) (l : PAIR.cells.base + PAIR.cells.size ≤ length m) (n : live m ≡ 0) (u : used m ≡ 0) (o : zero_heads OUT m) (i : zero_heads IN m)
    (a : zero_heads AGE m) (p : zero_heads PAIR m) where
  empty : (F : ChainTable) → F.cells.base + F.cells.size ≤ PAIR.cells.base + PAIR.cells.size → F.cells.size ≤ CELLS → F.heads < F.cells.size
      → zero_heads F m → Holds F m (λ k. [])
  unfolding EachBegins
  empty F r s h z = each_begins F m (omega (arith, l)) s h z

  table_none : TableOf (view columns m) [] []
  table_none = record {
    outs = empty OUT (lit≤ tt) (lit≤ tt) (lit< tt) o;
    ins = empty IN (lit≤ tt) (lit≤ tt) (lit< tt) i;
    ages = holds_like AGE m (λ k. []) (aged [] []) (λ k b. grind arith) (empty AGE (lit≤ tt) (lit≤ tt) (lit< tt) a);
    pairs = empty PAIR (lit≤ tt) (lit≤ tt) (lit< tt) p;
    between = refl;
    count = n;
    filled = sym u;
    room = omega (arith, u);
    low = refl;
    low_free = refl;
  }

  nothing : IsTable m × (edges m ≡ [])
  nothing = (record { table = record { entries = []; free = []; table = table_none } }, edges_is m [] [] table_none)

zeros : (n : ℕ) → PAIR.cells.base + PAIR.cells.size ≤ n → IsTable (replicate n 0) × (edges (replicate n 0) ≡ [])
zeros n l =
    let z = cell_zeros n in
    nothing (replicate n 0) (omega (arith, length-replicate {A = ℕ} n 0)) (z LIVE 0) (z USED 0)
    (λ k b. z OUT.cells k) (λ k b. z IN.cells k) (λ k b. z AGE.cells k) (λ k b. z PAIR.cells k)

pub begins : Begins
unfolding Begins
begins = (nothing, zeros)

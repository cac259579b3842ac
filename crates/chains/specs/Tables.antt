-- Tables of labelled chains, as the code goes through them.
--
--   node F h        the place of the cell of the entry h
--   at F m p        the cell at the place p
--   put F m p x     the memory with the cell x at the place p
--   nexted F m p o  the memory with the pointer o in the cell at p
--   backed F m p b  the memory with the cell at p saying that the one at b holds its entry
--   pushed F m k x  the memory after the entry that x holds was put in front of the chain of k
--   unhooked F m h  the memory after the entry h was taken out of its chain
--   cleared F m k   the memory after the chain of k was emptied
use Rattle.std.specs.Prelude.{ℕ, ◌+◌, ◌%◌, List}
use Rattle.chains.specs.declared.cells.TheConstants.{HELD}
use Rattle.chains.specs.declared.cells.Pointer.{Pointer}
use Rattle.chains.specs.declared.cells.Cell.{Cell}
use Rattle.chains.specs.declared.chain_table.ChainTable.{ChainTable}
use Rattle.memory.specs.Columns.{cell, written}
use Rattle.chains.specs.Packing.{encoded, decoded}

unfoldable pub node : ChainTable → ℕ → ℕ
node F h = F.heads + h % HELD

abbrev pub at : ChainTable → List ℕ → ℕ → Cell
at F m p = decoded (cell m F.cells p)

abbrev pub put : ChainTable → List ℕ → ℕ → Cell → List ℕ
put F m p x = written m F.cells p (encoded x)

abbrev pub nexted : ChainTable → List ℕ → ℕ → Pointer → List ℕ
nexted F m p o = put F m p (record { next = o; back = (at F m p).back })

abbrev pub backed : ChainTable → List ℕ → ℕ → ℕ → List ℕ
backed F m p b = put F m p (record { next = (at F m p).next; back = b })

unfoldable pub pushed : ChainTable → List ℕ → ℕ → Pointer → List ℕ
pushed F m k x =
    let own = node F x.held in
    let o = (at F m k).next in
    backed F (put F (put F m own (record { next = o; back = k })) k (record { next = x; back = 0 })) (node F o.held) own

unfoldable pub unhooked : ChainTable → List ℕ → ℕ → List ℕ
unhooked F m h = let x = at F m (node F h) in backed F (nexted F m x.back x.next) (node F x.next.held) x.back

unfoldable pub cleared : ChainTable → List ℕ → ℕ → List ℕ
cleared F m k = put F m k (record { next = record { held = 0; label = 0 }; back = 0 })

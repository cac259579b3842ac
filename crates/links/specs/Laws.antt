-- What is so of the table: the statements. m is the memory before, m' the one after.
--
--   Counts m n       n is the number of links; each link is between slots
--   Inserts m x m'   the link x stands behind the others, if it is between slots and an entry is left
--   Finds m x o      o says whether the link x is there, and at which entry
--   Removes m x r m' the link x is there no more, and the others stay, in their order; nothing changes if it wasn't there, and then r says so
--   RemovesAll m s m' the links out of the slot s and into it are there no more, and the others stay, in their order
--   Lies             no two columns of the table share a number, and all lie in the memory
--   zero_heads F m   the heads of F are zeros
--   Begins           where the heads and what is counted are zeros, whatever stands in the entries, there is a table with no links; so zeros are
--   StaysOnce        no link is there twice: so at first, after a link was put in that wasn't there, and after links were taken out
--   by_age key label m k  what the chain of all has of the links whose key is k: their entries and labels, the newest first
--   Gives            a walk along a slot's chain gives the links out of it or into it, just these, the newest first: so what it meets at their other
--                    ends is what is linked. A walk along a bucket's chain gives the links of the bucket, and along the chain of all, all. At which
--                    entries they are, each chain says as the chain of all does
--   SameTable m m'   what the table means, and what walks along its chains meet, is the same in two memories
--   Depends          so it is if they agree on the table's columns: whoever writes beside them leaves it
use Rattle.std.specs.Prelude.{◌≡◌, ℕ, ◌+◌, ◌<◌, ◌≤◌, Bool, true, false, not, ◌&&◌, ◌||◌, List, [], ◌∷◌, ◌++◌, map, reverse, length, replicate, is_some, is_ok, Some, Option, Err, Result, ◌==◌}
use Rattle.memory.specs.declared.column.TheConstants.{MEMORY}
use Rattle.memory.specs.declared.column.Column.{Column}
use Rattle.memory.specs.Columns.{cell}
use Rattle.memory.specs.Footprints.{view, all_apart, all_lie, clear_all, Writes, Alike}
use Rattle.order.specs.declared.board.TheConstants.{CARDS}
use Rattle.order.specs.declared.board.Link.{Link}
use Rattle.order.specs.declared.board.Refusal.{Refusal}
use Rattle.order.specs.declared.board.Refusal.TheVariants.{Missing}
use Rattle.order.specs.Board.{◌⟶◌}
use Rattle.order.specs.Lists.{every, any, filter}
use Rattle.chains.specs.declared.cells.Pointer.{Pointer}
use Rattle.chains.specs.declared.chain_table.ChainTable.{ChainTable}
use Rattle.chains.specs.Walks.{walked}
use Rattle.links.specs.declared.layout.TheConstants.{ENTRIES, OUT, IN, AGE, ALL, PAIR, BUCKETS}
use Rattle.links.specs.Pairs.{is_between, pair, unpair, bucket, joins}
use Rattle.links.specs.Entries.{live, used}
use Rattle.links.specs.Table.{columns, edges, Entry, TableOf, IsTable, once}

unfoldable pub Counts : List ℕ → ℕ → Type 0
Counts m n = IsTable m → (n ≡ length (edges m)) × (n ≤ ENTRIES) × (every is_between (edges m) ≡ true)

unfoldable pub Inserts : List ℕ → Link → List ℕ → Type 0
Inserts m x m' =
    IsTable m → IsTable m' × (length (edges m) < ENTRIES → x.from < CARDS → x.to < CARDS → edges m' ≡ edges m ++ x ∷ [])

unfoldable pub Finds : List ℕ → Link → Option ℕ → Type 0
Finds m x o =
    IsTable m → (is_some o ≡ any (joins x) (edges m))
    × ((e : ℕ) → o ≡ Some e → any (λ y. y.held == e && y.label == pair x) (walked ENTRIES AGE m ALL) ≡ true)

unfoldable pub Removes : List ℕ → Link → Result ℕ Refusal → List ℕ → Type 0
Removes m x r m' =
    IsTable m → once (edges m) ≡ true
    → IsTable m' × (edges m' ≡ filter (λ y. not (joins x y)) (edges m)) × (is_ok r ≡ any (joins x) (edges m))
    × (any (joins x) (edges m) ≡ false → (r ≡ Err Missing) × (m' ≡ m))

unfoldable pub RemovesAll : List ℕ → ℕ → List ℕ → Type 0
RemovesAll m s m' =
    IsTable m → IsTable m' × (edges m' ≡ filter (λ y. not (y.from == s || y.to == s)) (edges m))

unfoldable pub Lies : Type 0
Lies = (all_apart columns ≡ true) × (all_lie MEMORY columns ≡ true)

abbrev pub zero_heads : ChainTable → List ℕ → Type 0
zero_heads F m = (k : ℕ) → k < F.heads → cell m F.cells k ≡ 0

unfoldable pub Begins : Type 0
Begins =
    ((m : List ℕ) → PAIR.cells.base + PAIR.cells.size ≤ length m → live m ≡ 0 → used m ≡ 0
    → zero_heads OUT m → zero_heads IN m → zero_heads AGE m → zero_heads PAIR m → IsTable m × (edges m ≡ []))
    × ((n : ℕ) → PAIR.cells.base + PAIR.cells.size ≤ n → IsTable (replicate n 0) × (edges (replicate n 0) ≡ []))

unfoldable pub StaysOnce : Type 0
StaysOnce =
    (once [] ≡ true) × ((xs : List Link) (x : Link) → once xs ≡ true → any (joins x) xs ≡ false → once (xs ++ x ∷ []) ≡ true)
    × ((p : Link → Bool) (xs : List Link) → once xs ≡ true → once (filter p xs) ≡ true)

abbrev pub by_age : (Link → ℕ) → (Link → ℕ) → List ℕ → ℕ → List Pointer
by_age key label m k =
    map (λ x. record { held = x.held; label = label (unpair x.label) }) (filter (λ x. key (unpair x.label) == k) (walked ENTRIES AGE m ALL))

unfoldable pub Gives : Type 0
Gives = (m : List ℕ) → IsTable m
    → ((s : ℕ) → s < CARDS → map (λ x. x.label) (walked ENTRIES OUT m s) ≡ reverse (map (λ y. y.to) (filter (λ y. y.from == s) (edges m))))
    × ((s : ℕ) → s < CARDS → map (λ x. x.label) (walked ENTRIES IN m s) ≡ reverse (map (λ y. y.from) (filter (λ y. y.to == s) (edges m))))
    × ((a b : ℕ) → a < CARDS → any (λ x. x.label == b) (walked ENTRIES OUT m a) ≡ any (joins (a ⟶ b)) (edges m))
    × ((a b : ℕ) → b < CARDS → any (λ x. x.label == a) (walked ENTRIES IN m b) ≡ any (joins (a ⟶ b)) (edges m))
    × (map (λ x. x.label) (walked ENTRIES AGE m ALL) ≡ reverse (map pair (edges m)))
    × ((b : ℕ) → b < BUCKETS → map (λ x. x.label) (walked ENTRIES PAIR m b) ≡ reverse (map pair (filter (λ y. bucket y == b) (edges m))))
    × ((s : ℕ) → s < CARDS → walked ENTRIES OUT m s ≡ by_age (λ y. y.from) (λ y. y.to) m s)
    × ((s : ℕ) → s < CARDS → walked ENTRIES IN m s ≡ by_age (λ y. y.to) (λ y. y.from) m s)
    × ((b : ℕ) → b < BUCKETS → walked ENTRIES PAIR m b ≡ by_age bucket pair m b)

pub record SameTable (m m' : List ℕ) : Type 0 where
  pub is_table : IsTable m → IsTable m'
  pub same_entries : (L : List Entry) (free : List Pointer) → TableOf (view columns m) L free → TableOf (view columns m') L free
  pub same_edges : edges m' ≡ edges m
  pub same_live : live m' ≡ live m
  pub same_out : (f p : ℕ) → walked f OUT m' p ≡ walked f OUT m p
  pub same_in : (f p : ℕ) → walked f IN m' p ≡ walked f IN m p
  pub same_age : (f p : ℕ) → walked f AGE m' p ≡ walked f AGE m p
  pub same_pair : (f p : ℕ) → walked f PAIR m' p ≡ walked f PAIR m p

unfoldable pub Depends : Type 0
Depends =
    ((m m' : List ℕ) → Alike columns m m' → SameTable m m')
    × ((fs : List Column) (m m' : List ℕ) → clear_all fs columns ≡ true → Writes fs m m' → SameTable m m')

-- What the memory stands for, and when it is sound.
--
--   columns            the columns of the table
--   edges m            the links of the table, the oldest first: the chain of all links, from its end
--   Entry              a link, and the number of its entry
--   point label y      the pointer of an entry
--   part key label L k the pointers of those entries of L whose key is k
--   aged L free k      the pointers of all of L, or those of the entries that are free again
--   listed e L         some entry of L has the number e
--   others e L         those of L that have not
--   TableOf v L free   the table holds the entries of L, the newest first, and the free ones
--   IsTable m          the table is sound: it holds some entries
--   once xs            no link is there twice
use Rattle.std.specs.Prelude.{◌≡◌, ℕ, ◌+◌, ◌≤◌, Bool, true, cond, not, ◌&&◌, List, [], ◌∷◌, map, reverse, length, filter, ◌==◌, nat_le}
use Rattle.std.specs.List.{list_any, list_all}
use Rattle.memory.specs.declared.column.Column.{Column}
use Rattle.memory.specs.Footprints.{View, view}
use Rattle.order.specs.declared.board.Link.{Link}
use Rattle.order.specs.Lists.{any}
use Rattle.chains.specs.declared.cells.Pointer.{Pointer}
use Rattle.chains.specs.Chains.{HoldsBy}
use Rattle.chains.specs.Walks.{walked}
use Rattle.links.specs.declared.layout.TheConstants.{ENTRIES, LIVE, USED, OUT, IN, AGE, ALL, PAIR}
use Rattle.links.specs.Pairs.{is_between, pair, unpair, bucket, joins}

abbrev pub columns : List Column
columns = LIVE ∷ USED ∷ OUT.cells ∷ IN.cells ∷ AGE.cells ∷ PAIR.cells ∷ []

unfoldable pub edges : List ℕ → List Link
edges m = reverse (map (λ x. unpair x.label) (walked ENTRIES AGE m ALL))

pub record Entry : Type 0 where
  pub number : ℕ
  pub link : Link

abbrev pub point : (Link → ℕ) → Entry → Pointer
point label y = record { held = y.number; label = label y.link }

abbrev pub part : (Link → ℕ) → (Link → ℕ) → List Entry → ℕ → List Pointer
part key label L k = map (point label) (filter (λ y. key y.link == k) L)

abbrev pub aged : List Entry → List Pointer → ℕ → List Pointer
aged L free k = cond (k == ALL) (map (point pair) L) free

abbrev pub listed : ℕ → List Entry → Bool
listed e L = list_any (λ y. y.number == e) L

abbrev pub others : ℕ → List Entry → List Entry
others e L = filter (λ y. not (y.number == e)) L

pub record TableOf (v : View) (L : List Entry) (free : List Pointer) : Type 0 where
  pub outs : HoldsBy OUT v.long (v.at OUT.cells) (part (λ x. x.from) (λ x. x.to) L)
  pub ins : HoldsBy IN v.long (v.at IN.cells) (part (λ x. x.to) (λ x. x.from) L)
  pub ages : HoldsBy AGE v.long (v.at AGE.cells) (aged L free)
  pub pairs : HoldsBy PAIR v.long (v.at PAIR.cells) (part bucket pair L)
  pub between : list_all (λ y. is_between y.link) L ≡ true
  pub count : v.at LIVE 0 ≡ length L
  pub filled : length L + length free ≡ v.at USED 0
  pub room : v.at USED 0 ≤ ENTRIES
  pub low : list_all (λ y. nat_le y.number (v.at USED 0)) L ≡ true
  pub low_free : list_all (λ x. nat_le x.held (v.at USED 0)) free ≡ true

pub record TableIn (v : View) : Type 0 where
  pub entries : List Entry
  pub free : List Pointer
  pub table : TableOf v entries free

pub record IsTable (m : List ℕ) : Type 0 where
  pub table : TableIn (view columns m)

unfoldable pub once : List Link → Bool
once [] = true
once (x ∷ xs) = not (any (joins x) xs) && once xs

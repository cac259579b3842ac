-- What the chains of a table tell of its links.
use Rattle.std.proofs.Common.{◌≡◌, ℕ, ◌+◌, ◌<◌, ◌≤◌, Bool, true, List, [], ◌∷◌, map, filter, reverse, length, refl, ap, ◌∙◌, lit<, lit≤, arith}
use Rattle.std.specs.List.{list_all, list_any}
use Rattle.std.proofs.lemmas.List.{length-map, length-reverse}
use Rattle.memory.specs.Footprints.{view}
use Rattle.order.specs.declared.board.Link.{Link}
use Rattle.order.specs.Lists.{every, any, filter as kept}
use Rattle.chains.specs.declared.cells.Pointer.{Pointer}
use Rattle.chains.specs.declared.chain_table.ChainTable.{ChainTable}
use Rattle.chains.specs.Chains.{Holds}
use Rattle.chains.specs.Walks.{walked}
use Rattle.chains.specs.Laws.{Reads}
use Rattle.chains.proofs.Reading.{reads}
use Rattle.links.specs.declared.layout.TheConstants.{ENTRIES, AGE, ALL}
use Rattle.links.specs.Pairs.{is_between, pair, unpair}
use Rattle.links.specs.Table.{columns, edges, Entry, point, aged, TableOf}
use Rattle.links.proofs.Pairing.{unpair_pair}
use Rattle.links.proofs.Filtering.{any_reverse, every_reverse, kept_reverse}

abbrev pub links_of : List Entry → List Link
links_of L = map (λ y. y.link) L

-- a walk from a key reads its chain
pub walked_is : (F : ChainTable) (m : List ℕ) (chains : ℕ → List Pointer) (k : ℕ) → Holds F m chains → k < F.heads → F.cells.size ≤ F.heads + ENTRIES + 1
    → walked ENTRIES F m k ≡ chains k
unfolding Reads
walked_is F m chains k h b s = reads F m k ENTRIES chains h b s

unpaired : (L : List Entry) → list_all (λ y. is_between y.link) L ≡ true → map (λ x. unpair x.label) (map (point pair) L) ≡ links_of L
unpaired [] a = refl
unpaired (y ∷ L) a = let ih = unpaired L in let e = unpair_pair y.link in grind arith

module _ (m : List ℕ) (L : List Entry) (free : List Pointer) (t : TableOf (view columns m) L free) where
  pub all_walked : walked ENTRIES AGE m ALL ≡ map (point pair) L
  all_walked = walked_is AGE m (aged L free) ALL t.ages (lit< tt) (lit≤ tt)

  pub edges_is : edges m ≡ reverse (links_of L)
  unfolding edges
  edges_is = ap reverse (ap (map (λ x. unpair x.label)) all_walked ∙ unpaired L t.between)

  pub edges_length : length (edges m) ≡ length L
  edges_length = ap length edges_is ∙ (length-reverse (links_of L) ∙ length-map L (λ (y : Entry). y.link))

  pub edges_any : (p : Link → Bool) → any p (edges m) ≡ any p (links_of L)
  edges_any p = ap (any p) edges_is ∙ any_reverse p (links_of L)

  pub edges_every : (p : Link → Bool) → every p (edges m) ≡ every p (links_of L)
  edges_every p = ap (every p) edges_is ∙ every_reverse p (links_of L)

  pub edges_kept : (p : Link → Bool) → kept p (edges m) ≡ reverse (kept p (links_of L))
  edges_kept p = ap (kept p) edges_is ∙ kept_reverse p (links_of L)

-- words on entries, and on their links
pub links_filter : (p : Link → Bool) (L : List Entry) → links_of (filter (λ y. p y.link) L) ≡ kept p (links_of L)
unfolding kept
links_filter p [] = refl
links_filter p (y ∷ L) = let ih = links_filter p L in grind arith

pub links_any : (p : Link → Bool) (L : List Entry) → list_any (λ y. p y.link) L ≡ any p (links_of L)
unfolding any
links_any p [] = refl
links_any p (y ∷ L) = let ih = links_any p L in grind arith

pub links_every : (p : Link → Bool) (L : List Entry) → list_all (λ y. p y.link) L ≡ every p (links_of L)
unfolding every
links_every p [] = refl
links_every p (y ∷ L) = let ih = links_every p L in grind arith

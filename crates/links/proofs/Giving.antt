-- What walks along the chains give.
use Rattle.std.proofs.Common.{◌≡◌, ℕ, Bool, true, ◌+◌, ◌<◌, ◌≤◌, ◌&&◌, eqb, List, [], ◌∷◌, map, filter, reverse, sym, refl, ap, ◌∙◌, lit≤, arith}
use Rattle.std.specs.List.{list_all}
use Rattle.std.proofs.lemmas.List.{reverse-reverse, map-append}
use mathlib.Core.List.{reverse-cons}
use Rattle.memory.specs.Footprints.{view}
use Rattle.order.specs.declared.board.TheConstants.{CARDS}
use Rattle.order.specs.declared.board.Link.{Link}
use Rattle.order.specs.Board.{◌⟶◌}
use Rattle.order.specs.Lists.{any, filter as kept}
use Rattle.chains.specs.declared.cells.Pointer.{Pointer}
use Rattle.chains.specs.declared.chain_table.ChainTable.{ChainTable}
use Rattle.chains.specs.Chains.{Holds}
use Rattle.chains.specs.Walks.{walked}
use Rattle.links.specs.declared.layout.TheConstants.{ENTRIES, OUT, IN, AGE, ALL, PAIR}
use Rattle.links.specs.Pairs.{is_between, pair, unpair, bucket, joins}
use Rattle.links.specs.Table.{columns, edges, Entry, point, part, TableOf, IsTable}
use Rattle.links.specs.Laws.{by_age, Gives}
use Rattle.links.proofs.Pairing.{unpair_pair}
use Rattle.links.proofs.Filtering.{any_reverse, any_kept, any_map}
use Rattle.links.proofs.Telling.{links_of, walked_is, all_walked, edges_is, edges_kept, links_filter}

labels : (f : Link → ℕ) (L : List Entry) → map (λ x. x.label) (map (point f) L) ≡ map f (links_of L)
labels f [] = refl
labels f (y ∷ L) = let ih = labels f L in grind arith

map_reverse : {A B : Type 0} (f : A → B) (xs : List A) → map f (reverse xs) ≡ reverse (map f xs)
map_reverse f [] = refl
map_reverse f (x ∷ xs) =
    let ih = map_reverse f xs in let a = map-append f (reverse xs) (x ∷ []) in let r = reverse-cons x xs in let s = reverse-cons (f x) (map f xs) in cc

-- a chain has the entries that the chain of all has of its links
part_aged : (key label : Link → ℕ) (k : ℕ) (L : List Entry) → list_all (λ y. is_between y.link) L ≡ true →
    part key label L k ≡ map (λ x. record { held = x.held; label = label (unpair x.label) }) (kept (λ x. eqb (key (unpair x.label)) k) (map (point pair) L))
unfolding kept
part_aged key label k [] a = refl
part_aged key label k (y ∷ L) a = let ih = part_aged key label k L in let u = unpair_pair y.link in grind arith

module _ (m : List ℕ) (h : IsTable m) where
  abbrev L : List Entry
  L = h.table.entries

  abbrev t : TableOf (view columns m) L h.table.free
  t = h.table.table

  -- what is told along the chain of a slot, and whether a number is told
  module _ (F : ChainTable) (key label : Link → ℕ) (c : Holds F m (part key label L)) (s : ℕ) (b : s < F.heads)
      (z : F.cells.size ≤ F.heads + ENTRIES + 1) where
    walked_gives : map (λ x. x.label) (walked ENTRIES F m s) ≡ reverse (map label (kept (λ y. eqb (key y) s) (edges m)))
    walked_gives =
        let w = walked_is F m (part key label L) s c b z in let a = labels label (filter (λ y. eqb (key y.link) s) L) in
        let k = links_filter (λ y. eqb (key y) s) L in let e = edges_kept m L h.table.free t (λ y. eqb (key y) s) in
        let r = map_reverse label (kept (λ y. eqb (key y) s) (links_of L)) in
        let u = reverse-reverse (map label (kept (λ y. eqb (key y) s) (links_of L))) in cc

    walked_has : (k : ℕ) (r : Link → Bool) → ((y : Link) → r y ≡ (eqb (key y) s && eqb (label y) k))
        → any (λ x. eqb x.label k) (walked ENTRIES F m s) ≡ any r (edges m)
    walked_has k r e =
        let w = walked_gives in let a = any_map (λ i. eqb i k) (λ (x : Pointer). x.label) (walked ENTRIES F m s) in
        let u = any_reverse (λ i. eqb i k) (map label (kept (λ y. eqb (key y) s) (edges m))) in
        let d = any_map (λ i. eqb i k) label (kept (λ y. eqb (key y) s) (edges m)) in
        let l = any_kept (λ y. eqb (key y) s) (λ y. eqb (label y) k) r e (edges m) in cc

    walked_aged : walked ENTRIES F m s ≡ by_age key label m s
    walked_aged =
        walked_is F m (part key label L) s c b z ∙ part_aged key label s L t.between
        ∙ sym (ap (λ (xs : List Pointer). map (λ x. record { held = x.held; label = label (unpair x.label) }) (kept (λ x. eqb (key (unpair x.label)) s) xs))
        (all_walked m L h.table.free t))

  pub out_gives : (s : ℕ) → s < CARDS → map (λ x. x.label) (walked ENTRIES OUT m s) ≡ reverse (map (λ y. y.to) (kept (λ y. eqb y.from s) (edges m)))
  out_gives s b = walked_gives OUT (λ x. x.from) (λ x. x.to) t.outs s b (lit≤ tt)

  pub age_gives : map (λ x. x.label) (walked ENTRIES AGE m ALL) ≡ reverse (map pair (edges m))
  age_gives =
      let w = all_walked m L h.table.free t in let a = labels pair L in let e = edges_is m L h.table.free t in
      let r = map_reverse pair (links_of L) in let u = reverse-reverse (map pair (links_of L)) in cc

pub gives : Gives
unfolding Gives
gives m h = (
  out_gives m h,
  λ s b. walked_gives m h IN (λ x. x.to) (λ x. x.from) h.table.table.ins s b (lit≤ tt),
  λ a b i. walked_has m h OUT (λ x. x.from) (λ x. x.to) h.table.table.outs a i (lit≤ tt) b (joins (a ⟶ b)) (λ y. refl),
  λ a b i. walked_has m h IN (λ x. x.to) (λ x. x.from) h.table.table.ins b i (lit≤ tt) a (joins (a ⟶ b)) (λ y. grind arith),
  age_gives m h,
  λ b i. walked_gives m h PAIR bucket pair h.table.table.pairs b i (lit≤ tt),
  λ s b. walked_aged m h OUT (λ x. x.from) (λ x. x.to) h.table.table.outs s b (lit≤ tt),
  λ s b. walked_aged m h IN (λ x. x.to) (λ x. x.from) h.table.table.ins s b (lit≤ tt),
  λ b i. walked_aged m h PAIR bucket pair h.table.table.pairs b i (lit≤ tt),
)

-- Ways by links on a board with other names for its cards: what leads where, what goes round, and why a link is refused.
use Rattle.std.proofs.Common.{◌≡◌, ℕ, Bool, true, ◌&&◌, eqb, List, [], ◌∷◌, map, refl, ◌∙◌, subst}
use Rattle.std.proofs.lemmas.List.{length-map}
use Rattle.std.proofs.lemmas.Bool.{eqb-true, and_parts}
use Rattle.order.specs.Lists.{every, distinct}
use Rattle.order.specs.Board.{Board, ◌⟶◌, linked, fine, leads}
use Rattle.order.specs.Reordering.{link_refusal, touched, follows, last_of, goes_round}
use Rattle.order.specs.Renaming.{named, renamed, Naming}
use Rattle.order.proofs.RenamesLists.{eqb_named, has_map, distinct_map}
use Rattle.order.proofs.RenamesLinks.{joins_map, keeps_map, ends_map}
use Rattle.order.proofs.RenamesReach.{reach_map}

module _ (f : ℕ → ℕ) (D : ℕ → Bool) (r : Board) (n : Naming f D r) where
  pub linked_renamed : (a b : ℕ) → D a ≡ true → D b ≡ true → linked (renamed f r) (f a) (f b) ≡ linked r a b
  linked_renamed a b x y = joins_map f D n.tell r.links a b n.ends x y

  pub leads_renamed : (a b : ℕ) → D a ≡ true → D b ≡ true → leads (renamed f r) (f a) (f b) ≡ leads r a b
  leads_renamed a b x y = rw (length-map r.row f) (reach_map f D n.tell r.links n.ends _ a b x y)

  pub touched_renamed : (a b k : ℕ) → D a ≡ true → D b ≡ true → D k ≡ true → touched (renamed f r) (f a) (f b) (f k) ≡ touched r a b k
  touched_renamed a b k x y d = rw (leads_renamed b k y d, leads_renamed k a d x)

  pub fine_renamed : fine (renamed f r) ≡ fine r
  fine_renamed =
      rw (
        distinct_map f D n.tell r.row n.cards,
        ends_map f D n.tell r.row r.links n.cards n.ends,
        keeps_map f D n.tell r.row r.links n.cards n.ends,
      )

  pub refusal_renamed : (a b : ℕ) → D a ≡ true → D b ≡ true → link_refusal (renamed f r) (f a ⟶ f b) ≡ link_refusal r (a ⟶ b)
  unfolding link_refusal
  refusal_renamed a b x y =
      rw (
        has_map f D n.tell r.row a n.cards x,
        has_map f D n.tell r.row b n.cards y,
        linked_renamed a b x y,
        leads_renamed b a y x,
        length-map r.links (named f),
      )

  -- a way, its last card, and a way that goes round
  pub follows_renamed : (ks : List ℕ) → every D ks ≡ true → follows (renamed f r) (map f ks) ≡ follows r ks
  unfolding follows every
  follows_renamed [] v = refl
  follows_renamed (k ∷ []) v = refl
  follows_renamed (k ∷ j ∷ ks) v =
      let p = and_parts (D k) (every D (j ∷ ks)) v in
      let q = and_parts (D j) (every D ks) p.1 in
      rw (linked_renamed k j p.0 q.0, follows_renamed (j ∷ ks) p.1)

  last_map : (k : ℕ) (ks : List ℕ) → last_of (f k) (map f ks) ≡ f (last_of k ks)
  unfolding last_of
  last_map k [] = refl
  last_map k (j ∷ ks) = last_map j ks

  first_known : (k : ℕ) (ks : List ℕ) → every D (k ∷ ks) ≡ true → D k ≡ true
  unfolding every
  first_known k ks v = (and_parts (D k) (every D ks) v).0

  last_known : (k : ℕ) (ks : List ℕ) → every D (k ∷ ks) ≡ true → D (last_of k ks) ≡ true
  unfolding last_of every
  last_known k [] v = (and_parts (D k) true v).0
  last_known k (j ∷ ks) v = last_known j ks (and_parts (D k) (every D (j ∷ ks)) v).1

  pub goes_round_renamed : (a b : ℕ) (ks : List ℕ) → D a ≡ true → D b ≡ true → every D ks ≡ true →
      goes_round (renamed f r) (f a) (f b) (map f ks) ≡ goes_round r a b ks
  unfolding goes_round every
  goes_round_renamed a b [] x y v = refl
  goes_round_renamed a b (k ∷ ks) x y v =
      let p = and_parts (D k) (every D ks) v in
      rw (
        last_map k ks,
        eqb_named f D n.tell k b p.0 y,
        eqb_named f D n.tell (last_of k ks) a (last_known k ks v) x,
        follows_renamed (k ∷ ks) v,
        distinct_map f D n.tell (k ∷ ks) v,
      )

  -- a way that goes round from b to a has both
  pub way_renamed : (a b : ℕ) (ks : List ℕ) → every D ks ≡ true → goes_round r a b ks ≡ true → goes_round (renamed f r) (f a) (f b) (map f ks) ≡ true
  unfolding goes_round
  way_renamed a b [] v w = w
  way_renamed a b (k ∷ ks) v w =
      let e = and_parts (eqb k b) (eqb (last_of k ks) a) (and_parts (eqb k b && eqb (last_of k ks) a) (follows r (k ∷ ks) && distinct (k ∷ ks)) w).0 in
      let x = subst (λ (z : ℕ). D z ≡ true) (eqb-true (last_of k ks) a e.1) (last_known k ks v) in
      let y = subst (λ (z : ℕ). D z ≡ true) (eqb-true k b e.0) (first_known k ks v) in
      goes_round_renamed a b (k ∷ ks) x y v ∙ w

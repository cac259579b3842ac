-- Rows little changed, and firm ones, on a board with other names for its cards.
use Rattle.std.proofs.Common.{◌≡◌, ℕ, suc, Bool, true, not, ◌||◌, eqb, List, map, take, drop}
use Rattle.std.proofs.lemmas.List.{take-map, drop-map}
use Rattle.order.specs.Lists.{every, filter, place, same}
use Rattle.order.specs.Board.{Board, leads}
use Rattle.order.specs.Reordering.{touched, little, firm}
use Rattle.order.specs.Renaming.{renamed, Naming}
use Rattle.order.proofs.Filters.{every_take}
use Rattle.order.proofs.RenamesTests.{every_map}
use Rattle.order.proofs.RenamesLists.{every_drop, place_map, same_map, same_filter_map}
use Rattle.order.proofs.RenamesWays.{leads_renamed, touched_renamed}

module _ (f : ℕ → ℕ) (D : ℕ → Bool) (r : Board) (n : Naming f D r) (a b : ℕ) (x : D a ≡ true) (y : D b ≡ true) (row : List ℕ) (v : every D row ≡ true) where
  -- the front of the two rows, and their end
  same_front : (i : ℕ) → same (take i (map f row)) (take i (map f r.row)) ≡ same (take i row) (take i r.row)
  same_front i =
      rw (take-map f i row, take-map f i r.row)
      (same_map f D n.tell (take i row) (take i r.row) (every_take D i row v) (every_take D i r.row n.cards))

  same_end : (i : ℕ) → same (drop i (map f row)) (drop i (map f r.row)) ≡ same (drop i row) (drop i r.row)
  same_end i =
      rw (drop-map f i row, drop-map f i r.row)
      (same_map f D n.tell (drop i row) (drop i r.row) (every_drop D i row v) (every_drop D i r.row n.cards))

  same_order : (p q : ℕ → Bool) → ((k : ℕ) → D k ≡ true → q (f k) ≡ p k) →
      same (filter q (map f row)) (filter q (map f r.row)) ≡ same (filter p row) (filter p r.row)
  same_order p q w = same_filter_map f D n.tell p q w row r.row v n.cards

  pub little_renamed : little (renamed f r) (f a) (f b) (map f row) ≡ little r a b row
  little_renamed =
      let s₁ = same_order (λ k. not (touched r a b k)) (λ k. not (touched (renamed f r) (f a) (f b) k)) (λ k d. rw (touched_renamed f D r n a b k x y d)) in
      let s₂ = same_order (leads r b) (leads (renamed f r) (f b)) (λ k d. leads_renamed f D r n b k y d) in
      let s₃ = same_order (λ k. leads r k a) (λ k. leads (renamed f r) k (f a)) (λ k d. leads_renamed f D r n k a d x) in
      rw (
        place_map f D n.tell r.row a n.cards x,
        place_map f D n.tell r.row b n.cards y,
        same_front (place r.row b),
        same_end (suc (place r.row a)),
        s₁,
        s₂,
        s₃,
      )

  pub firm_renamed : firm (renamed f r) (f a) (f b) (map f row) ≡ firm r a b row
  firm_renamed =
      let e = every_map f D (λ k. touched r a b k || eqb (place row k) (place r.row k))
      (λ k. touched (renamed f r) (f a) (f b) k || eqb (place (map f row) k) (place (map f r.row) k))
      (λ k d. rw (touched_renamed f D r n a b k x y d, place_map f D n.tell row k v d, place_map f D n.tell r.row k n.cards d))
      r.row n.cards in
      rw (little_renamed, e)

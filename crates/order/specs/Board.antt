-- A board: cards in a row, and links that say which card has to stand before which. These are definitions: nothing is assumed.
--   Board             the cards in their order, and the links
--   a ⟶ b             the link that says: a has to stand before b
--   linked r a b      there is a link from a to b
--   keeps row ls      in the row each link's first card stands before its second
--   fine r            each card stands once, each link is between cards that stand, and the row keeps the links
--   nexts ls k        the cards that have to stand behind k by one link
--   rounds ls n ks    ks, and what one comes to from them by at most n links
--   reach r k         what one comes to from k by links, k too
--   leads r a b       one comes from a to b by links, by none if they are the same
use Rattle.std.specs.Prelude.{ℕ, zero, suc, Bool, cond, ◌&&◌, List, [], ◌∷◌, length, ◌==◌, nat_lt}
use Rattle.order.specs.declared.board.Link.{Link}
use Rattle.order.specs.Lists.{every, any, has, place, distinct, with_all, flat}

pub record Board : Type 0 where
  pub row : List ℕ
  pub links : List Link

infixl 20 ◌⟶◌
abbrev pub ◌⟶◌ : ℕ → ℕ → Link
a ⟶ b = record { from = a; to = b }

abbrev pub linked : Board → ℕ → ℕ → Bool
linked r a b = any (λ l. (l.from == a) && l.to == b) r.links

abbrev pub keeps : List ℕ → List Link → Bool
keeps row ls = every (λ l. nat_lt (place row l.from) (place row l.to)) ls

abbrev pub fine : Board → Bool
fine r = distinct r.row && (every (λ l. has r.row l.from && has r.row l.to) r.links && keeps r.row r.links)

unfoldable pub nexts : List Link → ℕ → List ℕ
nexts [] k = []
nexts (l ∷ ls) k = cond (l.from == k) (l.to ∷ nexts ls k) (nexts ls k)

unfoldable pub rounds : List Link → ℕ → List ℕ → List ℕ
rounds ls zero ks = ks
rounds ls (suc n) ks = rounds ls n (with_all (flat (nexts ls) ks) ks)

abbrev pub reach : Board → ℕ → List ℕ
reach r k = rounds r.links (length r.row) (k ∷ [])

abbrev pub leads : Board → ℕ → ℕ → Bool
leads r a b = has (reach r a) b

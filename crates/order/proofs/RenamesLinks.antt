-- Links with other names for their cards: which there are, whether a row keeps them, and what is left without some of them.
use Rattle.std.proofs.Common.{◌≡◌, ℕ, Bool, true, not, ◌&&◌, ◌||◌, eqb, ltb, List, [], ◌∷◌, ◌++◌, map, sym, ◌∙◌}
use Rattle.std.proofs.lemmas.Bool.{and_parts, and_from}
use Rattle.order.specs.declared.board.Link.{Link}
use Rattle.order.specs.Lists.{every, any, filter, has, place}
use Rattle.order.specs.Board.{keeps, ◌⟶◌}
use Rattle.order.specs.Renaming.{named}
use Rattle.order.proofs.Filters.{every_append}
use Rattle.order.proofs.RenamesTests.{every_map, any_map, filter_map}
use Rattle.order.proofs.RenamesLists.{eqb_named, has_map, place_map}

-- D has both cards of each link
abbrev pub Known : (ℕ → Bool) → List Link → Type 0
Known D ls = every (λ l. D l.from && D l.to) ls ≡ true

-- one more link
pub more_known : (D : ℕ → Bool) (ls : List Link) (a b : ℕ) → Known D ls → D a ≡ true → D b ≡ true → Known D (ls ++ (a ⟶ b) ∷ [])
unfolding every
more_known D ls a b h x y = every_append (λ l. D l.from && D l.to) ls ((a ⟶ b) ∷ []) ∙ and_from _ _ h (rw (x, y))

module _ (f : ℕ → ℕ) (D : ℕ → Bool) (tell : (j k : ℕ) → D j ≡ true → D k ≡ true → f j ≡ f k → j ≡ k) where
  -- a test of a link that looks at its two cards, and another that says the same of their names
  module _ (p q : ℕ → ℕ → Bool) (w : (j k : ℕ) → D j ≡ true → D k ≡ true → q (f j) (f k) ≡ p j k) where
    agree : (l : Link) → (D l.from && D l.to) ≡ true → q (f l.from) (f l.to) ≡ p l.from l.to
    agree l d = let s = and_parts (D l.from) (D l.to) d in w l.from l.to s.0 s.1

    every_links : (ls : List Link) → Known D ls → every (λ l. q l.from l.to) (map (named f) ls) ≡ every (λ l. p l.from l.to) ls
    every_links ls h = every_map (named f) (λ l. D l.from && D l.to) (λ l. p l.from l.to) (λ l. q l.from l.to) agree ls h

    any_links : (ls : List Link) → Known D ls → any (λ l. q l.from l.to) (map (named f) ls) ≡ any (λ l. p l.from l.to) ls
    any_links ls h = any_map (named f) (λ l. D l.from && D l.to) (λ l. p l.from l.to) (λ l. q l.from l.to) agree ls h

    filter_links : (ls : List Link) → Known D ls →
        map (named f) (filter (λ l. p l.from l.to) ls) ≡ filter (λ l. q l.from l.to) (map (named f) ls)
    filter_links ls h =
        sym (filter_map (named f) (λ l. D l.from && D l.to) (λ l. p l.from l.to) (λ l. q l.from l.to) agree ls h)

  -- the test for the link from a to b
  joins_named : (a b : ℕ) → D a ≡ true → D b ≡ true → (j k : ℕ) → D j ≡ true → D k ≡ true →
      (eqb (f j) (f a) && eqb (f k) (f b)) ≡ (eqb j a && eqb k b)
  joins_named a b x y j k d e = rw (eqb_named f D tell j a d x, eqb_named f D tell k b e y)

  pub joins_map : (ls : List Link) (a b : ℕ) → Known D ls → D a ≡ true → D b ≡ true →
      any (λ l. eqb l.from (f a) && eqb l.to (f b)) (map (named f) ls) ≡ any (λ l. eqb l.from a && eqb l.to b) ls
  joins_map ls a b h x y = any_links (λ j k. eqb j a && eqb k b) (λ j k. eqb j (f a) && eqb k (f b)) (joins_named a b x y) ls h

  pub keeps_map : (row : List ℕ) (ls : List Link) → every D row ≡ true → Known D ls → keeps (map f row) (map (named f) ls) ≡ keeps row ls
  keeps_map row ls g h =
      every_links (λ j k. ltb (place row j) (place row k)) (λ j k. ltb (place (map f row) j) (place (map f row) k))
      (λ j k d e. rw (place_map f D tell row j g d, place_map f D tell row k g e)) ls h

  pub ends_map : (row : List ℕ) (ls : List Link) → every D row ≡ true → Known D ls →
      every (λ l. has (map f row) l.from && has (map f row) l.to) (map (named f) ls) ≡ every (λ l. has row l.from && has row l.to) ls
  ends_map row ls g h =
      every_links (λ j k. has row j && has row k) (λ j k. has (map f row) j && has (map f row) k)
      (λ j k d e. rw (has_map f D tell row j g d, has_map f D tell row k g e)) ls h

  -- the links without those of a card, and without one link
  pub links_without_map : (k : ℕ) (ls : List Link) → D k ≡ true → Known D ls →
      map (named f) (filter (λ l. not (eqb l.from k || eqb l.to k)) ls)
      ≡ filter (λ l. not (eqb l.from (f k) || eqb l.to (f k))) (map (named f) ls)
  links_without_map k ls d h =
      filter_links (λ i j. not (eqb i k || eqb j k)) (λ i j. not (eqb i (f k) || eqb j (f k)))
      (λ i j x y. rw (eqb_named f D tell i k x d, eqb_named f D tell j k y d)) ls h

  pub without_link_map : (a b : ℕ) (ls : List Link) → D a ≡ true → D b ≡ true → Known D ls →
      map (named f) (filter (λ l. not (eqb l.from a && eqb l.to b)) ls)
      ≡ filter (λ l. not (eqb l.from (f a) && eqb l.to (f b))) (map (named f) ls)
  without_link_map a b ls x y h =
      filter_links (λ j k. not (eqb j a && eqb k b)) (λ j k. not (eqb j (f a) && eqb k (f b)))
      (λ j k d e. rw (joins_named a b x y j k d e)) ls h

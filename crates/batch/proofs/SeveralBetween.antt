-- Two rows that are the same before one place and from another on: what several links leave so, and the cards between the two places.
use Rattle.std.proofs.Common.{◌≡◌, ℕ, ◌+◌, ◌-◌, ◌<◌, ◌≤◌, true, List, take, drop, sym, ap, ◌∙◌, inl, inr, arith, take-take, drop-drop, [], ◌∷◌, ◌++◌, length, refl, append_assoc, append-nil, false, map, length-take}
use Rattle.std.proofs.lemmas.Bool.{cases_Bool, cases_lt, cases_eq, both_ways}
use Rattle.order.specs.declared.board.Link.{Link}
use Rattle.command.specs.declared.command.Command.TheVariants.{Link as Links}
use Rattle.order.specs.Lists.{has, place, distinct, any}
use Rattle.order.specs.Board.{Board, fine}
use Rattle.order.specs.Reordering.{backward, link_must_be}
use Rattle.command.specs.Commands.{must_be}
use Rattle.order.proofs.Filters.{same_is}
use Rattle.order.proofs.Little.{little_parts, place_by_front, place_by_rest}
use Rattle.order.proofs.Only.{firm_is_little}
use Rattle.order.proofs.Climbs.{fine_parts}
use Rattle.batch.specs.Several.{all_there, Becomes, first_named, past_named, after_link}
use Rattle.batch.specs.SeveralLaws.{SeveralBetween}
use Rattle.batch.proofs.SeveralRows.{there_parts, goes_on}
use Rattle.order.proofs.Places.{place_below, place_take, has_take, has_from_take, place_drop, has_drop, has_from_drop, behind_from_drop}
use Rattle.order.proofs.Members.{has_head, has_tail, has_on, has_at}
use Rattle.batch.proofs.Within.{Within, within_more, within_not}

pub record SameEnds (lo hi : ℕ) (xs ys : List ℕ) : Type 0 where
  pub front : take lo xs ≡ take lo ys
  pub rest : drop hi xs ≡ drop hi ys

module _ (lo hi : ℕ) where
  pub ends_is : (xs ys : List ℕ) → xs ≡ ys → SameEnds lo hi xs ys
  ends_is xs ys e = record { front = ap (take lo) e; rest = ap (drop hi) e }

  pub ends_on : (xs ys zs : List ℕ) → SameEnds lo hi xs ys → SameEnds lo hi ys zs → SameEnds lo hi xs zs
  ends_on xs ys zs s t = record { front = s.front ∙ t.front; rest = s.rest ∙ t.rest }

  drop_from : (n : ℕ) (xs : List ℕ) → n ≤ hi → drop hi xs ≡ drop (hi - n) (drop n xs)
  drop_from n xs h = let e : hi ≡ n + (hi - n) = omega arith in ap (λ k. drop k xs) e ∙ sym (drop-drop (hi - n) n xs)

  -- it is enough that they are the same before a later place and from an earlier one on
  pub ends_within : (m n : ℕ) (xs ys : List ℕ) → lo ≤ m → n ≤ hi → take m xs ≡ take m ys → drop n xs ≡ drop n ys → SameEnds lo hi xs ys
  ends_within m n xs ys l h f e = record {
    front = sym (take-take lo m xs l) ∙ ap (take lo) f ∙ take-take lo m ys l;
    rest = drop_from n xs h ∙ ap (drop (hi - n)) e ∙ sym (drop_from n ys h);
  }

  -- one link between the two places
  pub link_ends : (r : Board) (l : Link) (row : List ℕ) → must_be r (Links l) row ≡ true → lo ≤ place r.row l.to → place r.row l.from < hi →
      SameEnds lo hi row r.row
  unfolding must_be link_must_be
  link_ends r l row m lower higher = elim (cases_Bool (backward r l.from l.to)) [
    | inl e ↦
        let p = little_parts r l.from l.to row (firm_is_little r l.from l.to row (rw e at m)) in
        ends_within _ _ row r.row lower higher p.front p.rest
    | inr e ↦ ends_is row r.row (same_is row r.row (rw e at m))
  ]

  pub inside : (xs ys : List ℕ) (k : ℕ) → SameEnds lo hi xs ys → distinct ys ≡ true → has xs k ≡ true → lo ≤ place ys k → place ys k < hi →
      (lo ≤ place xs k) × (place xs k < hi)
  inside xs ys k s d h l u = (
    elim (cases_lt (place xs k) lo) [
      | inl e ↦ omega (arith, place_by_front lo ys xs k (sym s.front) h e)
      | inr e ↦ e
    ],
    elim (cases_lt (place xs k) hi) [
      | inl e ↦ e
      | inr e ↦ omega (arith, place_by_rest hi ys xs k (sym s.rest) d h e)
    ],
  )

module _ (lo hi : ℕ) where
  -- the cards that are named stand between the two places
  record Named (r : Board) (ls : List Link) : Type 0 where
    pub lower : lo ≤ first_named r ls
    pub higher : past_named r ls ≤ hi

  named_less : (r : Board) (l : Link) (ls : List Link) → Named r (l ∷ ls) → Named r ls
  unfolding first_named past_named
  named_less r l ls a = record { lower = omega arith; higher = omega arith }

  -- and stay there
  named_on : (r r₁ : Board) (ls : List Link) → length r₁.row ≡ length r.row → distinct r.row ≡ true → SameEnds lo hi r₁.row r.row →
      all_there r₁ ls ≡ true → Named r ls → Named r₁ ls
  unfolding first_named past_named
  named_on r r₁ [] n d s t a = record { lower = omega arith; higher = omega arith }
  named_on r r₁ (l ∷ ls) n d s t a =
      let h = there_parts r₁ l ls t in
      let ih = named_on r r₁ ls n d s h.2 (named_less r l ls a) in
      let f = inside lo hi r₁.row r.row l.from s d h.0 (omega arith) (omega arith) in
      let e = inside lo hi r₁.row r.row l.to s d h.1 (omega arith) (omega arith) in
      record { lower = omega arith; higher = omega arith }

  -- what the links make of the board
  record Made (r : Board) (ls : List Link) (row : List ℕ) : Type 0 where
    pub fine_so : fine (record { row = row; links = r.links ++ ls }) ≡ true
    pub long : length row ≡ length r.row
    pub same_cards : (k : ℕ) → has row k ≡ has r.row k
    pub ends : SameEnds lo hi row r.row

  made : (r : Board) (ls : List Link) (row : List ℕ) → fine r ≡ true → all_there r ls ≡ true → Becomes r ls row → Named r ls → Made r ls row
  unfolding Becomes first_named past_named
  made r [] row fi t b a = rw b (record { fine_so = simp append-nil fi; long = refl; same_cards = λ k. refl; ends = ends_is lo hi r.row r.row refl })
  made r (l ∷ ls) row fi t b a =
      let mid = b.0 in
      let g = goes_on r l ls mid fi t b.1 b.2 in
      let s = link_ends lo hi r l mid b.1 (omega arith) (omega arith) in
      let c = named_on r (after_link r l mid) ls g.long (fine_parts r fi).apart s g.there (named_less r l ls a) in
      let ih = made (after_link r l mid) ls row g.fine_so g.there b.3 c in
      record {
        fine_so = simp append_assoc at ih.fine_so;
        long = ih.long ∙ g.long;
        same_cards = λ k. ih.same_cards k ∙ g.same_cards k;
        ends = ends_on lo hi row mid r.row ih.ends s;
      }

pub several_between : SeveralBetween
several_between r ls row fi t b =
    let m = made (first_named r ls) (past_named r ls) r ls row fi t b (record { lower = omega arith; higher = omega arith }) in
    record {
      fine_so = m.fine_so;
      as_long = m.long;
      same_cards = m.same_cards;
      front = m.ends.front;
      rest = m.ends.rest;
      same_place = λ k h w. elim w [
        | inl e ↦ place_by_front _ row r.row k m.ends.front h e
        | inr e ↦ place_by_rest _ row r.row k m.ends.rest (fine_parts _ m.fine_so).apart h e
      ];
    }

same_has : (xs ys : List ℕ) → Within xs ys → Within ys xs → (k : ℕ) → has xs k ≡ has ys k
same_has xs ys v w k = elim (cases_Bool (has ys k)) [ inl h ↦ w k h ∙ sym h | inr n ↦ within_not xs ys k v n ∙ sym n ]

-- what f makes of the numbers of a list
has_mapped : (f : ℕ → ℕ) (xs : List ℕ) (k : ℕ) → has xs k ≡ true → has (map f xs) (f k) ≡ true
unfolding any
has_mapped f [] k h = h
has_mapped f (x ∷ xs) k h = elim (cases_eq x k) [
  | inl e ↦ has_at (f x ∷ map f xs) (f x) (f k) (ap f e) (has_head (f x) (map f xs))
  | inr e ↦ has_tail (f x) (map f xs) (f k) (has_mapped f xs k (has_on x k xs e h))
]

within_mapped : (f : ℕ → ℕ) (xs ys : List ℕ) → Within xs ys → Within (map f xs) (map f ys)
unfolding any
within_mapped f [] ys w = λ k h. absurd (both_ways false refl h)
within_mapped f (x ∷ xs) ys w =
    within_more (f x) (map f xs) (map f ys) (has_mapped f ys x (w x (has_head x xs))) (within_mapped f xs ys (λ k h. w k (has_tail x xs k h)))

module _ (lo n : ℕ) where
  abbrev pub middle : List ℕ → List ℕ
  middle xs = take n (drop lo xs)

  middle_within : (xs ys : List ℕ) → SameEnds lo (lo + n) xs ys → distinct ys ≡ true → Within ys xs → Within (middle ys) (middle xs)
  middle_within xs ys s d w k h =
      let t = has_from_take n (drop lo ys) k h in
      let i = has_from_drop lo ys k t in
      let b = behind_from_drop lo ys k d t in
      let e = place_drop lo ys k b in
      let u = place_take n (drop lo ys) k h in
      let z = place_below (middle ys) k h in
      let c = inside lo (lo + n) xs ys k s d (w k i) b (omega (arith, length-take n (drop lo ys))) in
      let f = place_drop lo xs k c.0 in
      has_take n (drop lo xs) k (has_drop lo xs k (w k i) c.0) (omega (arith, c.1))

  pub same_middle : (f : ℕ → ℕ) (xs ys : List ℕ) → SameEnds lo (lo + n) xs ys → distinct xs ≡ true → distinct ys ≡ true → ((k : ℕ) → has xs k ≡ has ys k) →
      (k : ℕ) → has (map f (middle ys)) k ≡ has (map f (middle xs)) k
  same_middle f xs ys s d e same =
      same_has (map f (middle ys)) (map f (middle xs))
      (within_mapped f (middle ys) (middle xs) (middle_within xs ys s e (λ k h. same k ∙ h)))
      (within_mapped f (middle xs) (middle ys) (middle_within ys xs (record { front = sym s.front; rest = sym s.rest }) d (λ k h. sym (same k) ∙ h)))

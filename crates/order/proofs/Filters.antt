-- What a test says of a list: every, filter, distinct and same.
use Rattle.std.proofs.Common.{◌≡◌, ℕ, zero, suc, ◌<◌, Bool, true, false, ◌&&◌, ◌||◌, eqb, List, [], ◌∷◌, ◌++◌, take, refl, ap, arith}
use Rattle.std.proofs.lemmas.Bool.{eq-eqb, and_from, or_right}
use Rattle.order.specs.declared.board.Link.{Link}
use Rattle.order.specs.Lists.{every, any, filter, has, place, distinct, same}
use Rattle.order.proofs.Places.{has_append}

-- filter, and where what passes stands
pub has_filter : (f : ℕ → Bool) (xs : List ℕ) (k : ℕ) → has (filter f xs) k ≡ (f k && has xs k)
unfolding any filter
has_filter f [] k = grind arith
has_filter f (x ∷ xs) k = let ih = has_filter f xs k in grind arith

pub place_filter : (f : ℕ → Bool) (xs : List ℕ) (j k : ℕ) → f j ≡ true → f k ≡ true → place xs j < place xs k → place (filter f xs) j < place (filter f xs) k
unfolding place filter
place_filter f [] j k p q h = absurd (omega arith)
place_filter f (x ∷ xs) j k p q h = let ih = place_filter f xs j k p q in grind arith

pub place_from_filter : (f : ℕ → Bool) (xs : List ℕ) (j k : ℕ) → f j ≡ true → f k ≡ true → place (filter f xs) j < place (filter f xs) k → place xs j < place xs k
unfolding place filter
place_from_filter f [] j k p q l = l
place_from_filter f (x ∷ xs) j k p q l = let ih = place_from_filter f xs j k p q in grind arith

-- filters of two lists, and of filters
pub filter_append : {A : Type 0} (f : A → Bool) (xs ys : List A) → filter f (xs ++ ys) ≡ filter f xs ++ filter f ys
unfolding filter
filter_append f [] ys = refl
filter_append f (x ∷ xs) ys = let ih = filter_append f xs ys in grind arith

pub filter_again : {A : Type 0} (f : A → Bool) (xs : List A) → filter f (filter f xs) ≡ filter f xs
unfolding filter
filter_again f [] = refl
filter_again f (x ∷ xs) = let ih = filter_again f xs in grind arith

pub filter_none : {A : Type 0} (f g : A → Bool) → ((x : A) → g x ≡ true → f x ≡ false) → (xs : List A) → filter f (filter g xs) ≡ []
unfolding filter
filter_none f g no' [] = refl
filter_none f g no' (x ∷ xs) = let ih = filter_none f g no' xs in let n = no' x in grind arith

pub filter_within : (f g : ℕ → Bool) → ((k : ℕ) → f k ≡ true → g k ≡ true) → (xs : List ℕ) → filter f (filter g xs) ≡ filter f xs
unfolding filter
filter_within f g w [] = refl
filter_within f g w (x ∷ xs) = let ih = filter_within f g w xs in let k = w x in grind arith

pub filter_empty : (f : ℕ → Bool) (xs : List ℕ) → ((k : ℕ) → f k ≡ true → has xs k ≡ false) → filter f xs ≡ []
unfolding filter any
filter_empty f [] h = refl
filter_empty f (x ∷ xs) h =
    let i = eq-eqb x x refl in let hx = h x in
    let ih = filter_empty f xs (λ k e. let hk = h k e in grind arith) in
    grind arith

-- every, over links: each link passes, if each pair passes that a link joins
module _ (p : ℕ → ℕ → Bool) where
  pub every_at : (ls : List Link) (a b : ℕ) → every (λ l. p l.from l.to) ls ≡ true → any (λ l. eqb l.from a && eqb l.to b) ls ≡ true → p a b ≡ true
  unfolding every any
  every_at [] a b h e = grind arith
  every_at (l ∷ ls) a b h e = let ih = every_at ls a b in grind arith

  pub every_from : (ls : List Link) → ((a b : ℕ) → any (λ l. eqb l.from a && eqb l.to b) ls ≡ true → p a b ≡ true) → every (λ l. p l.from l.to) ls ≡ true
  unfolding every any
  every_from [] h = refl
  every_from (l ∷ ls) h =
      let ih = every_from ls (λ a b e. h a b (or_right (eqb l.from a && eqb l.to b) _ e)) in
      let k = h l.from l.to in
      grind arith

-- every, over any list
pub every_append : {A : Type 0} (f : A → Bool) (xs ys : List A) → every f (xs ++ ys) ≡ (every f xs && every f ys)
unfolding every
every_append f [] ys = refl
every_append f (x ∷ xs) ys = let ih = every_append f xs ys in grind arith

pub every_all : {A : Type 0} (f : A → Bool) → ((x : A) → f x ≡ true) → (xs : List A) → every f xs ≡ true
unfolding every
every_all f h [] = refl
every_all f h (x ∷ xs) = and_from _ _ (h x) (every_all f h xs)

pub every_has : (f : ℕ → Bool) (xs : List ℕ) (k : ℕ) → every f xs ≡ true → has xs k ≡ true → f k ≡ true
unfolding every any
every_has f [] k e h = grind arith
every_has f (x ∷ xs) k e h = let ih = every_has f xs k in grind arith

pub every_more : {A : Type 0} (f g : A → Bool) → ((x : A) → f x ≡ true → g x ≡ true) → (xs : List A) → every f xs ≡ true → every g xs ≡ true
unfolding every
every_more f g w [] h = refl
every_more f g w (x ∷ xs) h = let ih = every_more f g w xs in let k = w x in grind arith

pub every_filter_more : {A : Type 0} (f g h : A → Bool) → ((x : A) → f x ≡ true → g x ≡ true → h x ≡ true) → (xs : List A) →
    every f xs ≡ true → every h (filter g xs) ≡ true
unfolding every filter
every_filter_more f g h w [] e = refl
every_filter_more f g h w (x ∷ xs) e = let ih = every_filter_more f g h w xs in let k = w x in grind arith

pub every_weaker : (f g : ℕ → Bool) → ((k : ℕ) → f k ≡ true → g k ≡ true) → (xs : List ℕ) → every g (filter f xs) ≡ true
unfolding every filter
every_weaker f g w [] = refl
every_weaker f g w (x ∷ xs) = let ih = every_weaker f g w xs in let k = w x in grind arith

pub every_take : (f : ℕ → Bool) (n : ℕ) (xs : List ℕ) → every f xs ≡ true → every f (take n xs) ≡ true
unfolding every
every_take f zero xs e = refl
every_take f (suc n) [] e = refl
every_take f (suc n) (x ∷ xs) e = let ih = every_take f n xs in grind arith

-- same is equality
pub same_is : (xs ys : List ℕ) → same xs ys ≡ true → xs ≡ ys
unfolding same
same_is [] [] h = refl
same_is [] (y ∷ ys) h = grind arith
same_is (x ∷ xs) [] h = grind arith
same_is (x ∷ xs) (y ∷ ys) h = let ih = same_is xs ys in grind arith

pub same_itself : (xs : List ℕ) → same xs xs ≡ true
unfolding same
same_itself [] = refl
same_itself (x ∷ xs) = let ih = same_itself xs in grind arith

pub is_same : {xs ys : List ℕ} → xs ≡ ys → same xs ys ≡ true
is_same {xs} {ys} e = rw e (same_itself ys)

-- distinct
pub distinct_filter : (f : ℕ → Bool) (xs : List ℕ) → distinct xs ≡ true → distinct (filter f xs) ≡ true
unfolding distinct filter
distinct_filter f [] h = refl
distinct_filter f (x ∷ xs) h = let ih = distinct_filter f xs in let e = has_filter f xs x in grind arith

pub distinct_push : (xs : List ℕ) (k : ℕ) → distinct xs ≡ true → has xs k ≡ false → distinct (xs ++ k ∷ []) ≡ true
unfolding distinct any
distinct_push [] k h n = refl
distinct_push (x ∷ xs) k h n =
    let ih = distinct_push xs k in
    let e = has_append xs (k ∷ []) x in grind arith

-- distinct, if what each of three tests keeps is, and each number passes one
pub distinct_cover : (f g h : ℕ → Bool) → ((k : ℕ) → (f k || (g k || h k)) ≡ true) → (xs : List ℕ) →
    distinct (filter f xs) ≡ true → distinct (filter g xs) ≡ true → distinct (filter h xs) ≡ true → distinct xs ≡ true
unfolding distinct filter
distinct_cover f g h c [] p q s = refl
distinct_cover f g h c (x ∷ xs) p q s =
    let ih = distinct_cover f g h c xs in
    let e = c x in let ef = has_filter f xs x in let eg = has_filter g xs x in let eh = has_filter h xs x in
    grind arith

-- two lists of which a test keeps the same: what passes it is in both or in none, stands once, and stands in the same order
pub has_by_test : (f : ℕ → Bool) (xs ys : List ℕ) (k : ℕ) → filter f xs ≡ filter f ys → f k ≡ true → has xs k ≡ has ys k
has_by_test f xs ys k e h =
    let p = has_filter f xs k in let q = has_filter f ys k in
    let s = ap (λ zs. has zs k) e in
    grind arith

pub apart_by_test : (f : ℕ → Bool) (xs ys : List ℕ) → filter f xs ≡ filter f ys → distinct ys ≡ true → distinct (filter f xs) ≡ true
apart_by_test f xs ys e d = rw e (distinct_filter f ys d)

pub before_by_test : (f : ℕ → Bool) (xs ys : List ℕ) (x y : ℕ) → filter f ys ≡ filter f xs → f x ≡ true → f y ≡ true →
    place xs x < place xs y → place ys x < place ys y
before_by_test f xs ys x y e p q l = place_from_filter f ys x y p q (rw e (place_filter f xs x y p q l))

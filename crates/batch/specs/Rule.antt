-- A row made anew by a rule: again and again that card comes next which stands first, in the given row, of those to which no card is linked that hasn't
-- come yet. These are definitions: nothing is assumed.
--   waits ls left k        a card of `left`, which are those that haven't come yet, is linked to k
--   first_free ls left ks  the first of ks that doesn't wait
--   without ks k           ks without k
--   by_rule n ls left      the cards that come next by the rule, at most n of them; it ends sooner if all that are left wait
--   anew ls row            the cards of the row, as they come by the rule
--   Ruled ls left new      new has the cards of `left` as they come by the rule: each, when it comes, doesn't wait, and all that are left and stand before it
--                          in `left` do
--   sorted ks              ks in the order of the numbers
use Rattle.std.specs.Prelude.{◌≡◌, ℕ, zero, suc, ◌<◌, Bool, true, false, cond, not, ◌&&◌, List, [], ◌∷◌, length, Some, None, Option, ◌==◌, nat_le}
use Rattle.order.specs.declared.board.Link.{Link}
use Rattle.order.specs.Lists.{any, filter, has, place}
use Rattle.memory.specs.Options.{given}

abbrev pub waits : List Link → List ℕ → ℕ → Bool
waits ls left k = any (λ l. (l.to == k) && has left l.from) ls

unfoldable pub first_free : List Link → List ℕ → List ℕ → Option ℕ
first_free ls left [] = None
first_free ls left (k ∷ ks) = cond (waits ls left k) (first_free ls left ks) (Some k)

abbrev pub without : List ℕ → ℕ → List ℕ
without ks k = filter (λ j. not (j == k)) ks

unfoldable pub by_rule : ℕ → List Link → List ℕ → List ℕ
by_rule zero ls left = []
by_rule (suc n) ls left = given (first_free ls left left) [] (λ k. k ∷ by_rule n ls (without left k))

abbrev pub anew : List Link → List ℕ → List ℕ
anew ls row = by_rule (length row) ls row

unfoldable pub Ruled : List Link → List ℕ → List ℕ → Type 0
Ruled ls left [] = left ≡ []
Ruled ls left (k ∷ ks) =
    (has left k ≡ true) × (waits ls left k ≡ false) × ((j : ℕ) → has left j ≡ true → place left j < place left k → waits ls left j ≡ true)
    × Ruled ls (without left k) ks

unfoldable pub put_in : ℕ → List ℕ → List ℕ
put_in k [] = k ∷ []
put_in k (j ∷ js) = cond (nat_le k j) (k ∷ j ∷ js) (j ∷ put_in k js)

unfoldable pub sorted : List ℕ → List ℕ
sorted [] = []
sorted (k ∷ ks) = put_in k (sorted ks)

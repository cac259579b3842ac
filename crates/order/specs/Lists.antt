-- Words on lists. These are definitions: nothing is assumed.
--   every f xs        each of xs passes the test f
--   any f xs          some of xs passes the test f
--   filter f xs       those of xs that pass the test f, in their order
--   has ks k          k is one of ks
--   place ks k        how many of ks stand before the first k; all of them, if there is no k
--   distinct ks       no number stands in ks twice
--   same ks js        the two lists are equal
--   with_all js ks    ks, and behind it each of js that isn't there yet
--   flat f xs         the lists that f gives for each of xs, one behind the other
use Rattle.std.specs.Prelude.{ℕ, suc, Bool, true, false, cond, not, ◌&&◌, ◌||◌, List, [], ◌∷◌, ◌++◌, ◌==◌, nat_eq}

unfoldable pub every : {A : Type 0} → (A → Bool) → List A → Bool
every f [] = true
every f (x ∷ xs) = f x && every f xs

unfoldable pub any : {A : Type 0} → (A → Bool) → List A → Bool
any f [] = false
any f (x ∷ xs) = f x || any f xs

unfoldable pub filter : {A : Type 0} → (A → Bool) → List A → List A
filter f [] = []
filter f (x ∷ xs) = cond (f x) (x ∷ filter f xs) (filter f xs)

abbrev pub has : List ℕ → ℕ → Bool
has ks k = any (nat_eq k) ks

unfoldable pub place : List ℕ → ℕ → ℕ
place [] k = 0
place (j ∷ js) k = cond (j == k) 0 (suc (place js k))

unfoldable pub distinct : List ℕ → Bool
distinct [] = true
distinct (k ∷ ks) = not (has ks k) && distinct ks

unfoldable pub same : List ℕ → List ℕ → Bool
same [] [] = true
same [] (j ∷ js) = false
same (k ∷ ks) [] = false
same (k ∷ ks) (j ∷ js) = k == j && same ks js

unfoldable pub with_all : List ℕ → List ℕ → List ℕ
with_all [] ks = ks
with_all (j ∷ js) ks = with_all js (cond (has ks j) ks (ks ++ j ∷ []))

unfoldable pub flat : (ℕ → List ℕ) → List ℕ → List ℕ
flat f [] = []
flat f (x ∷ xs) = f x ++ flat f xs

-- Links of which none is there twice.
use Rattle.std.proofs.Common.{◌≡◌, ℕ, Bool, true, false, not, ◌&&◌, eqb, List, [], ◌∷◌, ◌++◌, reverse, refl, arith}
use Rattle.std.specs.List.{list_any}
use Rattle.std.proofs.lemmas.Bool.Decides.{nat_tests}
use mathlib.Core.List.{reverse-cons}
use Rattle.order.specs.declared.board.Link.{Link}
use Rattle.order.specs.Lists.{any, filter as kept}
use Rattle.links.specs.Pairs.{joins}
use Rattle.links.specs.Table.{Entry, once, listed, others}
use Rattle.links.specs.Laws.{StaysOnce}
use Rattle.links.proofs.Pairing.{joins_is}
use Rattle.links.proofs.Filtering.{any_append, any_reverse, any_less, kept_all, filter_absent}
use Rattle.links.proofs.Parting.{Apart}
use Rattle.links.proofs.Telling.{links_of}

joins_turned : (x y : Link) → joins x y ≡ joins y x
joins_turned x y = grind (arith, nat_tests)

once_more : (xs : List Link) (x : Link) → once xs ≡ true → any (joins x) xs ≡ false → once (xs ++ x ∷ []) ≡ true
unfolding once any
once_more [] x h k = refl
once_more (y ∷ xs) x h k = let ih = once_more xs x in let a = any_append (joins y) xs (x ∷ []) in let s = joins_turned x y in grind arith

once_less : (p : Link → Bool) (xs : List Link) → once xs ≡ true → once (kept p xs) ≡ true
unfolding once kept any
once_less p [] h = refl
once_less p (x ∷ xs) h = let ih = once_less p xs in let n = any_less p (joins x) xs in grind arith

pub stays_once : StaysOnce
unfolding StaysOnce once
stays_once = (refl, once_more, once_less)

-- the other way round
once_front : (xs : List Link) (x : Link) → once (xs ++ x ∷ []) ≡ true → (once xs && not (any (joins x) xs)) ≡ true
unfolding once any
once_front [] x h = refl
once_front (y ∷ xs) x h = let ih = once_front xs x in let a = any_append (joins y) xs (x ∷ []) in let s = joins_turned x y in grind arith

pub once_turned : (xs : List Link) → once (reverse xs) ≡ true → once xs ≡ true
unfolding once
once_turned [] h = refl
once_turned (x ∷ xs) h =
    let ih = once_turned xs in let f = once_front (reverse xs) x in let e = reverse-cons x xs in let a = any_reverse (joins x) xs in grind arith

-- a link that is there once goes with its entry
abbrev pub at_entry : ℕ → Link → List Entry → Bool
at_entry e x L = list_any (λ y. eqb y.number e && joins x y.link) L

pub at_listed : (e : ℕ) (x : Link) (L : List Entry) → at_entry e x L ≡ true → (listed e L && any (joins x) (links_of L)) ≡ true
unfolding any
at_listed e x [] h = cc
at_listed e x (y ∷ L) h = let ih = at_listed e x L in grind arith

pub entry_less : (e : ℕ) (x : Link) (L : List Entry) → Apart L ≡ true → once (links_of L) ≡ true → at_entry e x L ≡ true
    → links_of (others e L) ≡ kept (λ y. not (joins x y)) (links_of L)
unfolding once kept any
entry_less e x [] d o h = cc
entry_less e x (y ∷ L) d o h =
    let ih = entry_less e x L in let a = at_listed e x L in let f = filter_absent (λ (z : Entry). eqb z.number e) L in
    let k = kept_all (joins x) (links_of L) in let j = joins_is x y.link in grind (arith, nat_tests)

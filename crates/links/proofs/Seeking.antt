-- A link is found at its entry, if it is there.
use Rattle.std.proofs.Common.{◌≡◌, ℕ, true, false, List, [], ◌∷◌, is_some, Some, Option, refl, arith}
use Rattle.std.specs.List.{list_all, list_any}
use Rattle.std.proofs.lemmas.Bool.Decides.{nat_tests}
use Rattle.order.specs.declared.board.Link.{Link}
use Rattle.order.specs.Lists.{any, every}
use Rattle.links.specs.Pairs.{is_between, pair, bucket, joins}
use Rattle.links.specs.Entries.{sought}
use Rattle.links.specs.Table.{Entry, part}
use Rattle.links.proofs.Pairing.{pair_joins, joins_is}
use Rattle.links.proofs.Onces.{at_entry}

module _ (x : Link) (b : is_between x ≡ true) where
  -- an entry of the bucket whose label is the pair has the link, and each entry that has it is there
  abbrev there : List Entry → Option ℕ
  there L = sought (pair x) (part bucket pair L (bucket x))

  pub there_is : (L : List Entry) → list_all (λ y. is_between y.link) L ≡ true → is_some (there L) ≡ list_any (λ y. joins x y.link) L
  there_is [] a = refl
  there_is (y ∷ L) a = let ih = there_is L in let s = pair_joins x y.link b in let j = joins_is x y.link in grind (arith, nat_tests)

  pub there_at : (L : List Entry) (e : ℕ) → list_all (λ y. is_between y.link) L ≡ true → there L ≡ Some e → at_entry e x L ≡ true
  there_at [] e a h = cc
  there_at (y ∷ L) e a h = let ih = there_at L e in let s = pair_joins x y.link b in let j = joins_is x y.link in grind (arith, nat_tests)

-- what joins slots that are none is not there
pub none_outside : (x : Link) (xs : List Link) → is_between x ≡ false → every is_between xs ≡ true → any (joins x) xs ≡ false
unfolding any every
none_outside x [] b a = refl
none_outside x (y ∷ xs) b a = let ih = none_outside x xs in let j = joins_is x y in grind (arith, nat_tests)

-- Pairs of slots in one number.
use Rattle.std.proofs.Common.{◌≡◌, ℕ, ◌+◌, ◌*◌, ◌/◌, ◌%◌, ◌<◌, true, eqb, ap₂, arith}
use Rattle.std.proofs.lemmas.Bool.Decides.{nat_tests}
use Rattle.order.specs.declared.board.TheConstants.{CARDS}
use Rattle.order.specs.declared.board.Link.{Link}
use Rattle.order.specs.Board.{◌⟶◌}
use Rattle.chains.specs.declared.cells.TheConstants.{LABELS}
use Rattle.links.specs.declared.layout.TheConstants.{BUCKETS}
use Rattle.links.specs.Pairs.{is_between, pair, unpair, bucket, joins}

pub between_parts : (x : Link) → is_between x ≡ true → (x.from < CARDS) × (x.to < CARDS)
between_parts x b = (grind (arith, nat_tests), grind (arith, nat_tests))

module _ (a b : ℕ) (i : a < CARDS) (j : b < CARDS) where
  first_is : (a % CARDS * CARDS + b % CARDS) / CARDS ≡ a
  first_is = omega arith

  second_is : (a % CARDS * CARDS + b % CARDS) % CARDS ≡ b
  second_is = omega arith

pub unpair_pair : (x : Link) → is_between x ≡ true → unpair (pair x) ≡ x
unfolding pair unpair
unpair_pair x b = let p = between_parts x b in ap₂ (λ (s t : ℕ). s ⟶ t) (first_is x.from x.to p.0 p.1) (second_is x.from x.to p.0 p.1)

pub pair_label : (x : Link) → pair x < LABELS
unfolding pair
pair_label x = omega arith

pub bucket_below : (x : Link) → bucket x < BUCKETS
unfolding bucket
bucket_below x = omega arith

pub joins_is : (x y : Link) → joins x y ≡ true → y ≡ x
joins_is x y h = ap₂ (λ (s t : ℕ). s ⟶ t) (grind (arith, nat_tests)) (grind (arith, nat_tests))

-- pairs are the same where links are
pub pair_joins : (x y : Link) → is_between x ≡ true → is_between y ≡ true → eqb (pair y) (pair x) ≡ joins x y
pair_joins x y a b = let i = joins_is x y in let s = unpair_pair x a in let t = unpair_pair y b in grind (arith, nat_tests)

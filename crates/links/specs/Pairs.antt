-- The slots of a link in one number.
--
--   is_between x   the link is between slots
--   pair x         both slots in one number
--   unpair n       the link between the slots of such a number
--   bucket x       the bucket that the link is looked for in
--   joins x y      y is between the same slots as x
use Rattle.std.specs.Prelude.{ℕ, ◌+◌, ◌*◌, ◌/◌, ◌%◌, ◌^◌, Bool, ◌&&◌, ◌==◌, nat_lt}
use Rattle.order.specs.declared.board.TheConstants.{CARDS}
use Rattle.order.specs.declared.board.Link.{Link}
use Rattle.order.specs.Board.{◌⟶◌}
use Rattle.links.specs.declared.pairs.TheConstants.{SPREAD}
use Rattle.links.specs.declared.layout.TheConstants.{BUCKET}

abbrev pub is_between : Link → Bool
is_between x = nat_lt x.from CARDS && nat_lt x.to CARDS

unfoldable pub pair : Link → ℕ
pair x = x.from % CARDS * CARDS + x.to % CARDS

unfoldable pub unpair : ℕ → Link
unpair n = n / CARDS ⟶ n % CARDS

unfoldable pub bucket : Link → ℕ
bucket x = pair x * SPREAD % 2 ^ 64 / BUCKET

abbrev pub joins : Link → Link → Bool
joins x y = y.from == x.from && y.to == x.to

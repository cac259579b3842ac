-- The way that is shown, as the code goes.
--
--   trail next n e s    the slots from s on, each followed by its next, up to e, at most n of them
--   way next n l j      the slots from l's second card to its first, by the link j: a trail turned round, and a trail; at most n of them
--   over m ks n out     `out` with the numbers of the cards of the slots ks, n of them, at its front
--   shown m l j out     the numbers of the cards of the way, at most CARDS; none if `out` hasn't room for so many
--   ShownSo ks out      what is shown is the cards ks: how many they are, and the output, whose front they were written to
use Rattle.std.specs.Prelude.{◌≡◌, ℕ, zero, suc, ◌-◌, cond, List, [], ◌∷◌, ◌++◌, map, reverse, length, drop, ◌==◌, nat_le}
use Rattle.order.specs.declared.board.TheConstants.{CARDS}
use Rattle.order.specs.declared.board.Link.{Link}
use Rattle.memory.specs.Columns.{cell}
use Rattle.row.specs.declared.layout.TheConstants.{IDS}
use Rattle.search.specs.declared.layout.TheConstants.{VIA}

unfoldable pub trail : (ℕ → ℕ) → ℕ → ℕ → ℕ → List ℕ
trail next zero e s = []
trail next (suc n) e s = s ∷ cond (s == e) [] (trail next n e (next s))

unfoldable pub way : (ℕ → ℕ) → ℕ → Link → Link → List ℕ
way next n l j =
    reverse (trail next n l.to j.from) ++ trail next (n - length (trail next n l.to j.from)) l.from j.to

abbrev pub over : List ℕ → List ℕ → ℕ → List ℕ → List ℕ
over m ks n out = map (cell m IDS) ks ++ drop n out

unfoldable pub shown : List ℕ → Link → Link → List ℕ → List ℕ
shown m l j out = cond (nat_le CARDS (length out)) (map (cell m IDS) (way (cell m VIA) CARDS l j)) []

pub record ShownSo (ks out₀ : List ℕ) (n : ℕ) (out₁ : List ℕ) : Type 0 where
  pub count : n ≡ length ks
  pub out : out₁ ≡ ks ++ drop n out₀

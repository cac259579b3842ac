-- Zeros are a row, with no cards.
use Rattle.std.proofs.Common.{◌≡◌, ℕ, zero, suc, ◌+◌, ◌/◌, ◌≤◌, true, false, List, [], length, get_or, replicate, sym, refl, ap, ◌∙◌, arith}
use lib.ListN.{length-replicate}
use Rattle.std.proofs.lemmas.Bool.{both_ways}
use Rattle.std.proofs.lemmas.Bool.Decides.{nat_tests}
use Rattle.order.specs.Lists.{any, distinct, filter}
use Rattle.memory.specs.declared.column.TheConstants.{MEMORY}
use Rattle.memory.specs.declared.column.Column.{Column}
use Rattle.memory.specs.Columns.{cell}
use Rattle.row.specs.declared.layout.TheConstants.{COUNT, ENDING, FRESH, FREE, CHAIN, SEATS, TAKEN}
use Rattle.row.specs.Meaning.{listed, amount, in_use, ending, taken, cards, used, IsRow}
use Rattle.row.specs.Theory.{Begins}
use Rattle.row.proofs.Listing.{amount_none}
use Rattle.row.proofs.Words.{taken_bit}
use Rattle.memory.proofs.Naming.{bit_empty}

none_in : (n i : ℕ) → get_or {A = ℕ} (replicate n 0) i 0 ≡ 0
none_in zero i = refl
none_in (suc n) zero = refl
none_in (suc n) (suc i) = none_in n i

pub cell_zeros : (n : ℕ) (c : Column) (i : ℕ) → cell (replicate n 0) c i ≡ 0
unfolding cell
cell_zeros n c i = let e = none_in n (c.base + i) in grind (arith, nat_tests)

-- a memory of zeros, long enough
module _ (m : List ℕ) (long : TAKEN.base + TAKEN.size ≤ length m) (z : (c : Column) (i : ℕ) → cell m c i ≡ 0) where
  none_taken : (p : ℕ) → taken m p ≡ false
  none_taken p = taken_bit m p ∙ bit_empty m TAKEN p (z TAKEN (p / 64))

  no : (p : ℕ) → taken m p ≡ true → ⊥
  no p y = both_ways (taken m p) (none_taken p) y

  none_used : (s : ℕ) → used m s ≡ false
  unfolding in_use
  none_used s = let t = none_taken (cell m SEATS s) in grind arith

  unused : (s : ℕ) → used m s ≡ true → ⊥
  unused s y = both_ways (used m s) (none_used s) y

  end_zero : ending m ≡ 0
  end_zero = let e = z ENDING 0 in omega arith

  pub zeros_row : IsRow m
  unfolding any distinct
  zeros_row = record {
    long = long;
    stands = record {
      seated = record {
        counts = z COUNT 0 ∙ sym (ap (amount (taken m)) end_zero ∙ amount_none (taken m));
        below = λ p y. absurd (no p y);
        low = λ p y. absurd (no p y);
        seat_of = λ p y. absurd (no p y);
      };
      one_slot = λ s t u v e. absurd (unused s u);
      chains = record { of = λ b. []; spells = λ b l. z CHAIN b; once = λ b l. refl; holds = λ b s l. rw (none_used s) };
      freed = record {
        stack = [];
        stacked = z FREE 0;
        once = refl;
        unused = λ s h. absurd (both_ways false refl h);
        early = λ s y. absurd (unused s y);
        all = let a = z COUNT 0 in let b = z FRESH 0 in omega arith;
        few = let b = z FRESH 0 in omega arith;
      };
    };
  }

  pub zeros_cards : cards m ≡ []
  unfolding listed filter
  zeros_cards = rw end_zero

begins_at : (n : ℕ) → TAKEN.base + TAKEN.size ≤ n → IsRow (replicate n 0) × (cards (replicate n 0) ≡ [])
begins_at n h =
    let l : TAKEN.base + TAKEN.size ≤ length {A = ℕ} (replicate n 0) = omega (arith, length-replicate {A = ℕ} n 0) in
    (zeros_row (replicate n 0) l (cell_zeros n), zeros_cards (replicate n 0) l (cell_zeros n))

pub begins : Begins
begins = begins_at MEMORY (omega arith)

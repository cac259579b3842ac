-- THE THEOREM: the keeper's engine meets the promise, and its firmer sister within three steps.
use Rattle.std.proofs.Common.{◌≡◌, ℕ, ◌+◌, ◌≤◌, true, List, [], ◌∷◌, map, length, replicate, sym, refl, ap, subst, arith}
use lib.ListN.{length-replicate}
use Rattle.order.specs.Lists.{every, distinct}
use Rattle.order.specs.Board.{Board, fine}
use Rattle.order.specs.Renaming.{renamed}
use Rattle.command.specs.declared.command.Command.{Command}
use Rattle.command.specs.declared.command.Command.TheVariants.{Comes, Goes, Link as Links, Unlink as Unlinks, Places}
use Rattle.memory.specs.declared.column.TheConstants.{MEMORY}
use Rattle.memory.specs.Columns.{cell}
use Rattle.row.specs.declared.layout.TheConstants.{IDS}
use Rattle.row.specs.Meaning.{row_of, IsRow}
use Rattle.row.proofs.Beginning.{begins, cell_zeros}
use Rattle.links.specs.Table.{edges, once, IsTable}
use Rattle.links.specs.Laws.{Begins}
use Rattle.links.proofs.Beginning.{begins as links_begin}
use Rattle.search.specs.Columns.{FreshMemory}
use Rattle.search.specs.Meaning.{slot_board}
use Rattle.search.specs.SettleLaws.{Unmarked}
use Rattle.search.proofs.Zeros.{fresh_memory}
use Rattle.keeper.specs.declared.layout.TheConstants.{PENDING, MORE_TO}
use Rattle.keeper.specs.Answers.{pending}
use Rattle.keeper.specs.Promise.{empty, Whole, small_command}
use Rattle.keeper.specs.Sister.{WholeIn}
use Rattle.keeper.specs.Own.{own}
use Rattle.keeper.specs.Meaning.{card_board, Means}
use Rattle.keeper.proofs.Carrying.{ready_of, board_of}
use Rattle.keeper.proofs.Simulation.{StepKept, Kept, whole_in, soon_is_more}
use Rattle.keeper.proofs.Fitting.{written_says}
use Rattle.keeper.proofs.OwnSize.{own_steady, own_fits}
use Rattle.keeper.proofs.Cards.{comes_means, goes_means, places_means}
use Rattle.keeper.proofs.Unlinking.{unlinks_means}
use Rattle.keeper.proofs.Moving.{links_means}

-- each command, from the board that the memory means on
each : (m : List ℕ) (c : Command) → Means m (card_board m) → small_command c ≡ true → StepKept own 3 Means m (card_board m) c
each m (Comes k) M sm = comes_means m M k sm
each m (Goes k) M sm = goes_means m M k sm
each m (Links l) M sm = links_means m M l sm
each m (Unlinks l) M sm = unlinks_means m M l sm
each m (Places a b) M sm = places_means m M a b sm

pub kept : Kept own 3 Means
kept m r c l a M f sm = subst (λ (x : Board). StepKept own 3 Means m x c) (sym M.is) (each m c (subst (Means m) M.is M) sm)

-- a memory with no cards and no links means the empty board
module _ (m : List ℕ) (r : IsRow m) (t : IsTable m) (u : Unmarked m) (l : MORE_TO.base + MORE_TO.size ≤ length m) (z : row_of m ≡ []) (none : edges m ≡ [])
    (p : pending m ≡ 0) where
  is_empty : slot_board m ≡ empty
  is_empty = board_of z none

  pub empty_means : Means m empty
  unfolding every distinct once
  empty_means = record {
    ready = ready_of m r t u (subst (λ (b : Board). fine b ≡ true) (sym is_empty) refl);
    single = ap once none;
    long = l;
    idle = p;
    is = ap (renamed (cell m IDS)) (sym is_empty);
  }

-- so zeros do
no_slots : (f : ℕ → ℕ) (xs : List ℕ) → map f xs ≡ [] → xs ≡ []
no_slots f [] e = refl
no_slots f (x ∷ xs) e = cc

long_at : (n : ℕ) → MORE_TO.base + MORE_TO.size ≤ n → MORE_TO.base + MORE_TO.size ≤ length {A = ℕ} (replicate n 0)
long_at n h = omega (arith, length-replicate {A = ℕ} n 0)

pub at_start : Means (replicate MEMORY 0) empty
unfolding Begins FreshMemory
at_start =
    let f = fresh_memory in
    let l = links_begin.1 MEMORY (omega arith) in
    empty_means (replicate MEMORY 0) begins.0 l.0 (record { fore_summed = f.0; hind_summed = f.1; fore_none = f.2; hind_none = f.3 })
    (long_at MEMORY (omega arith)) (no_slots (cell (replicate MEMORY 0) IDS) (row_of (replicate MEMORY 0)) begins.1) l.1 (cell_zeros MEMORY PENDING 0)

pub whole_in_own : WholeIn 3 own
whole_in_own = whole_in own 3 Means own_steady kept at_start

pub whole_own : Whole own
whole_own = soon_is_more 3 own whole_in_own

-- so the steps whose numbers are all written are the engine's
pub ruleset engine_steps = (written_says, whole_own, whole_in_own, own_fits)

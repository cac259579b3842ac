-- The table's operations, as the code goes.
--
--   live m, used m     how many links there are, how many entries were ever in use
--   free_entry m       the entry for the next link, if one is left; taken m: the memory after it was taken
--   hung m x e         the memory after the entry e, with the link x, came in front of its chains
--   freed m e          the memory after an entry was taken out of the chains of pairs and of ages, and given back
--   inserted m x       the memory after a link was put in
--   sought n xs        the first entry of a chain whose label is n
--   looked_up m x      the entry that the chains have for a link; in a garbage memory it may be past the last
--   found m x          the entry of a link; past the last it is cut off
--   Outcome            what an operation answers, and the memory after it; refused m e: refused, and nothing changed
--   removed m x        a link taken out; its entry is told as `found` has it
--   dropped f F G m p  the memory after f entries of a chain of F, from the place p on, were given back and taken out of their chains of G
--   emptied F G m s    the same for all of the chain of s, which is empty then
--   removed_all m s    the memory after all links out of a slot and into it were taken out
use Rattle.std.specs.Prelude.{ℕ, zero, suc, ◌+◌, ◌-◌, ◌^◌, ◌%◌, min, cond, List, Some, None, Option, Ok, Err, Result, ◌==◌, nat_lt}
use Rattle.std.specs.Option.{option_map}
use Rattle.std.specs.List.{find}
use Rattle.memory.specs.Columns.{cell, written}
use Rattle.memory.specs.Options.{given}
use Rattle.order.specs.declared.board.TheConstants.{CARDS}
use Rattle.order.specs.declared.board.Link.{Link}
use Rattle.order.specs.declared.board.Refusal.{Refusal}
use Rattle.order.specs.declared.board.Refusal.TheVariants.{Missing}
use Rattle.chains.specs.declared.cells.Pointer.{Pointer}
use Rattle.chains.specs.declared.chain_table.ChainTable.{ChainTable}
use Rattle.chains.specs.Tables.{node, pushed, unhooked, cleared}
use Rattle.chains.specs.Walks.{met, walked}
use Rattle.links.specs.declared.layout.TheConstants.{ENTRIES, LIVE, USED, OUT, IN, AGE, ALL, FREE, PAIR}
use Rattle.links.specs.Pairs.{is_between, pair, bucket}

abbrev pub live : List ℕ → ℕ
live m = cell m LIVE 0

abbrev pub used : List ℕ → ℕ
used m = cell m USED 0

unfoldable pub free_entry : List ℕ → Option ℕ
free_entry m = given (met AGE m FREE) (cond (nat_lt (used m) ENTRIES) (Some (used m + 1)) None) (λ x. Some x.held)

unfoldable pub taken : List ℕ → List ℕ
taken m = given (met AGE m FREE) (cond (nat_lt (used m) ENTRIES) (written m USED 0 (used m + 1)) m) (λ x. unhooked AGE m x.held)

abbrev pub pointer : ℕ → ℕ → Pointer
pointer e n = record { held = e; label = n }

unfoldable pub hung : List ℕ → Link → ℕ → List ℕ
hung m x e =
    pushed PAIR
    (pushed AGE (pushed IN (pushed OUT m x.from (pointer e x.to)) x.to (pointer e x.from)) ALL (pointer e (pair x)))
    (bucket x) (pointer e (pair x))

abbrev pub shelved : List ℕ → ℕ → List ℕ
shelved m e = pushed AGE (unhooked AGE (unhooked PAIR m e) e) FREE (pointer e 0)

unfoldable pub freed : List ℕ → ℕ → List ℕ
freed m e = written (shelved m e) LIVE 0 (live (shelved m e) - 1)

abbrev pub counted : List ℕ → List ℕ
counted m = written m LIVE 0 ((live m + 1) % 2 ^ 64)

unfoldable pub inserted : List ℕ → Link → List ℕ
inserted m x = cond (is_between x) (given (free_entry m) (taken m) (λ e. counted (hung (taken m) x e))) m

abbrev pub sought : ℕ → List Pointer → Option ℕ
sought n xs = option_map (λ q. q.held) (find (λ q. q.label == n) xs)

unfoldable pub looked_up : List ℕ → Link → Option ℕ
looked_up m x = cond (is_between x) (sought (pair x) (walked ENTRIES PAIR m (bucket x))) None

unfoldable pub found : List ℕ → Link → Option ℕ
found m x = option_map (λ e. min e ENTRIES) (looked_up m x)

pub record Outcome : Type 0 where
  pub answer : Result ℕ Refusal
  pub memory : List ℕ

abbrev pub refused : List ℕ → Refusal → Outcome
refused m e = record { answer = Err e; memory = m }

unfoldable pub removed : List ℕ → Link → Outcome
removed m x =
    given (looked_up m x) (refused m Missing) (λ e. record { answer = Ok (min e ENTRIES); memory = freed (unhooked IN (unhooked OUT m e) e) e })

unfoldable pub dropped : ℕ → ChainTable → ChainTable → List ℕ → ℕ → List ℕ
dropped zero F G m p = m
dropped (suc f) F G m p = given (met F m p) m (λ x. dropped f F G (freed (unhooked G m x.held) x.held) (node F x.held))

unfoldable pub emptied : ChainTable → ChainTable → List ℕ → ℕ → List ℕ
emptied F G m s = cleared F (dropped ENTRIES F G m s) s

unfoldable pub removed_all : List ℕ → ℕ → List ℕ
removed_all m s = cond (nat_lt s CARDS) (emptied IN OUT (emptied OUT IN m s) s) m

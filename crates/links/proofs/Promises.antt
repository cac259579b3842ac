-- What the contracts of the operations say.
use Rattle.std.proofs.Common.{◌≡◌, ℕ, List, Option, Result, ap}
use Rattle.order.specs.declared.board.Link.{Link}
use Rattle.order.specs.declared.board.Refusal.{Refusal}
use Rattle.links.specs.Entries.{live, inserted, found, Outcome, removed, removed_all}
use Rattle.links.specs.Laws.{Counts, Inserts, Finds, Removes, RemovesAll}
use Rattle.links.proofs.Operating.{counts, counts_few, all_between, inserts_table, inserts_edges, finds, finds_at, removes_table, removes_edges, removes_ok, removes_missing, removes_all_table, removes_all_edges}
use Rattle.links.proofs.Writing.{out_emptied_writes, in_emptied_writes}
use Rattle.memory.proofs.Footprints.{same, on, footprints}

pub counted : (m : List ℕ) (n : ℕ) → n ≡ live m → Counts m n
unfolding Counts
counted m n e h = rw e (counts m h, counts_few m h, all_between m h)

pub inserts : (m m' : List ℕ) (x : Link) → m' ≡ inserted m x → Inserts m x m'
unfolding Inserts
inserts m m' x e h = rw e (inserts_table m x h, inserts_edges m x h)

pub finds_so : (m : List ℕ) (x : Link) (o : Option ℕ) → o ≡ found m x → Finds m x o
unfolding Finds
finds_so m x o e h = rw e (finds m x h, finds_at m x h)

pub removes : (m m' : List ℕ) (x : Link) (r : Result ℕ Refusal) → r ≡ (removed m x).answer → m' ≡ (removed m x).memory → Removes m x r m'
unfolding Removes
removes m m' x r a b h o = rw (a, b) (
  removes_table m x h,
  removes_edges m x h o,
  removes_ok m x h,
  λ n. let e = removes_missing m x h n in (ap (λ (q : Outcome). q.answer) e, ap (λ (q : Outcome). q.memory) e),
)

pub removes_all : (m m' : List ℕ) (s : ℕ) → m' ≡ removed_all m s → RemovesAll m s m'
unfolding RemovesAll
removes_all m m' s e h = rw e (removes_all_table m s h, removes_all_edges m s h)

pub ruleset inserting = (inserts, footprints)

pub ruleset removing = (removes, footprints)

pub ruleset removing_all = (removes_all, out_emptied_writes, in_emptied_writes, same, on)

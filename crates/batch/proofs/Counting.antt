-- All links counted: for each slot, how many go into it, and how many come out of it.
use Rattle.std.proofs.Common.{◌≡◌, ℕ, ◌+◌, ◌-◌, ◌/◌, ◌%◌, ◌^◌, ◌<◌, ◌≤◌, min, Bool, true, not, eqb, ltb, List, [], ◌∷◌, map, reverse, length, sym, refl, ap, ◌∙◌, inl, inr, arith}
use lib.ListN.{length-map}
use Rattle.std.specs.List.{fold}
use Rattle.std.proofs.lemmas.List.{length-reverse}
use Rattle.std.proofs.lemmas.Bool.{cases_eq, eq-eqb, ne_eqb, ltb-true, and_parts}
use Rattle.order.specs.declared.board.TheConstants.{CARDS}
use Rattle.order.specs.declared.board.Link.{Link}
use Rattle.order.specs.Lists.{any, filter}
use Rattle.memory.specs.declared.column.Column.{Column}
use Rattle.memory.specs.Columns.{cell, wiped}
use Rattle.memory.specs.Footprints.{Writes}
use Rattle.memory.proofs.Cells.{cell_same, cell_other}
use Rattle.memory.proofs.Footprints.{on}
use Rattle.links.specs.declared.layout.TheConstants.{ENTRIES, AGE, ALL}
use Rattle.links.specs.Pairs.{is_between, pair}
use Rattle.links.specs.Table.{edges, IsTable}
use Rattle.links.proofs.Giving.{age_gives}
use Rattle.links.proofs.Keeping.{table_kept, edges_kept}
use Rattle.links.proofs.Operating.{counts as live_counts, counts_few, all_between}
use Rattle.batch.specs.declared.layout.TheConstants.{WAITS, LEAVES}
use Rattle.batch.specs.Renewing.{raised, counted, cleared, counts}
use Rattle.batch.proofs.Many.{many, one, many_cons, many_any, many_map, many_reverse, many_within}
use Rattle.batch.proofs.LinkByLink.{along_fold}
use Rattle.batch.proofs.Saving.{wiped_writes, wiped_in}
use Rattle.batch.proofs.Writing.{raised_writes, counting, counted_writes, cleared_writes, counts_writes}

-- the links that go into a slot, and those that come out of it
abbrev pub to_it : ℕ → Link → Bool
to_it t y = eqb y.to t

abbrev pub from_it : ℕ → Link → Bool
from_it s y = eqb y.from s

-- the same of a pair of slots in one number
abbrev into : ℕ → ℕ → Bool
into t n = eqb (n % CARDS) t

abbrev out_of : ℕ → ℕ → Bool
out_of s n = eqb (n / CARDS) s

raised_is : (m : List ℕ) (c : Column) (s x : ℕ) → x < c.size → c.base + c.size ≤ length m → cell m c x < 2 ^ 64 - 1 →
    cell (raised m c s) c x ≡ cell m c x + one (eqb s x)
unfolding raised
raised_is m c s x h l u = elim (cases_eq s x) [
  | inl e ↦ rw (e, eq-eqb x x refl) (cell_same m c x (min (cell m c x + 1) (2 ^ 64 - 1)) h (omega arith) ∙ (omega arith))
  | inr e ↦ rw (ne_eqb s x e) (cell_other m c s x (min (cell m c s + 1) (2 ^ 64 - 1)) (λ z. e (sym z)) ∙ (omega arith))
]

one_few : (t : Bool) → one t ≤ 1
one_few t = grind arith

-- each of a list is counted for a slot that had no more than b
module _ (s : ℕ) (low : s < CARDS) where
  counted_all : (xs n : List ℕ) (b : ℕ) → LEAVES.base + LEAVES.size ≤ length n → b + length xs < 2 ^ 64 - 1 → cell n WAITS s ≤ b → cell n LEAVES s ≤ b →
      (cell (fold counted n xs) WAITS s ≡ cell n WAITS s + many (into s) xs) × (cell (fold counted n xs) LEAVES s ≡ cell n LEAVES s + many (out_of s) xs)
  unfolding filter counted
  counted_all [] n b l u w v = (omega arith, omega arith)
  counted_all (x ∷ xs) n b l u w v =
      let k = raised n WAITS (x % CARDS) in
      let a = raised_writes n WAITS (x % CARDS) in
      let i = (raised_writes k LEAVES (x / CARDS)).others WAITS s refl ∙ raised_is n WAITS (x % CARDS) s low (omega arith) (omega arith) in
      let same = a.others LEAVES s refl in
      let o = raised_is k LEAVES (x / CARDS) s low (omega (arith, a.as_long)) (omega (arith, same)) in
      let r = counted_all xs (counted n x) (b + 1) (omega (arith, (counted_writes n x).as_long)) (omega arith) (omega (arith, i, one_few (into s x)))
      (omega (arith, o, same, one_few (out_of s x))) in
      (r.0 ∙ (omega (arith, i, many_cons (into s) x xs)), r.1 ∙ (omega (arith, o, same, many_cons (out_of s) x xs)))

-- the pair of a link between slots
pair_parts : (y : Link) → is_between y ≡ true → (pair y % CARDS ≡ y.to) × (pair y / CARDS ≡ y.from)
unfolding pair
pair_parts y h =
    let b = and_parts (ltb y.from CARDS) (ltb y.to CARDS) h in
    let f = ltb-true y.from CARDS b.0 in
    let t = ltb-true y.to CARDS b.1 in
    (omega arith, omega arith)

-- the pairs of all links of a table, the newest first
module _ (m : List ℕ) (T : IsTable m) where
  abbrev pub pairs : List ℕ
  pairs = reverse (map pair (edges m))

  many_pairs : (f : ℕ → ℕ → Bool) → many (λ x. f (x / CARDS) (x % CARDS)) pairs ≡ many (λ y. f y.from y.to) (edges m)
  many_pairs f =
      many_reverse _ (map pair (edges m)) ∙ many_map (λ x. f (x / CARDS) (x % CARDS)) pair (edges m)
      ∙ many_within _ (λ y. f y.from y.to) is_between (λ y h. let p = pair_parts y h in rw (p.0, p.1) refl) (edges m) (all_between m T)

  pub any_pairs : (f : ℕ → ℕ → Bool) → any (λ x. f (x / CARDS) (x % CARDS)) pairs ≡ any (λ y. f y.from y.to) (edges m)
  any_pairs f =
      many_any (λ x. f (x / CARDS) (x % CARDS)) pairs ∙ ap (λ (k : ℕ). not (eqb k 0)) (many_pairs f) ∙ sym (many_any (λ (y : Link). f y.from y.to) (edges m))

  pub record Counted (n : List ℕ) : Type 0 where
    pub wrote : Writes counting m n
    pub ins : (t : ℕ) → t < CARDS → cell n WAITS t ≡ many (to_it t) (edges m)
    pub outs : (s : ℕ) → s < CARDS → cell n LEAVES s ≡ many (from_it s) (edges m)

  module _ (long : LEAVES.base + LEAVES.size ≤ length m) where
    abbrev n₀ : List ℕ
    n₀ = cleared m

    w₀ : Writes counting m n₀
    w₀ = cleared_writes m

    zeros : (s : ℕ) → s < CARDS → (cell n₀ WAITS s ≡ 0) × (cell n₀ LEAVES s ≡ 0)
    unfolding cleared
    zeros s h =
        let k = wiped CARDS m WAITS 0 in (
          (wiped_writes LEAVES CARDS k 0).others WAITS s refl ∙ wiped_in WAITS CARDS m s (omega (arith, long)) h (omega arith),
          wiped_in LEAVES CARDS k s (omega (arith, long, (wiped_writes WAITS CARDS m 0).as_long)) h (omega arith),
        )

    counts_is : counts n₀ ≡ fold counted n₀ pairs
    counts_is =
        along_fold AGE counted counting counted_writes refl ENTRIES n₀ ALL
        ∙ ap (fold counted n₀) (age_gives n₀ (table_kept counting refl m n₀ w₀ T) ∙ ap (λ (es : List Link). reverse (map pair es)) (edges_kept counting refl m n₀ w₀))

    both : (s : ℕ) → s < CARDS → (cell (counts n₀) WAITS s ≡ many (to_it s) (edges m)) × (cell (counts n₀) LEAVES s ≡ many (from_it s) (edges m))
    both s h =
        let z = zeros s h in
        let few : length pairs ≤ ENTRIES = omega (arith, length-reverse (map pair (edges m)), length-map (edges m) pair, live_counts m T, counts_few m T) in
        let c = counted_all s h pairs n₀ 0 (omega (arith, long, w₀.as_long)) (omega arith) (omega arith) (omega arith) in
        rw counts_is (c.0 ∙ (omega (arith, z.0, many_pairs (λ a b. eqb b s))), c.1 ∙ (omega (arith, z.1, many_pairs (λ a b. eqb a s))))

    pub counts_so : Counted (counts n₀)
    counts_so = record { wrote = on counting m n₀ _ w₀ (counts_writes n₀); ins = λ s h. (both s h).0; outs = λ s h. (both s h).1 }

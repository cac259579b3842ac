-- What a search meets in the chain of a slot: just the slots that it is linked to, one for each link.
use Rattle.std.proofs.Common.{◌≡◌, ℕ, zero, suc, ◌+◌, ◌<◌, ◌≤◌, Bool, ◌&&◌, ◌||◌, eqb, List, [], ◌∷◌, map, reverse, length, sym, refl, ap, ◌∙◌, inl, inr, arith}
use mathlib.Core.List.{reverse_aux}
use Rattle.std.proofs.lemmas.Bool.{cases_Bool}
use Rattle.std.proofs.lemmas.Bool.Decides.{nat_tests}
use Rattle.std.proofs.lemmas.List.{length-map, length-reverse}
use Rattle.search.proofs.Common.{CARDS, Link, any, has, filter, cell, Pointer, edges, IsTable, Side, Fore, Hind, table_of, slot_board}
use Rattle.memory.proofs.Options.{given_holds}
use Rattle.chains.specs.declared.chain_table.ChainTable.{ChainTable}
use Rattle.chains.specs.Tables.{node, at}
use Rattle.chains.specs.Chains.{Holds}
use Rattle.chains.specs.Laws.{Reads}
use Rattle.chains.specs.Walks.{met_by, walked, walked_by}
use Rattle.chains.proofs.Walking.{Leads, leads}
use Rattle.chains.proofs.Reading.{reads}
use Rattle.links.specs.declared.layout.TheConstants.{ENTRIES, AGE, ALL}
use Rattle.links.specs.Pairs.{unpair}
use Rattle.links.specs.Laws.{Gives}
use Rattle.links.proofs.Giving.{gives}
use Rattle.search.proofs.Between.{arc}
use Rattle.search.proofs.Potential.{entries}

-- the end of a link by which a search finds it, and the one that it leads to
abbrev pub near_end : Side → Link → ℕ
near_end Fore l = l.from
near_end Hind l = l.to

abbrev pub far_end : Side → Link → ℕ
far_end Fore l = l.to
far_end Hind l = l.from

abbrev pub labels : List Pointer → List ℕ
labels xs = map (λ x. x.label) xs

-- the chain of the slot s
pub record Along (m : List ℕ) (d : Side) (s : ℕ) (xs : List Pointer) : Type 0 where
  pub led : Leads (table_of d) (at (table_of d) m) s xs
  pub goals : (t : ℕ) → has (labels xs) t ≡ arc (slot_board m) d s t
  pub long : length xs ≡ entries (near_end d) s (edges m)

has_turned : (xs ys : List ℕ) (t : ℕ) → has (reverse_aux xs ys) t ≡ (has ys t || has xs t)
unfolding any
has_turned [] ys t = grind arith
has_turned (x ∷ xs) ys t = has_turned xs (x ∷ ys) t ∙ grind arith

has_ends : (p : Link → Bool) (g : Link → ℕ) (t : ℕ) (ls : List Link) → has (map g (filter p ls)) t ≡ any (λ l. p l && eqb (g l) t) ls
unfolding any filter
has_ends p g t [] = refl
has_ends p g t (l ∷ ls) =
    let ih = has_ends p g t ls in
    elim (cases_Bool (p l)) [ inl e ↦ rw e (grind (arith, nat_tests)) | inr e ↦ rw e ih ]

-- the labels of the chain, as the table gives them
labelled : (m : List ℕ) → IsTable m → (d : Side) (s : ℕ) → s < CARDS →
    labels (walked ENTRIES (table_of d) m s) ≡ reverse (map (far_end d) (filter (λ l. eqb (near_end d l) s) (edges m)))
unfolding Gives
labelled m t Fore s h = (gives m t).0 s h
labelled m t Hind s h = (gives m t).1 s h

arc_any : (m : List ℕ) (d : Side) (s t : ℕ) → any (λ l. eqb (near_end d l) s && eqb (far_end d l) t) (edges m) ≡ arc (slot_board m) d s t
arc_any m Fore s t = refl
arc_any m Hind s t = ap (λ (f : Link → Bool). any f (edges m)) (λ i l. turned l i)
  where
    turned : (l : Link) → (eqb l.to s && eqb l.from t) ≡ (eqb l.from t && eqb l.to s)
    turned l = grind arith

held : (m : List ℕ) → IsTable m → (d : Side) → (chains : ℕ → List Pointer) × Holds (table_of d) m chains
held m t Fore = (_, t.table.table.outs)
held m t Hind = (_, t.table.table.ins)

heads_of : (d : Side) → ((table_of d).heads ≡ CARDS) × ((table_of d).cells.size ≤ (table_of d).heads + ENTRIES + 1)
heads_of Fore = (refl, omega arith)
heads_of Hind = (refl, omega arith)

pub along : (m : List ℕ) → IsTable m → (d : Side) (s : ℕ) → s < CARDS → (xs : List Pointer) × Along m d s xs
unfolding Reads any
along m t d s h =
    let T = table_of d in
    let H = held m t d in
    let e = heads_of d in
    let k : s < T.heads = omega (arith, e.0) in
    let xs = H.0 s in
    let w = reads T m s ENTRIES H.0 H.1 k e.1 in
    let l : labels xs ≡ reverse (map (far_end d) (filter (λ l. eqb (near_end d l) s) (edges m))) = sym (ap labels w) ∙ labelled m t d s h in
    let ks = filter (λ (l : Link). eqb (near_end d l) s) (edges m) in (
      xs,
      record {
        led = leads T (at T m) xs s (H.1.spelled s k);
        goals = λ t. ap (λ (ys : List ℕ). has ys t) l ∙ has_turned (map (far_end d) ks) [] t ∙ has_ends (λ l. eqb (near_end d l) s) (far_end d) t (edges m)
            ∙ arc_any m d s t;
        long = sym (length-map xs (λ (x : Pointer). x.label)) ∙ ap length l ∙ length-reverse (map (far_end d) ks) ∙ length-map ks (far_end d);
      },
    )

-- how many links there are
few_walked : (f : ℕ) (T : ChainTable) (g : ℕ → ℕ) (p : ℕ) → length (walked_by f T g p) ≤ f
unfolding walked_by
few_walked zero T g p = omega arith
few_walked (suc f) T g p =
    given_holds (λ o. Unit) (λ (xs : List Pointer). length xs ≤ suc f) (met_by g p) [] _ tt (omega arith) (λ x u. omega (arith, few_walked f T g (node T x.held)))

pub few_edges : (m : List ℕ) → length (edges m) ≤ ENTRIES
unfolding edges
few_edges m =
    let xs = walked ENTRIES AGE m ALL in
    omega (arith, length-reverse (map (λ (x : Pointer). unpair x.label) xs), length-map xs (λ (x : Pointer). unpair x.label), few_walked ENTRIES AGE (cell m AGE.cells) ALL)

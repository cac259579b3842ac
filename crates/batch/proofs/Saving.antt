-- A column filled number by number: what stands in it, and that nothing else changes; so a column is wiped, and the row put aside.
use Rattle.std.proofs.Common.{◌≡◌, ℕ, zero, suc, ◌+◌, ◌^◌, ◌<◌, ◌≤◌, ◌⊎◌, List, [], ◌∷◌, map, length, take, drop, sym, refl, ap, ◌∙◌, subst, inl, inr, arith}
use Rattle.std.specs.List.{range_with_len}
use Rattle.std.proofs.lemmas.Bool.{cases_eq}
use Rattle.order.specs.declared.board.TheConstants.{CARDS}
use Rattle.order.proofs.Tabulated.{made_same, take_made}
use Rattle.memory.specs.declared.column.Column.{Column}
use Rattle.memory.specs.Columns.{cell, written, wiped}
use Rattle.memory.specs.Footprints.{Small, Writes, at_each}
use Rattle.memory.proofs.Cells.{length_written, cell_same, cell_other, cell_apart, small_cell}
use Rattle.memory.proofs.Footprints.{put_one, each}
use Rattle.row.specs.declared.layout.TheConstants.{SLOTS}
use Rattle.row.specs.Meaning.{count}
use Rattle.row.specs.Moves.{packed}
use Rattle.row.proofs.Again.{packs}
use Rattle.row.proofs.Framing.{packed_writes}
use Rattle.batch.specs.declared.layout.TheConstants.{SPARE}
use Rattle.batch.specs.Arranging.{filled}
use Rattle.batch.specs.Seating.{saved}
use Rattle.batch.specs.Dense.{Dense}
use Rattle.batch.specs.SeatLaws.{Saves, SavesIn}
use Rattle.batch.proofs.Denseness.{dense_packed, few, row_is}

module _ (v : List ℕ → ℕ → ℕ) (c : Column) where
  filled_out : (f : ℕ) (m : List ℕ) (i j : ℕ) → (j < i) ⊎ (i + f ≤ j) → cell (filled v c f m i) c j ≡ cell m c j
  unfolding filled at_each
  filled_out zero m i j h = refl
  filled_out (suc f) m i j h =
      filled_out f (written m c i (v m i)) (i + 1) j (elim h [ inl l ↦ inl (omega arith) | inr l ↦ inr (omega arith) ])
      ∙ cell_other m c i j (v m i) (λ e. elim h [ inl l ↦ omega arith | inr l ↦ omega arith ])

  -- whatever the memory
  pub filled_writes : ((m : List ℕ) (i : ℕ) → Small m → v m i < 2 ^ 64) → (f : ℕ) (m : List ℕ) (i : ℕ) → Writes (c ∷ []) m (filled v c f m i)
  unfolding filled
  filled_writes s = each (c ∷ []) (λ m i. written m c i (v m i)) (λ m i. put_one m c i (v m i) (s m i))

  -- if what v says doesn't depend on what is written
  module _ (alone : (m : List ℕ) (i j k : ℕ) → v (written m c i k) j ≡ v m j) where
    filled_in : (f : ℕ) (m : List ℕ) (i j : ℕ) → c.base + c.size ≤ length m → i ≤ j → j < i + f → j < c.size → cell (filled v c f m i) c j ≡ v m j
    unfolding filled at_each
    filled_in zero m i j l a b h = absurd (omega arith)
    filled_in (suc f) m i j l a b h =
        let m₁ = written m c i (v m i) in
        elim (cases_eq j i) [
          | inl e ↦
              filled_out f m₁ (i + 1) j (inl (omega arith)) ∙ ap (cell m₁ c) e ∙ cell_same m c i (v m i) (omega arith) (omega arith) ∙ ap (v m) (sym e)
          | inr e ↦
              filled_in f m₁ (i + 1) j (omega (arith, length_written m c i (v m i))) (omega arith) (omega arith) h ∙ alone m i j (v m i)
        ]

    pub filled_are : (n : ℕ) (m : List ℕ) → c.base + c.size ≤ length m → n ≤ c.size →
        map (cell (filled v c n m 0) c) (range_with_len 0 n) ≡ map (v m) (range_with_len 0 n)
    filled_are n m l h = made_same (cell (filled v c n m 0) c) (v m) 0 n (λ p a b. filled_in n m 0 p l a b (omega arith))

-- a column is wiped
module _ (c : Column) where
  wiped_is : (f : ℕ) (m : List ℕ) (i : ℕ) → wiped f m c i ≡ filled (λ _ _. 0) c f m i
  unfolding wiped filled at_each
  wiped_is zero m i = refl
  wiped_is (suc f) m i = wiped_is f (written m c i 0) (i + 1)

  pub wiped_writes : (f : ℕ) (m : List ℕ) (i : ℕ) → Writes (c ∷ []) m (wiped f m c i)
  wiped_writes f m i = rw (wiped_is f m i) (filled_writes (λ _ _. 0) c (λ _ _ _. omega arith) f m i)

  pub wiped_in : (f : ℕ) (m : List ℕ) (q : ℕ) → c.base + c.size ≤ length m → q < f → q < c.size → cell (wiped f m c 0) c q ≡ 0
  wiped_in f m q l b h = rw (wiped_is f m 0) (filled_in (λ _ _. 0) c (λ _ _ _ _. refl) f m 0 q l (omega arith) (omega arith) h)

-- the row is put aside: the slot at each place is written down
pub saved_in : (m : List ℕ) (p n : ℕ) → SPARE.base + SPARE.size ≤ length m → (q : ℕ) → p ≤ q → q < p + n → q < CARDS →
    cell (saved n m p) SPARE q ≡ cell m SLOTS q
unfolding saved filled
saved_in m p n l q a b h = filled_in (λ m₁. cell m₁ SLOTS) SPARE (λ m₁ i j k. cell_apart m₁ SPARE SLOTS i j k refl) n m p q l a b h

saved_part : (m : List ℕ) (p n : ℕ) → SPARE.base + SPARE.size ≤ length m → Dense m → SavesIn m p n
saved_part m p n l D h =
    let f = few m D in
    made_same (cell (saved n m p) SPARE) (cell m SLOTS) p n (λ q a b. saved_in m p n l q a b (omega arith))
    ∙ sym (ap (λ (ks : List ℕ). take n (drop p ks)) (row_is m D) ∙ take_made (cell m SLOTS) (count m) p n h)

pub saves : Saves
unfolding saved filled
saves m p n l = (
  saved_in m p n l,
  λ q h. filled_out (λ m₁. cell m₁ SLOTS) SPARE n m p q h,
  saved_part m p n l,
  λ S. let e = (packed_writes m).as_long in saved_part (packed m) p n (omega arith) (dense_packed m (packed m) (packs m S)),
)

pub saved_writes : (m : List ℕ) (p n : ℕ) → Writes (SPARE ∷ []) m (saved n m p)
unfolding saved filled
saved_writes m p n = filled_writes (λ m₁. cell m₁ SLOTS) SPARE (λ m₁ q s. small_cell m₁ SLOTS q s) n m p

pub saved_wrote : (m m' : List ℕ) (p n : ℕ) → m' ≡ saved n m p → Writes (SPARE ∷ []) m m'
saved_wrote m m' p n e = subst (Writes (SPARE ∷ []) m) (sym e) (saved_writes m p n)

-- The row that is read from a memory that means a board is the board's.
use Rattle.std.proofs.Common.{◌≡◌, ℕ, ◌≤◌, List, ◌++◌, length, drop, sym, ap, ◌∙◌, arith}
use Rattle.std.proofs.lemmas.Bool.{eq-eqb}
use Rattle.std.proofs.lemmas.List.{take_all}
use Rattle.order.specs.Board.{Board}
use Rattle.memory.specs.declared.column.TheConstants.{MEMORY}
use Rattle.row.specs.Meaning.{count, cards}
use Rattle.row.specs.Telling.{told, told_count}
use Rattle.row.proofs.Present.{length_cards}
use Rattle.row.proofs.Tellings.{tells_middle}
use Rattle.keeper.specs.Meaning.{Means}
use Rattle.keeper.specs.Playing.{row_read, read_count}
use Rattle.keeper.specs.PlayLaws.{Reads, ReadsRow}

module _ (m : List ℕ) (r : Board) (out : List ℕ) (M : Means m r) (h : length r.row ≤ length out) where
  tells_row : (told_count m 0 (count m) out ≡ length r.row) × (told m 0 (count m) out ≡ r.row ++ drop (length r.row) out)
  tells_row =
      let S = M.ready.is_row in
      let e : r.row ≡ cards m = ap (λ (b : Board). b.row) M.is in
      let c = length_cards m S in
      let n : length r.row ≡ count m = ap length e ∙ c in
      let t = tells_middle m 0 (count m) out S (omega arith) (omega arith) in (
        t.0 ∙ sym n,
        t.1 ∙ ap (λ (xs : List ℕ). xs ++ drop (count m) out) (take_all (count m) (cards m) (omega arith) ∙ sym e)
            ∙ ap (λ (k : ℕ). r.row ++ drop k out) (sym n),
      )

  reads : length m ≡ MEMORY → (read_count m out ≡ length r.row) × (row_read m out ≡ r.row ++ drop (length r.row) out)
  unfolding row_read read_count
  reads l = let e = eq-eqb (length m) MEMORY l in rw e tells_row

pub reads_row : ReadsRow
reads_row = (tells_row, λ m out r l M h. reads m r out M h l)

pub reads_it : (m out : List ℕ) (n : ℕ) (out₁ : List ℕ) → n ≡ read_count m out → out₁ ≡ row_read m out → Reads m out n out₁
reads_it m out n out₁ i w r l M h = let q = reads m r out M h l in (i ∙ q.0, w ∙ q.1)

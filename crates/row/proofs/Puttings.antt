-- A slot that is put at a taken seat.
use Rattle.std.proofs.Common.{◌≡◌, ℕ, ◌<◌, true, List, set, refl, ap, ◌∙◌, arith}
use Rattle.order.specs.declared.board.TheConstants.{CARDS}
use Rattle.memory.specs.Columns.{cell, written}
use Rattle.memory.proofs.Cells.{cell_same, cell_other}
use Rattle.row.specs.declared.layout.TheConstants.{ENDING, SLOTS, SEATS, TAKEN}
use Rattle.row.specs.Meaning.{ending, taken, rank, row_of, IsRow}
use Rattle.row.specs.Moves.{put_at}
use Rattle.row.proofs.Framing.{written_same}
use Rattle.row.proofs.Along.{listed_set}
use Rattle.row.proofs.Named.{standing, long_row}

pub putting : (m : List ℕ) (p s : ℕ) → IsRow m → taken m p ≡ true → s < CARDS →
    (row_of (put_at m p s) ≡ set (row_of m) (rank m p) s) × ((q : ℕ) → taken (put_at m p s) q ≡ taken m q) × ((q : ℕ) → rank (put_at m p s) q ≡ rank m q)
putting m p s S h low =
    let st = (standing m S).seated in
    let slots = written_same (written m SLOTS p s) SEATS SLOTS s p refl in
    let words = written_same (written m SLOTS p s) SEATS TAKEN s p refl ∙ written_same m SLOTS TAKEN p s refl in
    let end = written_same (written m SLOTS p s) SEATS ENDING s p refl ∙ written_same m SLOTS ENDING p s refl in
    let u = st.below p h in let l = long_row m S in
    let at = cell_same m SLOTS p s (omega arith) (omega arith) in (
      rw (slots, words, end) (listed_set (cell m SLOTS) (cell (written m SLOTS p s) SLOTS) (taken m) p (ending m) u h (λ q ne. cell_other m SLOTS p q s ne)
          ∙ ap (set (row_of m) (rank m p)) at),
      λ q. rw words,
      λ q. rw words,
    )

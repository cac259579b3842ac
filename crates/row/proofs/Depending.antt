-- What the row means depends on the columns of this crate alone.
use Rattle.std.proofs.Common.{◌≡◌, ℕ, ◌+◌, ◌-◌, ◌*◌, ◌/◌, List, map, min, cond, ltb, true, ap, sym, subst}
use Rattle.memory.specs.declared.column.Column.{Column}
use Rattle.memory.specs.Footprints.{clear_all, Writes, View, Alike}
use Rattle.memory.proofs.Footprints.{view_alike, alike}
use Rattle.row.specs.declared.layout.TheConstants.{SEATS_MOST, COUNT, ENDING, IDS, SLOTS, SEATS, TAKEN}
use Rattle.row.specs.Columns.{columns}
use Rattle.row.specs.Meaning.{bit_set, listed, amount, taken_from, placed, in_use, RowIn}
use Rattle.row.specs.Theory.{SameRow, Depends}

abbrev row_in : View → List ℕ
row_in v = listed (v.at SLOTS) (bit_set (v.at TAKEN)) (min (v.at ENDING 0) SEATS_MOST)

abbrev placed_in : View → ℕ → ℕ
placed_in v p =
    let e = min (v.at ENDING 0) SEATS_MOST in
    let f = amount (bit_set (v.at TAKEN)) in
    cond (ltb p (e / 2)) (f p) (v.at COUNT 0 - (f ((e + 63) / 64 * 64) - f p))

same_row : (m n : List ℕ) → Alike columns m n → SameRow m n
unfolding placed taken_from
same_row m n a =
    let e = view_alike columns m n a in
    record {
      is_row = λ S. subst RowIn (sym e) S;
      same_cards = ap (λ (v : View). map (v.at IDS) (row_in v)) e;
      same_row = ap row_in e;
      same_used = λ s. ap (λ (v : View). in_use (v.at SLOTS) (v.at SEATS) (bit_set (v.at TAKEN)) s) e;
      same_places = λ s. ap (λ (v : View). placed_in v (v.at SEATS s)) e;
      same_taken = λ p. ap (λ (v : View). bit_set (v.at TAKEN) p) e;
      same_count = ap (λ (v : View). v.at COUNT 0) e;
      same_ids = λ s. ap (λ (v : View). v.at IDS s) e;
      same_slots = λ p. ap (λ (v : View). v.at SLOTS p) e;
      same_seats = λ s. ap (λ (v : View). v.at SEATS s) e;
    }

pub depends : (fs : List Column) (m n : List ℕ) → clear_all fs columns ≡ true → Writes fs m n → SameRow m n
depends fs m n c w = same_row m n (alike fs columns c m n w)

pub depends_both : Depends
depends_both = (same_row, depends)

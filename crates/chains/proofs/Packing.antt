-- A cell that fits is read as it was written.
use Rattle.std.proofs.Common.{◌≡◌, ℕ, ◌+◌, ◌*◌, ◌/◌, ◌%◌, ◌^◌, ◌<◌, refl, arith}
use Rattle.chains.specs.declared.cells.TheConstants.{HELD, LABELS, POINTERS, CELLS}
use Rattle.chains.specs.declared.cells.Cell.{Cell}
use Rattle.chains.specs.Packing.{encoded, decoded, Fits}

module _ (a b c : ℕ) (i : a < HELD) (j : b < LABELS) (k : c < CELLS) where
  abbrev whole : ℕ
  whole = a % HELD + b % LABELS * HELD + c % CELLS * POINTERS

  held_is : whole % HELD ≡ a
  held_is = omega arith

  label_is : whole / HELD % LABELS ≡ b
  label_is = omega arith

  back_is : whole / POINTERS % CELLS ≡ c
  back_is = omega arith

pub decoded_encoded : (x : Cell) → Fits x → decoded (encoded x) ≡ x
unfolding encoded decoded
decoded_encoded x f =
    let a = held_is x.next.held x.next.label x.back f.held f.label f.back in
    let b = label_is x.next.held x.next.label x.back f.held f.label f.back in
    let c = back_is x.next.held x.next.label x.back f.held f.label f.back in
    rw (a, b, c) refl

pub decoded_fits : (n : ℕ) → Fits (decoded n)
unfolding decoded
decoded_fits n = record { held = omega arith; label = omega arith; back = omega arith }

pub encoded_word : (x : Cell) → encoded x < 2 ^ 64
unfolding encoded
encoded_word x = omega arith

-- The numbers that bytes spell.
use Rattle.std.proofs.Common.{map, zero, suc, refl, ◌≡◌, ℕ, ◌/◌, List, [], ◌∷◌, length, arith}
use Rattle.std.specs.Simd.{first_chunks}
use Rattle.std.specs.Int.{w16, from_le_bytes}
use Rattle.verify.specs.Input.{numbers_of}

-- two bytes at a time, they spell the numbers
spelled_by : (bs : List ℕ) (k : ℕ) → k ≡ length bs / 2 → map (from_le_bytes w16) (first_chunks 2 k bs) ≡ numbers_of bs
unfolding numbers_of
spelled_by [] zero e = refl
spelled_by (b ∷ []) zero e = refl
spelled_by (low ∷ high ∷ bs) zero e = absurd (omega arith)
spelled_by [] (suc k) e = absurd (omega arith)
spelled_by (b ∷ []) (suc k) e = absurd (omega arith)
spelled_by (low ∷ high ∷ bs) (suc k) e = let ih = spelled_by bs k (omega arith) in grind arith

pub spelled : (bs : List ℕ) → map (from_le_bytes w16) (first_chunks 2 (length bs / 2) bs) ≡ numbers_of bs
spelled bs = spelled_by bs (length bs / 2) refl

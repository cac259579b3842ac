use Rattle.std.proofs.Common.{◌≡◌, ℕ, ◌+◌, ◌*◌, ◌/◌, ◌%◌, ◌^◌, ◌-◌, List, get_or, take, drop, sym, ap, ap₂, ◌∙◌, arith}
use lib.Bits.{bit_and}
use lib.Count.{ones, ones-le}
use Rattle.std.proofs.lemmas.Nat.{and_le_l}
use Rattle.memory.specs.Columns.{cell}
use Rattle.row.specs.declared.layout.TheConstants.{TAKEN}
use Rattle.row.specs.Meaning.{rank}
use Rattle.row.proofs.Counting.{rank_word, rank_part, rank_last, rank_le, rank_zero, words_are, word_is}
use Rattle.row.proofs.Contracts.{ranks_so}
use Rattle.row.proofs.ranks.rank.Goals as goal

pub loop-word-init : goal.loop-word-init
loop-word-init c = sym (rank_zero c.args.memory.now)

pub overflow_add-before : goal.overflow_add-before
overflow_add-before c =
    let full : ℕ = c.min-seat.result / 64 in
    let m : List ℕ = c.args.memory.now in
    let n = words_are m 0 full (omega arith) (omega arith) (omega arith) in
    let w = word_is m 0 full c.loop-word.word-index (omega arith) (omega arith) in
    let a = rank_le m (c.loop-word.word-index * 64) in
    let b = ones-le 64 (get_or (take (TAKEN.base + full - TAKEN.base) (drop TAKEN.base m)) c.loop-word.word-index 0) (omega arith) in
    omega arith

pub loop-word-preserved : goal.loop-word-preserved
loop-word-preserved c =
    let full : ℕ = c.min-seat.result / 64 in
    let m : List ℕ = c.args.memory.now in
    let n = words_are m 0 full (omega arith) (omega arith) (omega arith) in
    let z : 0 + c.loop-word.word-index ≡ c.loop-word.word-index = omega arith in
    let w = word_is m 0 full c.loop-word.word-index (omega arith) (omega arith) ∙ ap (cell m TAKEN) z in
    let o = ap ones w in
    let e = rank_word m c.loop-word.word-index (omega arith) in
    omega arith

pub overflow_add-result : goal.overflow_add-result
overflow_add-result c =
    let low : ℕ = 1 * 2 ^ (c.min-seat.result % 64) % 18446744073709551616 - 1 in
    let a = rank_le c.args.memory.now (c.loop-word.word-index * 64) in
    let n = words_are c.args.memory.now 0 (c.min-seat.result / 64) (omega arith) (omega arith) (omega arith) in
    let l = and_le_l c.get.result low in
    let b = ones-le 64 (bit_and c.get.result low) (omega arith) in
    omega arith

pub returns : goal.returns
returns c =
    let m : List ℕ = c.args.memory.now in
    let p : ℕ = c.min-seat.result in
    let n = words_are m 0 (p / 64) (omega arith) (omega arith) (omega arith) in
    let e : c.loop-word.word-index ≡ p / 64 = omega arith in
    let a : c.loop-word.before ≡ rank m (p / 64 * 64) = c.loop-word.invariant ∙ ap (λ (w : ℕ). rank m (w * 64)) e in
    let low : ℕ = 1 * 2 ^ (p % 64) % 18446744073709551616 - 1 in
    let b = ap (λ (w : ℕ). ones (bit_and w low)) c.get.ensures in
    let d = ap (rank m) c.min-seat.ensures in
    let r = ap₂ (λ (x y : ℕ). x + y) a b ∙ rank_part m p ∙ d ∙ rank_last m c.args.seat in
    record { is = r; law = ranks_so m c.args.seat _ r }

use Rattle.std.proofs.Common.{◌≡◌, ℕ, ◌+◌, ◌-◌, ◌*◌, ◌<◌, ◌≤◌, ◌/◌, ◌%◌, ◌^◌, List, get_or, take, drop, ap, arith}
use lib.Count.{ones, ones-le}
use Rattle.row.specs.declared.layout.TheConstants.{TAKEN}
use Rattle.row.specs.Meaning.{rank, taken_from, ending}
use Rattle.row.proofs.Counting.{rank_word, rank_rest, rank_up, rank_le, words_are, word_is}
use Rattle.row.proofs.ranks.taken_from.Goals as goal

pub returns-then-first-end : goal.returns-then-first-end
unfolding taken_from
returns-then-first-end c =
    let m : List ℕ = c.args.memory.now in
    let e : (ending m + 63) / 64 ≤ c.args.seat / 64 = omega arith in
    let u = rank_up m ((ending m + 63) / 64 * 64) c.args.seat (omega arith) in
    omega arith

pub overflow_add-behind : goal.overflow_add-behind
overflow_add-behind c =
    let m : List ℕ = c.args.memory.now in
    let first : ℕ = c.args.seat / 64 + 1 in
    let end : ℕ = (c.min.result + 63) / 64 in
    let n = words_are m first end (omega arith) (omega arith) (omega arith) in
    let l = rank_le m ((first + c.loop-word.word-index) * 64) in
    let b = ones-le 64 (get_or (take (TAKEN.base + end - (TAKEN.base + first)) (drop (TAKEN.base + first) m)) c.loop-word.word-index 0) (omega arith) in
    omega arith

pub loop-word-preserved : goal.loop-word-preserved
loop-word-preserved c =
    let m : List ℕ = c.args.memory.now in
    let first : ℕ = c.args.seat / 64 + 1 in
    let end : ℕ = (c.min.result + 63) / 64 in
    let n = words_are m first end (omega arith) (omega arith) (omega arith) in
    let w = word_is m first end c.loop-word.word-index (omega arith) (omega arith) in
    let e = rank_word m (first + c.loop-word.word-index) (omega arith) in
    let o = ap ones w in
    let k : (first + c.loop-word.word-index + 1) * 64 ≡ (first + (c.loop-word.word-index + 1)) * 64 = omega arith in
    let r = ap (rank m) k in
    omega arith

pub overflow_add-result : goal.overflow_add-result
overflow_add-result c =
    let m : List ℕ = c.args.memory.now in
    let first : ℕ = c.args.seat / 64 + 1 in
    let end : ℕ = (c.min.result + 63) / 64 in
    let n = words_are m first end (omega arith) (omega arith) (omega arith) in
    let l = rank_le m ((first + c.loop-word.word-index) * 64) in
    let s : c.get-2.result / 2 ^ (c.args.seat % 64) < 2 ^ 64 = omega arith in
    let b = ones-le 64 (c.get-2.result / 2 ^ (c.args.seat % 64)) s in
    omega arith

pub returns : goal.returns
unfolding taken_from
returns c =
    let m : List ℕ = c.args.memory.now in
    let p : ℕ = c.args.seat in
    let first : ℕ = c.args.seat / 64 + 1 in
    let end : ℕ = (c.min.result + 63) / 64 in
    let n = words_are m first end (omega arith) (omega arith) (omega arith) in
    let k : first + c.loop-word.word-index ≡ end = omega arith in
    let r = ap (λ (w : ℕ). rank m (w * 64)) k in
    let q = rank_rest m p (omega arith) in
    let o = ap (λ (w : ℕ). ones (w / 2 ^ (p % 64))) c.get-2.ensures in
    let e : end ≡ (ending m + 63) / 64 = omega arith in
    let z = ap (λ (w : ℕ). rank m (w * 64)) e in
    omega arith

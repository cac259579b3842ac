use Rattle.std.proofs.Common.{◌≡◌, ℕ, ◌*◌, ◌-◌, sym, ap, subst, arith}
use lib.Count.{ones, ones-le}
use Rattle.row.specs.declared.layout.TheConstants.{SEATS_MOST, WORDS}
use Rattle.row.specs.Meaning.{rank}
use Rattle.row.specs.Telling.{Between}
use Rattle.row.proofs.Counting.{rank_word, rank_le, rank_zero}
use Rattle.row.proofs.Halving.{selected_here, selected_none}
use Rattle.row.proofs.Contracts.{selects_so}
use Rattle.row.proofs.telling.select.Goals as goal

pub loop-word-init : goal.loop-word-init
loop-word-init c = record { sum = sym (rank_zero c.args.memory.now); within = omega arith }

pub overflow_add-before : goal.overflow_add-before
overflow_add-before c =
    let a = rank_le c.args.memory.now (c.loop-word.word * 64) in
    let b = ones-le 64 c.get-bits.result (omega arith) in
    omega arith

pub loop-word-preserved : goal.loop-word-preserved
loop-word-preserved c =
    let e = rank_word c.args.memory.now c.loop-word.word (omega arith) in
    let o = ap ones c.get-bits.ensures in
    record { sum = omega arith; within = omega arith }

pub returns-then-place-before : goal.returns-then-place-before
returns-then-place-before c =
    let m = c.args.memory.now in
    let r =
    sym (selected_here m c.loop-word.word c.args.place c.loop-word.before c.nth_bit.result (omega arith) c.loop-word.invariant.sum
    c.loop-word.invariant.within c.nth_bit.ensures.below
    (subst (λ (w : ℕ). Between w (c.args.place - c.loop-word.before) c.nth_bit.result 1) c.get-bits.ensures (c.nth_bit.ensures.law (omega arith)))) in
    record { is = r; law = selects_so m c.args.place _ r }

pub returns : goal.returns
returns c =
    let m = c.args.memory.now in
    let e = ap (λ (w : ℕ). rank m (w * 64)) (let z : c.loop-word.word ≡ WORDS = omega arith in z) in
    let r = sym (selected_none m c.args.place (let s = c.loop-word.invariant.sum in let w = c.loop-word.invariant.within in omega arith)) in
    record { is = r; law = selects_so m c.args.place SEATS_MOST r }

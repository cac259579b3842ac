-- What is told of the row, where the output is long enough.
use Rattle.std.proofs.Common.{◌≡◌, ℕ, zero, suc, ◌+◌, ◌≤◌, true, List, [], ◌∷◌, ◌++◌, length, take, drop, set, sym, refl, ap, ap₂, ◌∙◌, arith}
use lib.ListN.{length-replicate, replicate}
use Rattle.std.proofs.lemmas.Bool.Decides.{nat_tests}
use Rattle.std.proofs.lemmas.List.{append_assoc, take-append-drop, take_at, take_more_set, drop-set-lt, length-set, length-take-le, length-drop}
use Rattle.memory.specs.Columns.{cell}
use Rattle.row.specs.declared.layout.TheConstants.{IDS, SLOTS}
use Rattle.row.specs.Meaning.{count, cards, IsRow}
use Rattle.row.specs.Telling.{next_seat, selected, tells, tellable, told}
use Rattle.row.proofs.Present.{length_cards, few_cards}
use Rattle.row.proofs.Tellings.{tells_middle}
use Rattle.keeper.specs.Telling.{cards_from, middle}

length_from : (n : ℕ) (m : List ℕ) (p : ℕ) → length (cards_from n m p) ≡ n
unfolding cards_from
length_from zero m p = refl
length_from (suc n) m p = ap suc (length_from n m (next_seat m p + 1))

pub length_middle : (m : List ℕ) (p n : ℕ) → length (middle m p n) ≡ n
unfolding middle
length_middle m p n = length_from n m (selected m p)

-- card after card, written to the output from i on
tells_are : (n : ℕ) (m : List ℕ) (p i : ℕ) (out : List ℕ) → i + n ≤ length out → tells n m p i out ≡ take i out ++ (cards_from n m p ++ drop (i + n) out)
unfolding tells cards_from
tells_are zero m p i out h = let e : i + 0 ≡ i = omega arith in rw e (sym (take-append-drop i out))
tells_are (suc n) m p i out h =
    let c = cell m IDS (cell m SLOTS (next_seat m p)) in
    let next = set out i c in
    let e : i + 1 + n ≡ i + suc n = omega arith in
    tells_are n m (next_seat m p + 1) (i + 1) next (omega (arith, length-set out i c))
    ∙ ap₂ (λ (xs ys : List ℕ). xs ++ (cards_from n m (next_seat m p + 1) ++ ys)) (take_more_set out i c (omega arith))
    (drop-set-lt (i + 1 + n) out i c (omega arith) ∙ ap (λ (k : ℕ). drop k out) e)
    ∙ append_assoc (take i out) (c ∷ []) (cards_from n m (next_seat m p + 1) ++ drop (i + suc n) out)

pub told_middle : (m : List ℕ) (p n : ℕ) (out : List ℕ) → tellable m p n out ≡ true → told m p n out ≡ middle m p n ++ drop (length (middle m p n)) out
unfolding told middle
told_middle m p n out h =
    let e : 0 + n ≡ length (cards_from n m (selected m p)) = omega (arith, length_from n m (selected m p)) in
    rw h (tells_are n m (selected m p) 0 out (grind (arith, nat_tests)) ∙ ap (λ (k : ℕ). cards_from n m (selected m p) ++ drop k out) e)

-- the cards from a place on are the row's
pub middle_is : (m : List ℕ) (p n : ℕ) → IsRow m → p + n ≤ count m → middle m p n ≡ take n (drop p (cards m))
middle_is m p n S h =
    let out = replicate {A = ℕ} n 0 in
    let l = length-replicate {A = ℕ} n 0 in
    let f = few_cards m S in
    let t = tells_middle m p n out S (omega (arith, length_cards m S)) (omega arith) in
    let k : length (middle m p n) ≡ n = length_middle m p n in
    let b : tellable m p n out ≡ true = grind (arith, nat_tests) in
    let e = sym (told_middle m p n out b) ∙ t.1 in
    sym (take_at (middle m p n) (drop (length (middle m p n)) out) n k) ∙ ap (take n) e
    ∙ take_at (take n (drop p (cards m))) (drop n out) n (omega (arith, length-take-le n (drop p (cards m)) (omega (arith, length-drop p (cards m), length_cards m S))))

-- A part of the row is told, in one act or in two, up to the command's end.
use Rattle.std.proofs.Common.{◌≡◌, ℕ, ◌+◌, ◌-◌, ◌<◌, ◌≤◌, min, true, List, [], ◌∷◌, ◌++◌, length, take, drop, refl, ap, ap₂, ◌∙◌, inl, inr, arith, length-take}
use Rattle.std.proofs.lemmas.List.{take-take}
use Rattle.std.proofs.lemmas.Bool.{cases_lt, eq-eqb, lt-ltb, le-ltb}
use Rattle.std.proofs.lemmas.Bool.Decides.{nat_tests as tests}
use Rattle.order.specs.declared.board.TheConstants.{CARDS}
use Rattle.order.specs.Lists.{every}
use Rattle.command.specs.Commands.{Told, told_rows}
use Rattle.memory.specs.Columns.{cell, written}
use Rattle.memory.proofs.Cells.{cell_same, cell_apart, length_written}
use Rattle.memory.proofs.Footprints.{same as as_it_was}
use Rattle.row.specs.Meaning.{count, cards, IsRow}
use Rattle.row.specs.Theory.{SameRow}
use Rattle.row.proofs.Present.{length_cards, few_cards}
use Rattle.keeper.specs.declared.layout.TheConstants.{TOLD, PENDING, MORE_FROM, MORE_TO}
use Rattle.keeper.specs.declared.event.Event.TheVariants.{Next}
use Rattle.keeper.specs.Columns.{columns}
use Rattle.keeper.specs.Engine.{tells, done, Ran, ran, action_of, one_act, runs}
use Rattle.keeper.specs.Answers.{Answer, pending, leaves_pending, noted as noting}
use Rattle.keeper.specs.declared.pending.Pending.TheVariants.{More}
use Rattle.keeper.specs.Sister.{within}
use Rattle.keeper.specs.Telling.{middle, left_to_tell, telling, told_part}
use Rattle.keeper.specs.Own.{went_on, own}
use Rattle.keeper.proofs.Ends.{Go}
use Rattle.keeper.proofs.Unroll.{steps_to, told, run_done, run_tells}
use Rattle.keeper.proofs.Parts.{part, Anew, told_in_one, told_in_two, one_within, two_within}
use Rattle.keeper.proofs.Carrying.{Noted, noted, noted_more, is_pending, same_row}
use Rattle.keeper.proofs.Saying.{step_next, went_done}
use Rattle.keeper.proofs.TellingParts.{middle_is}

-- how a run goes on after its first answer
abbrev pub from_first : Answer → Ran
from_first a = one_act (λ m₁ ts ss. runs 2 own m₁ Next ts ss) [] [] a.memory (action_of a.act a.numbers)

-- the part from lo up to hi is told: it takes the place of what stood there, and nothing else is told
pub record ToldOut (k : List ℕ) (lo hi : ℕ) : Type 0 where
  pub memory : List ℕ
  pub only : Noted k memory
  pub parts : List Told
  pub run : from_first (told_part k lo hi) ≡ ran (leaves_pending memory 0) parts [] 0
  pub makes : (row : List ℕ) → Anew row (cards k) lo hi → told_rows row parts ≡ cards k
  pub inside : every (within lo hi) parts ≡ true

-- what is told, where the places are in the row
told_is : (m : List ℕ) (p j n : ℕ) → p ≤ j → j ≤ count m → count m ≤ CARDS → n ≡ min (j - p) TOLD → told_part m p j ≡ telling m p n j
unfolding told_part
told_is m p j n a b c e =
    let e₁ : min (min j (count m)) CARDS ≡ j = omega arith in
    let e₂ : min p j ≡ p = omega arith in
    rw (e₁, e₂, e) refl

rest_none : (m : List ℕ) (p j : ℕ) → j ≤ p → left_to_tell m p j ≡ leaves_pending m 1
unfolding left_to_tell
rest_none m p j h = rw (le-ltb p j h)

rest_some : (m : List ℕ) (p j : ℕ) → p < j → left_to_tell m p j ≡ written (written (leaves_pending m 3) MORE_FROM 0 p) MORE_TO 0 j
unfolding left_to_tell
rest_some m p j h = rw (lt-ltb p j h)

went_more : (m : List ℕ) → pending m ≡ 3 → went_on m ≡ told_part m (cell m MORE_FROM 0) (cell m MORE_TO 0)
unfolding went_on
went_more m e = rw (eq-eqb (pending m) 3 e)

-- a part that is noted to be told is
pub went_noted : (m : List ℕ) → MORE_TO.base + MORE_TO.size ≤ length m → (i j : ℕ) →
    went_on (noting m (More i j)) ≡ told_part (noting m (More i j)) i j
went_noted m l i j =
    let n = leaves_pending m 3 in
    let k = written n MORE_FROM 0 i in
    let e = length_written m PENDING 0 3 in
    went_more (noting m (More i j)) (cell_apart k MORE_TO PENDING 0 0 j refl ∙ cell_apart n MORE_FROM PENDING 0 0 i refl ∙ is_pending m l 3)
    ∙ ap₂ (told_part (noting m (More i j)))
    (cell_apart k MORE_TO MORE_FROM 0 0 j refl ∙ cell_same n MORE_FROM 0 i (omega arith) (omega arith))
    (cell_same k MORE_TO 0 j (omega arith) (omega (arith, length_written n MORE_FROM 0 i)))

-- the action of telling so many from a place on
told_action : (k : List ℕ) (S : IsRow k) (p n : ℕ) → p + n ≤ count k → tells p (take n (middle k p n)) ≡ tells p (take n (drop p (cards k)))
told_action k S p n h = ap (tells p) (ap (take n) (middle_is k p n S h) ∙ take-take n n (drop p (cards k)) (omega arith))

act_tells : (go : Go) (ts : List Told) (ss : List (List ℕ)) (m : List ℕ) (i : ℕ) (ks : List ℕ) → length ks ≤ TOLD →
    one_act go ts ss m (tells i ks) ≡ go m (ts ++ told i ks ∷ []) ss
unfolding one_act
act_tells go ts ss m i ks l = grind (arith, tests)

module _ (k : List ℕ) (S : IsRow k) (long : MORE_TO.base + MORE_TO.size ≤ length k) (lo hi : ℕ) (up : lo ≤ hi) (low : hi ≤ count k) where
  abbrev row : List ℕ
  row = cards k

  few : count k ≤ CARDS
  few = few_cards k S

  high : hi ≤ length row
  high = omega (arith, length_cards k S)

  length_cut : (p c : ℕ) → c ≤ TOLD → length (take c (drop p row)) ≤ TOLD
  length_cut p c u = omega (arith, length-take c (drop p row))

  first : (c : ℕ) → c ≡ min (hi - lo) TOLD →
      from_first (told_part k lo hi) ≡ runs 2 own (left_to_tell k (lo + c) hi) Next (told lo (take c (drop lo row)) ∷ []) []
  first c e =
      let f = few in
      ap from_first (told_is k lo hi c up low f e)
      ∙ ap (one_act (λ m₁ ts ss. runs 2 own m₁ Next ts ss) [] [] (left_to_tell k (lo + c) hi)) (told_action k S lo c (omega arith))
      ∙ act_tells (λ m₁ ts ss. runs 2 own m₁ Next ts ss) [] [] (left_to_tell k (lo + c) hi) lo _ (length_cut lo c (omega arith))

  -- all at once
  in_one : hi - lo ≤ TOLD → ToldOut k lo hi
  in_one u =
      let c = hi - lo in
      let f = step_next (leaves_pending k 1) _ (went_done (leaves_pending k 1) (is_pending k long 1)) in
      record {
        memory = leaves_pending k 1;
        only = noted k k 1 (omega arith) (as_it_was columns k);
        parts = part row lo hi ∷ [];
        run =
            first c (omega arith) ∙ ap (λ (m : List ℕ). runs 2 own m Next (part row lo hi ∷ []) []) (rest_none k (lo + c) hi (omega arith))
            ∙ run_done 1 own (leaves_pending k 1) (leaves_pending (leaves_pending k 1) 0) Next (part row lo hi ∷ []) [] f;
        makes = λ old a. told_in_one old row lo hi a high up;
        inside = one_within row lo hi high up;
      }

  -- in two parts
  module _ (u : TOLD < hi - lo) where
    abbrev mid : ℕ
    mid = lo + TOLD

    abbrev k₄ : List ℕ
    k₄ = written (written (leaves_pending k 3) MORE_FROM 0 mid) MORE_TO 0 hi

    N : Noted k k₄
    N = let f = few in noted_more k mid hi (omega arith) (omega arith)

    S₄ : SameRow k k₄
    S₄ = same_row columns k k₄ N refl

    long₄ : MORE_TO.base + MORE_TO.size ≤ length k₄
    long₄ = let e = N.as_long in omega arith

    abbrev d : ℕ
    d = hi - mid

    same_cards : cards k₄ ≡ row
    same_cards = S₄.same_cards

    second : own.step k₄ Next ≡ steps_to (leaves_pending k₄ 1) (tells mid (take d (drop mid row)))
    second =
        let f = few in
        let c = S₄.same_count in
        step_next k₄ (telling k₄ mid d hi)
        (went_noted k long mid hi ∙ told_is k₄ mid hi d (omega arith) (omega arith) (omega arith) (omega arith))
        ∙ ap₂ steps_to (rest_none k₄ (mid + d) hi (omega arith))
        (told_action k₄ (S₄.is_row S) mid d (omega arith) ∙ ap (λ (zs : List ℕ). tells mid (take d (drop mid zs))) same_cards)

    third : own.step (leaves_pending k₄ 1) Next ≡ steps_to (leaves_pending (leaves_pending k₄ 1) 0) done
    third = step_next (leaves_pending k₄ 1) _ (went_done (leaves_pending k₄ 1) (is_pending k₄ long₄ 1))

    in_two : ToldOut k lo hi
    in_two =
        let f = few in
        let e : TOLD ≡ mid - lo = omega arith in
        let p = part row lo mid in
        record {
          memory = leaves_pending k₄ 1;
          only = noted k k₄ 1 (omega arith) N;
          parts = p ∷ part row mid hi ∷ [];
          run =
              first TOLD (omega arith)
              ∙ ap₂ (λ (m : List ℕ) (n : ℕ). runs 2 own m Next (told lo (take n (drop lo row)) ∷ []) []) (rest_some k mid hi (omega arith)) e
              ∙ run_tells 1 own k₄ (leaves_pending k₄ 1) Next (p ∷ []) [] mid (take d (drop mid row)) (length_cut mid d (omega arith)) second
              ∙ run_done 0 own (leaves_pending k₄ 1) (leaves_pending (leaves_pending k₄ 1) 0) Next (p ∷ part row mid hi ∷ []) [] third;
          makes = λ old a. told_in_two old row lo hi a high mid (omega arith) (omega arith);
          inside = two_within row lo hi high mid (omega arith) (omega arith);
        }

  pub told_run : ToldOut k lo hi
  told_run = elim (cases_lt TOLD (hi - lo)) [ inl u ↦ in_two u | inr u ↦ in_one u ]

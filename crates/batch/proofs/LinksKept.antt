-- Several links said at once are done or refused rightly.
use Rattle.std.proofs.Common.{Ok, Bool, cond, ◌≡◌, ℕ, ◌+◌, ◌<◌, ◌≤◌, true, false, leb, ◌≢◌, List, ◌++◌, length, take, Some, None, Option, sym, refl, ap, ◌∙◌, subst, inl, inr, arith, length-append}
use Rattle.std.proofs.lemmas.Bool.{cases_Bool, cases_lt, both_ways, le-leb, lt-leb, leb-true}
use Rattle.memory.specs.declared.column.TheConstants.{MEMORY}
use Rattle.order.specs.declared.board.TheConstants.{LINKS}
use Rattle.order.specs.declared.board.Link.{Link}
use Rattle.order.specs.declared.board.Refusal.{Refusal}
use Rattle.order.specs.declared.board.Refusal.TheVariants.{Missing, Exists, Cycle, Full}
use Rattle.order.specs.Lists.{every}
use Rattle.order.specs.Board.{Board, keeps, fine}
use Rattle.command.specs.Commands.{told_rows}
use Rattle.order.proofs.Climbs.{fine_parts}
use Rattle.links.specs.declared.layout.TheConstants.{ENTRIES}
use Rattle.links.specs.Entries.{live}
use Rattle.row.specs.Moves.{packed}
use Rattle.links.proofs.Operating.{counts}
use Rattle.keeper.specs.Engine.{Ran}
use Rattle.keeper.specs.Answers.{Answer, quiet, ends, refuses, leaves_pending}
use Rattle.keeper.specs.declared.event.Act.TheVariants.{Done as IsDone}
use Rattle.memory.specs.Options.{given}
use Rattle.keeper.specs.Sister.{within}
use Rattle.keeper.specs.Meaning.{Means}
use Rattle.keeper.proofs.Knowing.{names}
use Rattle.keeper.proofs.Saying.{missing_is_not, exists_is_not, full_is_not}
use Rattle.memory.proofs.Footprints.{same}
use Rattle.keeper.specs.Columns.{columns}
use Rattle.keeper.proofs.Carrying.{noted, settles}
use Rattle.keeper.proofs.ToldRuns.{from_first}
use Rattle.batch.specs.declared.layout.TheConstants.{BATCH}
use Rattle.batch.specs.declared.seating.Span.{Span}
use Rattle.batch.specs.Dense.{Dense}
use Rattle.batch.specs.Several.{all_there, with_links, said_before, closes, several_refusal, Becomes, past_named}
use Rattle.batch.specs.SeveralLaws.{Between}
use Rattle.batch.specs.Checking.{span}
use Rattle.batch.specs.CheckLaws.{Names}
use Rattle.batch.specs.Joining.{Tried, tried}
use Rattle.batch.specs.JoinLaws.{AllIn, Stopped}
use Rattle.batch.specs.UndoLaws.{Covers}
use Rattle.batch.specs.Saying.{part_aside, undone, told_span, brought, closed, by_trial, rearranged, said_several}
use Rattle.batch.specs.Engine.{several, run_of}
use Rattle.batch.specs.Promise.{small_link, small_saying, Settled, Done, Refused}
use Rattle.batch.specs.Own.{answer, own}
use Rattle.batch.proofs.CardsThere.{finds_all}
use Rattle.batch.proofs.Spanning.{repeats, span_moves}
use Rattle.batch.proofs.ReadyAgain.{packed_long, packed_means, packed_row, tries_saved}
use Rattle.batch.proofs.Undoing.{undoes_all, undoes_stopped, undoes_none}
use Rattle.batch.proofs.SeveralBetween.{several_between}
use Rattle.batch.proofs.SeveralRows.{several_kept, several_single}
use Rattle.batch.proofs.SeveralOrder.{several_round}
use Rattle.batch.proofs.Tries.{means_fine, tries}
use Rattle.batch.proofs.SpanTold.{ToldSo, span_told}
use Rattle.batch.proofs.Runs.{idle_first, first_done, first_refused, first_round}
use Rattle.batch.proofs.Simulation.{Keeps, StepKept}

-- from the record of a run
module _ (m : List ℕ) (r : Board) (ls : List Link) (v : Ran) (q : run_of 3 own m (several ls) ≡ v) where
  refused_so : (w : Refusal) → several_refusal r ls ≡ Some w → Refused r (several ls) w v → Keeps v.memory r → StepKept own 3 m r (several ls)
  refused_so w z d k =
      rw q ((λ y. absurd (let x : ◌≡◌ {A = ℕ} 0 1 = cc in omega arith)), λ w₁ y. let x : w₁ ≡ w = cc in (rw x d, k))

  done_so : several_refusal r ls ≡ None → Done r (several ls) v → Keeps v.memory (record { row = told_rows r.row v.told; links = r.links ++ ls }) →
      StepKept own 3 m r (several ls)
  done_so z d k = rw q ((λ _. (d, k)), λ w y. absurd (let x : ◌≡◌ {A = ℕ} 0 1 = cc in omega arith))

-- what the row is, by how it came to be
settled : (r : Board) (ls : List Link) (row : List ℕ) → fine r ≡ true → all_there r ls ≡ true → Becomes r ls row → Settled r ls row
settled r ls row f t b = record {
  becomes = b;
  between = several_between r ls row f t b;
  unmoved = λ k. several_kept r ls row k b;
  alone = λ l e. ((several_single r l).1 row (subst (λ (xs : List Link). Becomes r xs row) e b)).0;
}

module _ (m : List ℕ) (r : Board) (ls : List Link) (long : length m ≡ MEMORY) (K : Keeps m r) (small : every small_link ls ≡ true) where
  M : Means m r
  M = K.means

  run_is : (a : Answer) → said_several m ls ≡ a → run_of 3 own m (several ls) ≡ from_first a
  unfolding answer small_saying
  run_is a e = idle_first m (several ls) (said_several m ls) M.idle small refl ∙ ap from_first e

  -- refused at once
  at_once : (w : Refusal) → w ≢ Cycle → several_refusal r ls ≡ Some w → said_several m ls ≡ quiet (refuses m w) → StepKept own 3 m r (several ls)
  unfolding Refused
  at_once w n z e =
      refused_so m r ls _ (run_is _ e ∙ first_refused m w) w z (refl, refl, (λ y. absurd (n y)), λ _. refl) K

  -- tried
  module _ (few : leb (length ls) BATCH ≡ true) (there : all_there r ls ≡ true) (fresh : said_before r ls ≡ false) where
    -- from the row packed on
    abbrev p : List ℕ
    p = packed m

    P : Means p r
    P = packed_means m r M

    D : Dense p
    D = packed_row m r M

    long_p : length p ≡ MEMORY
    long_p = packed_long m ∙ long

    abbrev o : Option Span
    o = span p ls

    abbrev m₀ : List ℕ
    m₀ = part_aside p o

    abbrev t : Tried
    t = tried m₀ ls 0

    room : length r.links + length ls ≤ ENTRIES
    room = omega (arith, K.few, leb-true (length ls) BATCH few)

    said_is : said_several m ls ≡ by_trial t ls o
    unfolding said_several rearranged
    said_is = rw (few, finds_all m r ls M ∙ there, repeats m r ls M there ∙ fresh) refl

    -- the part of the row, if it has to change
    kept_none : o ≡ None → keeps r.row (r.links ++ ls) ≡ true
    kept_none e = let b = rw e at (span_moves.1 m r ls M there).0 in grind arith

    kept_not : (s : Span) → o ≡ Some s → keeps r.row (r.links ++ ls) ≡ false
    kept_not s e = let b = rw e at (span_moves.1 m r ls M there).0 in grind arith

    part : (s : Span) → o ≡ Some s → Names r ls s
    part = (span_moves.1 m r ls M there).1

    covers : (s : Span) → o ≡ Some s → Covers s r ls
    covers s e =
        let w = part s e in record { lower = omega (arith, w.0); higher = omega (arith, w.1); within = omega (arith, w.1, w.3) }

    tried_so : (o₁ : Option Span) → (closes r ls ≡ false → AllIn (part_aside p o₁) r ls) × (closes r ls ≡ true → Stopped (part_aside p o₁) r ls)
    unfolding part_aside
    tried_so None = tries p r ls P small there fresh room
    tried_so (Some s) = tries_saved p r ls _ _ P small there fresh room

    either : (closes r ls ≡ false → AllIn m₀ r ls) × (closes r ls ≡ true → Stopped m₀ r ls)
    either = tried_so o

    -- links that were put in are taken out again
    undone_stopped : (o₁ : Option Span) → o ≡ o₁ → closes r ls ≡ true → Stopped (part_aside p o₁) r ls →
        Means (undone (tried (part_aside p o₁) ls 0).memory (take (tried (part_aside p o₁) ls 0).count ls) o₁) r
    unfolding part_aside
    undone_stopped None e round S = absurd ((several_round r ls (means_fine m r M) there round).1 r.row (kept_none e))
    undone_stopped (Some s) e round S = undoes_stopped p r ls s P D small there long_p (covers s e) S

    means_more : (m₁ : List ℕ) → keeps r.row (r.links ++ ls) ≡ true → (A : AllIn m₁ r ls) → Means (tried m₁ ls 0).memory (with_links r ls)
    means_more m₁ k A =
        subst (λ (xs : List ℕ). Means (tried m₁ ls 0).memory (record { row = xs; links = r.links ++ ls })) (several_kept r ls A.row k A.becomes) A.means

    undone_all : (o₁ : Option Span) → o ≡ o₁ → AllIn (part_aside p o₁) r ls → Means (undone (tried (part_aside p o₁) ls 0).memory ls o₁) r
    unfolding part_aside
    undone_all None e A = undoes_none _ r ls None small (λ s z. absurd (cc)) (means_more p (kept_none e) A)
    undone_all (Some s) e A = undoes_all p r ls s P D small there long_p (covers s e) A

    -- links that go round
    module _ (round : closes r ls ≡ true) where
      S : Stopped m₀ r ls
      S = either.1 round

      abbrev k : List ℕ
      k = undone t.memory (take t.count ls) o

      board_same : Means k r
      board_same = undone_stopped o refl round S

      closes_so : said_several m ls ≡ closed t.memory (take t.count ls) o S.way
      unfolding by_trial
      closes_so = said_is ∙ rw S.is_way refl

      shown : StepKept own 3 m r (several ls)
      unfolding several_refusal Refused
      shown =
          refused_so m r ls _ (run_is _ closes_so ∙ first_round k board_same.long S.way) Cycle (rw (few, there, fresh, round) refl)
          (refl, refl, (λ _. (S.way, refl, S.round)), λ n. absurd (n refl))
          (record {
            means = subst (Means (leaves_pending (leaves_pending k 2) 0)) (sym board_same.is)
                (settles k (leaves_pending k 2) board_same.ready board_same.single board_same.long (noted k k 2 (omega arith) (same columns k)));
            few = K.few;
          })

    -- links that don't
    module _ (flat : closes r ls ≡ false) where
      A : AllIn m₀ r ls
      A = either.0 flat

      abbrev row : List ℕ
      row = A.row

      B : Between r ls row
      B = several_between r ls row (means_fine m r M) there A.becomes

      counted : live t.memory ≡ length r.links + length ls
      counted =
          let N = A.means in
          counts t.memory N.ready.is_table ∙ sym (names t.memory N.ready).length_links_named
          ∙ ap (λ (b : Board). length b.links) (sym N.is) ∙ length-append r.links ls

      brings : (o₁ : Option Span) (b : Bool) → o ≡ o₁ → leb (live t.memory) LINKS ≡ b →
          said_several m ls
          ≡ cond b (given o₁ (quiet (ends (Ok IsDone) t.memory)) (λ s. told_span t.memory s)) (quiet (refuses (undone t.memory ls o₁) Full))
      unfolding by_trial brought
      brings o₁ b e h = said_is ∙ rw (A.no_way, h, e) refl

      too_many : LINKS < length r.links + length ls → StepKept own 3 m r (several ls)
      unfolding several_refusal Refused
      too_many h =
          refused_so m r ls _ (run_is _ (brings o false refl (lt-leb _ LINKS (omega (arith, counted)))) ∙ first_refused (undone t.memory ls o) Full) Full
          (rw (few, there, fresh, flat, lt-leb _ LINKS h) refl)
          (refl, refl, (λ y. absurd (full_is_not y)), λ _. refl) (record { means = undone_all o refl A; few = K.few })

      module _ (h : length r.links + length ls ≤ LINKS) where
        allowed : several_refusal r ls ≡ None
        unfolding several_refusal
        allowed = rw (few, there, fresh, flat, le-leb _ LINKS h) refl

        fits_in : length (r.links ++ ls) ≤ LINKS
        fits_in = omega (arith, length-append r.links ls)

        unmoved : o ≡ None → StepKept own 3 m r (several ls)
        unfolding Done told_rows every
        unmoved b =
            let k = kept_none b in
            let e = brings None true b (le-leb _ LINKS (omega (arith, counted))) in
            done_so m r ls _ (run_is _ e ∙ first_done t.memory) allowed (
              refl,
              refl,
              settled r ls r.row (means_fine m r M) there (subst (Becomes r ls) (several_kept r ls row k A.becomes) A.becomes),
              k,
              ((λ _. refl), refl),
            )
            (record { means = means_more m₀ k A; few = fits_in })

        told : (s : Span) → o ≡ Some s → ToldSo t.memory (record { row = row; links = r.links ++ ls }) s
        told s b =
            let w = part s b in
            span_told t.memory (record { row = row; links = r.links ++ ls }) A.means s (omega (arith, w.0, w.1, w.2))
            (omega (arith, w.1, w.3, B.as_long))

        moved : (s : Span) → o ≡ Some s → StepKept own 3 m r (several ls)
        unfolding Done
        moved s b =
            let w = part s b in
            let e = brings (Some s) true b (le-leb _ LINKS (omega (arith, counted))) in
            let T = told s b in
            let n = T.makes r.row (rw (w.0, w.1) (record { long = sym B.as_long; front = sym B.front; rest = sym B.rest })) in
            done_so m r ls _ (run_is _ e ∙ T.run) allowed (
              refl,
              refl,
              rw n (settled r ls row (means_fine m r M) there A.becomes),
              rw n (fine_parts _ B.fine_so).kept,
              (
                (λ k. absurd (both_ways _ (kept_not s b) k)),
                subst (λ (i : ℕ). every (within i (past_named r ls)) T.parts ≡ true) w.0
                    (subst (λ (j : ℕ). every (within s.low j) T.parts ≡ true) w.1 T.inside),
              ),
            )
            (record { means = rw n T.means; few = fits_in })

        by_part : (o₁ : Option Span) → o ≡ o₁ → StepKept own 3 m r (several ls)
        by_part None e = unmoved e
        by_part (Some s) e = moved s e

      all_in : StepKept own 3 m r (several ls)
      all_in = elim (cases_lt LINKS (length r.links + length ls)) [
        | inl h ↦ too_many h
        | inr h ↦ by_part h o refl
      ]

  pub several_links_kept : StepKept own 3 m r (several ls)
  unfolding several_refusal said_several
  several_links_kept = elim (cases_Bool (leb (length ls) BATCH)) [
    | inr few ↦ at_once Full full_is_not (rw few refl) (rw few refl)
    | inl few ↦ elim (cases_Bool (all_there r ls)) [
      | inr there ↦ at_once Missing missing_is_not (rw (few, there) refl) (rw (few, finds_all m r ls M ∙ there) refl)
      | inl there ↦ elim (cases_Bool (said_before r ls)) [
        | inl again ↦
            at_once Exists exists_is_not (rw (few, there, again) refl) (rw (few, finds_all m r ls M ∙ there, repeats m r ls M there ∙ again) refl)
        | inr fresh ↦ elim (cases_Bool (closes r ls)) [ inl round ↦ shown few there fresh round | inr flat ↦ all_in few there fresh flat ]
      ]
    ]
  ]

-- A row made anew is the one by the rule, and all of it is told.
use Rattle.std.proofs.Common.{◌≡◌, ℕ, true, List, length, sym, refl, ap, ◌∙◌, arith}
use Rattle.std.proofs.lemmas.List.{drop_all}
use Rattle.std.proofs.lemmas.List.Sorted.{length_permutation}
use Rattle.order.specs.Board.{Board}
use Rattle.command.specs.Commands.{told_rows}
use Rattle.memory.specs.declared.column.TheConstants.{MEMORY}
use Rattle.row.specs.Meaning.{count}
use Rattle.order.proofs.Climbs.{fine_parts}
use Rattle.row.proofs.Present.{length_cards}
use Rattle.keeper.proofs.ToldRuns.{from_first}
use Rattle.batch.specs.Engine.{anew}
use Rattle.batch.specs.Promise.{small_saying, Done, Refused}
use Rattle.batch.specs.Rule.{sorted}
use Rattle.batch.specs.Saying.{told_span}
use Rattle.batch.specs.Tidying.{tidied}
use Rattle.batch.specs.TidyLaws.{row_made, RowTidy}
use Rattle.batch.specs.Own.{whole_row, said_anew, answer, own}
use Rattle.batch.proofs.Sorts.{distinct_sorted, sorted_shuffles}
use Rattle.batch.proofs.RuleRows.{ruled_cards}
use Rattle.batch.proofs.Tidies.{tidies}
use Rattle.batch.proofs.Tries.{means_fine}
use Rattle.batch.proofs.SpanTold.{ToldSo, span_told}
use Rattle.batch.proofs.Runs.{idle_first}
use Rattle.batch.proofs.Simulation.{Keeps, StepKept}

module _ (m : List ℕ) (r : Board) (l : length m ≡ MEMORY) (K : Keeps m r) where
  abbrev k : List ℕ
  k = (tidied m).memory

  made : ((tidied m).all ≡ true) × ((new : List ℕ) × RowTidy r k new)
  made = tidies m r l K.means

  abbrev new : List ℕ
  new = made.1.0

  T : RowTidy r k new
  T = made.1.1

  as_long : length new ≡ length r.row
  as_long =
      (ruled_cards r.links (sorted r.row) new (distinct_sorted r.row ∙ (fine_parts r (means_fine m r K.means)).apart) T.ruled).1
      ∙ length_permutation r.row (sorted r.row) (sorted_shuffles r.row)

  counted : count k ≡ length new
  counted = sym (length_cards k T.means.ready.is_row) ∙ ap (λ (b : Board). length b.row) (sym T.means.is)

  told : ToldSo k (row_made r new) (whole_row k)
  told = span_told k (row_made r new) T.means (whole_row k) (omega arith) (omega (arith, counted))

  whole : (old : List ℕ) → length old ≡ length new → told_rows old told.parts ≡ new
  whole old e =
      told.makes old (record {
        long = e;
        front = refl;
        rest = drop_all (count k) old (omega (arith, counted)) ∙ sym (drop_all (count k) new (omega (arith, counted)));
      })

  pub anew_kept : StepKept own 3 m r anew
  unfolding Done Refused answer said_anew small_saying
  anew_kept =
      let a : said_anew m ≡ told_span k (whole_row k) = rw made.0 refl in
      let e = whole r.row (sym as_long) in
      rw (idle_first m anew (said_anew m) K.means.idle refl refl ∙ ap from_first a ∙ told.run) (
        (λ _. (
          (
            refl,
            refl,
            rw e T.ruled,
            rw e (fine_parts (row_made r new) T.fine_so).kept,
            λ old q. whole old (q ∙ ap length e) ∙ sym e,
          ),
          record { means = rw e told.means; few = K.few },
        )),
        λ w z. absurd (let x : ◌≡◌ {A = ℕ} 0 1 = cc in omega arith),
      )

-- A row made anew from any cards and links, as the code goes.
--
--   Made                    what is answered, or why it is refused; the memory and the output after it
--   MadeSo x                what is answered is that, and the memory and the output after it
--   new_row m n             the first n slots in SPARE
--   shown_row m n out       their cards shown
--   shown_circle m ks out   the cards of the slots ks shown, as a circle
--   ended m n out           one or the other, after n slots have come
--   made x out              the row of a memory that was filled made anew; or refused, if it couldn't be filled
--   made_anew m ks ls out   so for the cards ks and the links ls; where the memory or the output doesn't fit, refused, and nothing is changed
use Rattle.std.specs.Prelude.{◌≡◌, ℕ, cond, List, map, length, replicate, Ok, Err, Result, nat_lt}
use Rattle.std.specs.List.{range_with_len}
use Rattle.order.specs.declared.board.Link.{Link}
use Rattle.memory.specs.Columns.{cell}
use Rattle.row.specs.Meaning.{count}
use Rattle.memory.specs.Options.{given}
use Rattle.search.specs.Way.{over}
use Rattle.keeper.specs.declared.event.Reason.{Reason}
use Rattle.keeper.specs.declared.event.Reason.TheVariants.{Unfit, Board}
use Rattle.keeper.specs.Own.{step_fits}
use Rattle.batch.specs.declared.making_anew.Anew.{Anew}
use Rattle.batch.specs.declared.making_anew.Anew.TheVariants.{Row, Circle}
use Rattle.batch.specs.declared.layout.TheConstants.{SPARE}
use Rattle.batch.specs.Loading.{Loaded, loaded}
use Rattle.batch.specs.Renewing.{renewed}
use Rattle.batch.specs.Circling.{traced, round}

pub record Made : Type 0 where
  pub answer : Result Anew Reason
  pub memory : List ℕ
  pub out : List ℕ

pub record MadeSo (x : Made) (r : Result Anew Reason) (m₁ out₁ : List ℕ) : Type 0 where
  pub answer : r ≡ x.answer
  pub after : m₁ ≡ x.memory
  pub out : out₁ ≡ x.out

abbrev pub new_row : List ℕ → ℕ → List ℕ
new_row m n = map (cell m SPARE) (range_with_len 0 n)

abbrev pub shown_row : List ℕ → ℕ → List ℕ → Made
shown_row m n out = record { answer = Ok (Row n); memory = m; out = over m (new_row m n) n out }

abbrev pub shown_circle : List ℕ → List ℕ → List ℕ → Made
shown_circle m ks out = record { answer = Ok (Circle (length ks)); memory = m; out = over m ks (length ks) out }

unfoldable pub ended : List ℕ → ℕ → List ℕ → Made
ended m n out = cond (nat_lt n (count m)) (shown_circle (traced m n) (round (traced m n) (length out)) out) (shown_row m n out)

unfoldable pub made : Loaded → List ℕ → Made
made x out =
    given x.refused (ended (renewed x.memory).memory (renewed x.memory).came out)
    (λ e. record { answer = Err (Board e); memory = x.memory; out = out })

unfoldable pub made_anew : List ℕ → List ℕ → List Link → List ℕ → Made
made_anew m ks ls out =
    cond (step_fits m out) (made (loaded (replicate (length m) 0) ks ls) out) (record { answer = Err Unfit; memory = m; out = out })

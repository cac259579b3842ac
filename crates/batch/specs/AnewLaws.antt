-- What is proved of a row made anew from any cards and links. The two last names are statements; `src/anew_laws.rt` has a function for each, whose contract
-- it is.
--   cards_refusal before ks   why the cards ks can't come, one after the other, behind those before: the first reason, card by card; None: they can
--   links_refusal row ls      why the links ls can't be put in, between the cards of the row; None: they can
--   row_refusal row ls        why the row can't be made anew with these links; None: it can
--   Makes row ls out x        x is how it has to end: it is refused just for that reason, and then nothing is shown; if all cards come by the rule, what is
--                             shown is the row by the rule; else it is a circle of the links
--   MakesAnew                 with memory and output that fit, it ends so, whatever stood in the memory
--   MakesUnfit                if they don't fit, it is refused, and nothing changes
use Rattle.std.specs.Prelude.{◌≡◌, ℕ, ◌≤◌, true, false, cond, ◌&&◌, List, [], ◌∷◌, ◌++◌, length, drop, Some, None, Ok, Err, Option, ◌≢◌, nat_le}
use Rattle.order.specs.declared.board.TheConstants.{CARDS, LINKS}
use Rattle.order.specs.declared.board.Link.{Link}
use Rattle.order.specs.declared.board.Refusal.{Refusal}
use Rattle.order.specs.declared.board.Refusal.TheVariants.{Missing, Exists, Full}
use Rattle.order.specs.Lists.{every, has}
use Rattle.memory.specs.Options.{given}
use Rattle.keeper.specs.declared.event.Reason.TheVariants.{Unfit, Board}
use Rattle.memory.specs.declared.column.TheConstants.{MEMORY}
use Rattle.keeper.specs.declared.layout.TheConstants.{OUTPUT}
use Rattle.keeper.specs.Own.{step_fits}
use Rattle.batch.specs.declared.making_anew.Anew.TheVariants.{Row, Circle}
use Rattle.batch.specs.Several.{circle}
use Rattle.batch.specs.Rule.{anew}
use Rattle.batch.specs.MakingAnew.{Made, made_anew}

-- at most CARDS cards, no card twice
unfoldable pub cards_refusal : List ℕ → List ℕ → Option Refusal
cards_refusal before [] = None
cards_refusal before (k ∷ ks) =
    cond (has before k) (Some Exists) (cond (nat_le CARDS (length before)) (Some Full) (cards_refusal (before ++ k ∷ []) ks))

-- links between these cards, at most LINKS
unfoldable pub links_refusal : List ℕ → List Link → Option Refusal
links_refusal row ls =
    cond (every (λ l. has row l.from && has row l.to) ls) (cond (nat_le (length ls) LINKS) None (Some Full)) (Some Missing)

unfoldable pub row_refusal : List ℕ → List Link → Option Refusal
row_refusal row ls = given (cards_refusal [] row) (links_refusal row ls) (λ e. Some e)

pub record Makes (row : List ℕ) (ls : List Link) (out : List ℕ) (x : Made) : Type 0 where
  pub refused : (why : Refusal) → row_refusal row ls ≡ Some why → (x.answer ≡ Err (Board why)) × (x.out ≡ out)
  pub refused_just : (why : Refusal) → x.answer ≡ Err (Board why) → row_refusal row ls ≡ Some why
  pub done : row_refusal row ls ≡ None → length (anew ls row) ≡ length row →
      (x.answer ≡ Ok (Row (length row))) × (x.out ≡ anew ls row ++ drop (length row) out)
  pub round : row_refusal row ls ≡ None → (length (anew ls row) ≢ length row) →
      (way : List ℕ) × (x.answer ≡ Ok (Circle (length way))) × (x.out ≡ way ++ drop (length way) out)
      × (circle (record { row = row; links = ls }) way ≡ true)

abbrev pub MakesAnew : Type 0
MakesAnew =
    (m row : List ℕ) (ls : List Link) (out : List ℕ) → length m ≡ MEMORY → OUTPUT ≤ length out → Makes row ls out (made_anew m row ls out)

abbrev pub MakesUnfit : Type 0
MakesUnfit =
    (m row : List ℕ) (ls : List Link) (out : List ℕ) → step_fits m out ≡ false →
    made_anew m row ls out ≡ record { answer = Err Unfit; memory = m; out = out }

-- A memory filled from nothing, as the code goes.
--
--   Loaded             the memory after cards or links were put in, and why one was refused, if one was
--   LoadedSo x         what is answered is that: done, or the refusal, and the memory after it
--   refusal_of a       why a card was refused, if it was
--   cards_come m ks    the cards come, one after the other, up to the first that is refused
--   put_one m l        a link between cards put into the table, if both are there
--   put_all m ls       so for each of the links
--   links_come m ls    the links put in; refused if a card isn't there, or if there are too many
--   loaded m ks ls     both
use Rattle.std.specs.Prelude.{◌≡◌, ℕ, cond, List, [], ◌∷◌, length, Some, None, Ok, Err, Option, Result, nat_le}
use Rattle.order.specs.declared.board.TheConstants.{LINKS}
use Rattle.order.specs.declared.board.Link.{Link}
use Rattle.order.specs.declared.board.Refusal.{Refusal}
use Rattle.order.specs.declared.board.Refusal.TheVariants.{Missing, Full}
use Rattle.memory.specs.Options.{given}
use Rattle.row.specs.Moves.{came}
use Rattle.links.specs.Entries.{inserted}
use Rattle.keeper.specs.Linking.{slots_found}
use Rattle.batch.specs.Checking.{all_found}
use Rattle.batch.specs.Joining.{unless}
use Rattle.std.specs.List.{fold}

pub record Loaded : Type 0 where
  pub memory : List ℕ
  pub refused : Option Refusal

pub record LoadedSo (x : Loaded) (r : Result (Unit {0}) Refusal) (m₁ : List ℕ) : Type 0 where
  pub is : r ≡ unless x.refused
  pub after : m₁ ≡ x.memory

abbrev pub refusal_of : Result ℕ Refusal → Option Refusal
refusal_of (Ok s) = None
refusal_of (Err e) = Some e

unfoldable pub cards_come : List ℕ → List ℕ → Loaded
cards_come m [] = record { memory = m; refused = None }
cards_come m (k ∷ ks) =
    given (refusal_of (came m k).answer) (cards_come (came m k).memory ks) (λ e. record { memory = (came m k).memory; refused = Some e })

unfoldable pub put_one : List ℕ → Link → List ℕ
put_one m l = given (slots_found m l) m (λ x. inserted m x)

unfoldable pub put_all : List ℕ → List Link → List ℕ
put_all m ls = fold put_one m ls

unfoldable pub links_come : List ℕ → List Link → Loaded
links_come m ls =
    cond (all_found m ls)
    (cond (nat_le (length ls) LINKS) (record { memory = put_all m ls; refused = None }) (record { memory = m; refused = Some Full }))
    (record { memory = m; refused = Some Missing })

unfoldable pub loaded : List ℕ → List ℕ → List Link → Loaded
loaded m ks ls =
    given (cards_come m ks).refused (links_come (cards_come m ks).memory ls) (λ e. record { memory = (cards_come m ks).memory; refused = Some e })

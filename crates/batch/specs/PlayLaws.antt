-- What playing a saying does, in terms of the board.
--
--   DoneSo r s m     the memory means a board on which the saying is done: the row is as it has to be, all links are kept, and the links are those that the
--                    saying leaves
--   Plays            from a memory that means a board on, a saying that the board lets be done is done, and the memory then means the board after it; a saying
--                    that the board refuses is refused for the board's reason, and the memory means the same board
--   front p          the numbers that are said to be shown: so many at the front of the output
--   ShowsJust p ss   shown is what ss has: these numbers, once and no others; or none at all
--   PlaysShows       of a saying that is done, just what the promise names is shown; of links that would go round, a way by which they would; else nothing
--   PlaysUnfit       where the memory or the output doesn't fit, the saying is refused, and nothing is changed
use Rattle.std.specs.Prelude.{◌≡◌, ℕ, ◌≤◌, true, false, ◌≢◌, List, [], ◌∷◌, length, take, Some, None, Ok, Err}
use Rattle.memory.specs.declared.column.TheConstants.{MEMORY}
use Rattle.order.specs.declared.board.TheConstants.{LINKS}
use Rattle.order.specs.declared.board.Refusal.{Refusal}
use Rattle.order.specs.declared.board.Refusal.TheVariants.{Cycle}
use Rattle.order.specs.Board.{Board, keeps}
use Rattle.keeper.specs.declared.layout.TheConstants.{OUTPUT}
use Rattle.keeper.specs.declared.event.Reason.TheVariants.{Unfit, Board as ByBoard}
use Rattle.keeper.specs.Promise.{all_small}
use Rattle.keeper.specs.Own.{step_fits}
use Rattle.keeper.specs.Meaning.{Means}
use Rattle.keeper.specs.Playing.{Ending}
use Rattle.batch.specs.Engine.{Saying, said}
use Rattle.batch.specs.Promise.{small_saying, refused_for, links_then, RowSo, shown_so, RoundSo}
use Rattle.batch.specs.Playing.{played}

abbrev pub DoneSo : Board → Saying → List ℕ → Type 0
DoneSo r s m = (b : Board) × Means m b × RowSo r s b.row × (keeps b.row b.links ≡ true) × (b.links ≡ links_then r s)

abbrev pub Plays : Type 0
Plays =
    (m : List ℕ) (r : Board) (s : Saying) (out : List ℕ) → length m ≡ MEMORY → all_small m ≡ true → Means m r → length r.links ≤ LINKS →
    small_saying s ≡ true → OUTPUT ≤ length out →
    (refused_for r s ≡ None → ((played m (said s) out).answer.outcome ≡ Ok tt) × DoneSo r s (played m (said s) out).memory)
    × ((why : Refusal) → refused_for r s ≡ Some why →
    ((played m (said s) out).answer.outcome ≡ Err (ByBoard why)) × Means (played m (said s) out).memory r)

abbrev pub front : Ending → List ℕ
front p = take p.answer.shown p.out

abbrev pub ShowsJust : Ending → List (List ℕ) → Type 0
ShowsJust p [] = p.answer.shown ≡ 0
ShowsJust p (ks ∷ kss) = (kss ≡ []) × (p.answer.shown ≡ length ks) × (front p ≡ ks)

abbrev pub PlaysShows : Type 0
PlaysShows =
    (m : List ℕ) (r : Board) (s : Saying) (out : List ℕ) → length m ≡ MEMORY → all_small m ≡ true → Means m r → length r.links ≤ LINKS →
    small_saying s ≡ true → OUTPUT ≤ length out →
    (refused_for r s ≡ None → ShowsJust (played m (said s) out) (shown_so r s))
    × (refused_for r s ≡ Some Cycle →
    ShowsJust (played m (said s) out) (front (played m (said s) out) ∷ []) × RoundSo r s (front (played m (said s) out) ∷ []))
    × ((why : Refusal) → refused_for r s ≡ Some why → why ≢ Cycle → ShowsJust (played m (said s) out) [])

abbrev pub PlaysUnfit : Type 0
PlaysUnfit =
    (m : List ℕ) (s : Saying) (out : List ℕ) → step_fits m out ≡ false →
    played m (said s) out ≡ record { answer = record { shown = 0; outcome = Err Unfit }; memory = m; out = out }

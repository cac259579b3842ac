-- A board that is fine stays fine.
use Rattle.std.proofs.Common.{◌≡◌, ℕ, true, not, eqb, List, [], ◌∷◌, None, arith}
use Rattle.command.specs.declared.command.Command.{Command}
use Rattle.command.specs.declared.command.Command.TheVariants.{Comes, Goes, Link as Links, Unlink as Unlinks, Places}
use Rattle.order.specs.Lists.{every}
use Rattle.order.specs.Board.{Board, keeps, fine}
use Rattle.command.specs.Commands.{refusal, told_rows, row_before, links_after, may_be, must_be}
use Rattle.command.specs.Staying.{StaysFine}
use Rattle.order.proofs.Places.{has_append}
use Rattle.order.proofs.Filters.{has_filter, every_more, every_filter_more, same_is, distinct_filter, distinct_push}
use Rattle.order.proofs.Climbs.{fine_parts, fine_from}
use Rattle.order.proofs.Staying.{link_stays}
use Rattle.order.proofs.Only.{link_must_may}

-- the row that a command may make of the board's: if the links are kept, the board is fine
pub stays : (r : Board) (c : Command) (row : List ℕ) → fine r ≡ true → refusal r c ≡ None → may_be r c row ≡ true → keeps row (links_after r c) ≡ true →
    fine (record { row = row; links = links_after r c }) ≡ true
unfolding refusal may_be links_after row_before every
stays r (Comes k) row fi re m ke =
    let f = fine_parts r fi in
    let s = same_is row _ m in
    fine_from row r.links
    (rw s (distinct_push r.row k f.apart (grind arith)))
    (rw s (every_more _ _ (λ x e.
    let p = has_append r.row (k ∷ []) x.from in let q = has_append r.row (k ∷ []) x.to in grind arith) r.links f.ends))
    ke
stays r (Goes k) row fi re m ke =
    let f = fine_parts r fi in
    let s = same_is row _ m in
    fine_from row _
    (rw s (distinct_filter _ r.row f.apart))
    (rw s (every_filter_more _ _ _ (λ x e n.
    let p = has_filter (λ j. not (eqb j k)) r.row x.from in let q = has_filter (λ j. not (eqb j k)) r.row x.to in grind arith) r.links f.ends))
    ke
stays r (Links l) row fi re m ke = link_stays r l row fi re m ke
stays r (Unlinks l) row fi re m ke =
    let f = fine_parts r fi in
    let s = same_is row _ m in
    fine_from row _
    (rw s f.apart)
    (rw s (every_filter_more _ _ _ (λ x e _. e) r.links f.ends))
    ke
stays r (Places a b) row fi re m ke =
    let f = fine_parts r fi in
    let s = same_is row _ m in
    fine_from row _
    (rw s f.apart)
    (rw s f.ends)
    ke

pub stays_fine : StaysFine
stays_fine r c ts fi re m ke = stays r c (told_rows (row_before r c) ts) fi re m ke

-- a row that has to be so may be so
pub must_may : (r : Board) (c : Command) (row : List ℕ) → must_be r c row ≡ true → may_be r c row ≡ true
unfolding must_be may_be
must_may r (Comes k) row h = h
must_may r (Goes k) row h = h
must_may r (Links l) row h = link_must_may r l row h
must_may r (Unlinks l) row h = h
must_may r (Places a b) row h = h

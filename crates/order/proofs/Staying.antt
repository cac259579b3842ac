-- A board that is fine stays fine when a link is made.
use Rattle.std.proofs.Common.{◌≡◌, ℕ, true, List, None, ◌∙◌, arith}
use Rattle.std.proofs.lemmas.Bool.{and_from}
use Rattle.order.specs.declared.board.Link.{Link}
use Rattle.order.specs.Lists.{every, has}
use Rattle.order.specs.Board.{Board, ◌⟶◌, keeps, fine}
use Rattle.order.specs.Reordering.{link_refusal, with_link, link_may_be}
use Rattle.order.proofs.Filters.{every_append, every_more}
use Rattle.order.proofs.Climbs.{fine_parts, fine_from}
use Rattle.order.proofs.Allowed.{link_there}
use Rattle.order.proofs.Little.{link_has}

-- the row that a link between cards that are there may make of the board's: if the links are kept, the board is fine
pub open_stays : (r : Board) → fine r ≡ true → (a b : ℕ) → (has r.row a ≡ true) × (has r.row b ≡ true) → (row : List ℕ) →
    link_may_be r (a ⟶ b) row ≡ true → keeps row (with_link r a b) ≡ true → fine (record { row = row; links = with_link r a b }) ≡ true
unfolding every
open_stays r fi a b t row m ke =
    let f = fine_parts r fi in
    let p = link_has r f a b row m in
    let ha = p.1 a in
    let hb = p.1 b in
    fine_from row _ p.0
    (every_append _ r.links _
    ∙ and_from _ _ (every_more _ _ (λ x e. let hf = p.1 x.from in let ht = p.1 x.to in grind arith) r.links f.ends) (grind arith))
    ke

pub link_stays : (r : Board) (l : Link) (row : List ℕ) → fine r ≡ true → link_refusal r l ≡ None → link_may_be r l row ≡ true →
    keeps row (with_link r l.from l.to) ≡ true → fine (record { row = row; links = with_link r l.from l.to }) ≡ true
link_stays r l row fi re m ke = open_stays r fi l.from l.to (link_there r l.from l.to re) row m ke

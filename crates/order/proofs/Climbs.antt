-- In a fine board ways go up in the row, and leads finds them all.
use Rattle.std.proofs.Common.{◌≡◌, ℕ, zero, suc, ◌+◌, ◌<◌, ◌≤◌, true, ◌&&◌, ltb, List, [], ◌∷◌, length, ap, arith}
use Rattle.std.proofs.lemmas.Bool.{ltb-true, and_parts, and_from}
use Rattle.order.specs.declared.board.Link.{Link}
use Rattle.order.specs.Lists.{every, any, has, place, distinct}
use Rattle.order.specs.Board.{Board, keeps, fine, leads}
use Rattle.order.proofs.Places.{place_below}
use Rattle.order.proofs.Filters.{every_at}
use Rattle.order.proofs.Ways.{joins, Way, rounds_way, way_rounds}

-- the parts of fine
pub record Fine (r : Board) : Type 0 where
  pub apart : distinct r.row ≡ true
  pub ends : every (λ l. has r.row l.from && has r.row l.to) r.links ≡ true
  pub kept : keeps r.row r.links ≡ true

pub fine_parts : (r : Board) → fine r ≡ true → Fine r
fine_parts r h = let p = and_parts _ _ h in let q = and_parts _ _ p.1 in record { apart = p.0; ends = q.0; kept = q.1 }

pub fine_from : (row : List ℕ) (links : List Link) → distinct row ≡ true → every (λ l. has row l.from && has row l.to) links ≡ true →
    keeps row links ≡ true → fine (record { row = row; links = links }) ≡ true
fine_from row links d e k = and_from _ _ d (and_from _ _ e k)

module _ (r : Board) (f : Fine r) where
  pub link_ends : (a b : ℕ) → joins r.links a b ≡ true → (has r.row a ≡ true) × (has r.row b ≡ true)
  link_ends a b e = and_parts _ _ (every_at (λ x y. has r.row x && has r.row y) r.links a b f.ends e)

  pub link_before : (a b : ℕ) → joins r.links a b ≡ true → place r.row a < place r.row b
  link_before a b e = ltb-true _ _ (every_at (λ x y. ltb (place r.row x) (place r.row y)) r.links a b f.kept e)

  -- a way of m links goes up by m places at least
  pub way_climbs : (m a b : ℕ) → Way r.links m a b → has r.row a ≡ true → (m + place r.row a ≤ place r.row b) × (has r.row b ≡ true)
  way_climbs zero a b w h = (omega (arith, ap (place r.row) w), rw w at h)
  way_climbs (suc m) a b w h =
      let l = link_before a w.0 w.1 in
      let ih = way_climbs m w.0 b w.2 (link_ends a w.0 w.1).1 in
      (omega arith, ih.1)

  pub way_leads : (m a b : ℕ) → Way r.links m a b → has r.row a ≡ true → leads r a b ≡ true
  unfolding any
  way_leads m a b w h =
      let c = way_climbs m a b w h in
      let p = place_below r.row b c.1 in
      way_rounds r.links (length r.row) (a ∷ []) m a b (omega arith) (grind arith) w

  pub leads_way : (a b : ℕ) → leads r a b ≡ true → (m : ℕ) × Way r.links m a b
  unfolding any
  leads_way a b h =
      let w = rounds_way r.links (length r.row) (a ∷ []) b h in
      let e : w.1 ≡ a = let t = w.3 in grind arith in
      (w.0, rw e at w.4)

-- What leads where: it leads on, it stands before, and it is just what links lead to.
use Rattle.std.proofs.Common.{◌≡◌, ℕ, zero, suc, ◌+◌, ◌≤◌, true, ◌⊎◌, [], ◌∷◌, length, refl, ap, inl, inr, arith}
use Rattle.order.specs.Lists.{any, place}
use Rattle.order.specs.Board.{Board, linked, leads}
use Rattle.order.specs.Theory.{LeadsOn, LeadsBefore, LeadsJust}
use Rattle.order.proofs.Ways.{Way, way_join, way_rounds}
use Rattle.order.proofs.Climbs.{Fine, fine_parts, link_ends, way_climbs, way_leads, leads_way}

module _ (r : Board) (f : Fine r) where
  -- ways lead and climb, from cards that aren't there too: no link leaves them
  leads_any : (m a b : ℕ) → Way r.links m a b → leads r a b ≡ true
  unfolding any
  leads_any zero a b w = way_rounds r.links (length r.row) (a ∷ []) 0 a b (omega arith) (grind arith) w
  leads_any (suc m) a b w = way_leads r f (suc m) a b w (link_ends r f a w.0 w.1).0

  climbs_any : (m a b : ℕ) → Way r.links m a b → m + place r.row a ≤ place r.row b
  climbs_any zero a b w = omega (arith, ap (place r.row) w)
  climbs_any (suc m) a b w = (way_climbs r f (suc m) a b w (link_ends r f a w.0 w.1).0).0

  first_link : (m a c : ℕ) → Way r.links m a c → (a ≡ c) ⊎ ((d : ℕ) × (linked r a d ≡ true) × (leads r d c ≡ true))
  first_link zero a c w = inl w
  first_link (suc m) a c w = inr (w.0, w.1, leads_any m w.0 c w.2)

  -- a way there and a way back have no link
  back_any : (m n a b : ℕ) → Way r.links m a b → Way r.links n b a → a ≡ b
  back_any zero n a b v w = v
  back_any (suc m) n a b v w = absurd (omega (arith, climbs_any (suc m) a b v, climbs_any n b a w))

pub leads_just : LeadsJust
leads_just r a b c fi =
    let f = fine_parts r fi in (
      leads_any r f 0 a a refl,
      (λ e. leads_any r f 1 a b (b, e, refl)),
      (λ l k.
          let v = leads_way r f a b l in
          let w = leads_way r f b c k in
          let z = way_join r.links v.0 w.0 a b c v.1 w.1 in
          leads_any r f z.0 a c z.1),
      (λ l. let v = leads_way r f a c l in first_link r f v.0 a c v.1),
      (λ l k. let v = leads_way r f a b l in let w = leads_way r f b a k in back_any r f v.0 w.0 a b v.1 w.1),
      λ l. let v = leads_way r f a b l in omega (arith, climbs_any r f v.0 a b v.1),
    )

pub leads_on : LeadsOn
leads_on r a b c fi h = let j = leads_just r a b c fi in (j.0, (λ e l. j.2 (j.1 e) l), j.4)

pub leads_before : LeadsBefore
leads_before r a b fi h l = (leads_just r a b b fi).5 l

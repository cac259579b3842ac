-- What the contracts of the operations say.
use Rattle.std.proofs.Common.{◌≡◌, ℕ, true, List, [], ◌∷◌, ◌++◌, sym, ap, ◌∙◌, arith}
use Rattle.chains.specs.declared.cells.Pointer.{Pointer}
use Rattle.chains.specs.declared.cells.Cell.{Cell}
use Rattle.chains.specs.declared.chain_table.ChainTable.{ChainTable}
use Rattle.chains.specs.Tables.{node, at, pushed, unhooked}
use Rattle.chains.specs.Chains.{Spells, has}
use Rattle.chains.specs.Laws.{Comes, Goes, GoesOn}
use Rattle.chains.proofs.Walking.{Leads, walked_led}
use Rattle.chains.proofs.Reading.{has_first, has_more, Off, head_off, rest, short}
use Rattle.chains.proofs.Operating.{holds_pushed, holds_unhooked, unhooked_nexts}
use Rattle.chains.proofs.Framing.{pushed_writes, unhooked_writes}

module _ (F : ChainTable) (m : List ℕ) where
  pub comes : (k : ℕ) (x : Pointer) → Comes F m k x (pushed F m k x)
  unfolding Comes
  comes k x chains h b r a = holds_pushed F m chains h k b x r a

  pub goes : (e : ℕ) → Goes F m e (unhooked F m e)
  unfolding Goes
  goes e chains k h b t = holds_unhooked F m chains h k e b t

  -- the places behind the entry that is out lead where they led
  led_on : (f' : ℕ → Cell) (c : ℕ) → ((p : ℕ) → (p ≡ c → ⊥) → (f' p).next ≡ (at F m p).next) → (ys : List Pointer) (p : ℕ)
      → Spells F (at F m) p ys → (p ≡ c → ⊥) → Off F (at F m) ys c → Leads F f' p ys
  led_on f' c n [] p s d o = ap (λ (i : Pointer). i.held) (n p d) ∙ s
  led_on f' c n (y ∷ ys) p s d o =
      (n p d ∙ s.0, s.1.entry, led_on f' c n ys (node F y.held) s.3 (λ e. o y.held (has_first y ys) (sym e)) (λ z t. o z (has_more y ys z t)))

  has_behind : (xs ys : List Pointer) (x : Pointer) → has x.held (xs ++ x ∷ ys) ≡ true
  has_behind [] ys x = has_first x ys
  has_behind (y ∷ xs) ys x = has_more y (xs ++ x ∷ ys) x.held (has_behind xs ys x)

  pub goes_on : (e : ℕ) → GoesOn F m e (unhooked F m e)
  unfolding GoesOn
  goes_on e chains k f xs ys x h b q i l =
      let r = rest F (at F m) xs (x ∷ ys) k (rw q at (h.spelled k b)) (head_off F (at F m) (xs ++ x ∷ ys) k b) in
      let v : (at F m (node F x.held)).back ≡ r.0 = r.1.2 in
      let n = unhooked_nexts F m chains h k x.held b (rw q (has_behind xs ys x)) in
      let w = led_on (at F (unhooked F m x.held)) r.0 (λ p d. n p (λ z. d (z ∙ v))) ys (node F x.held) r.1.3 (λ z. r.2 x.held (has_first x ys) (sym z))
      (λ z u. r.2 z (has_more x ys z u)) in
      let g = short F (at F m) (x ∷ ys) r.0 r.1 r.2 in
      rw (← i) (walked_led F (unhooked F m x.held) f ys (node F x.held) w (omega arith))

pub ruleset laws = (comes, goes, goes_on, pushed_writes, unhooked_writes)

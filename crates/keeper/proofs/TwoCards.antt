-- Two cards that are spoken of, and their slots.
use Rattle.std.proofs.Common.{◌≡◌, ℕ, true, false, ltb, List, Some, None, sym, ◌∙◌, inl, inr}
use Rattle.std.proofs.lemmas.Bool.{cases_Bool, both_ways}
use Rattle.order.specs.declared.board.Link.{Link}
use Rattle.order.specs.Lists.{has}
use Rattle.order.specs.Board.{Board, ◌⟶◌, linked, leads}
use Rattle.order.specs.Reordering.{backward}
use Rattle.order.proofs.Climbs.{fine_parts, link_ends}
use Rattle.memory.specs.Columns.{cell}
use Rattle.row.specs.declared.layout.TheConstants.{IDS, SEATS}
use Rattle.row.specs.Lookup.{found}
use Rattle.row.specs.Meaning.{used, cards}
use Rattle.row.proofs.Present.{finds}
use Rattle.row.proofs.Named.{order_slots}
use Rattle.search.specs.Meaning.{slot_board, Ready}
use Rattle.keeper.specs.Meaning.{card_board}
use Rattle.keeper.specs.Linking.{slots_found}
use Rattle.keeper.proofs.Knowing.{names, fine_cards}

-- a card that is there, and its slot
pub record Seated (m : List ℕ) (k s : ℕ) : Type 0 where
  pub is_found : found m k ≡ Some s
  pub in_use : used m s ≡ true
  pub card : cell m IDS s ≡ k

module _ (m : List ℕ) (R : Ready m) where
  abbrev r : Board
  r = card_board m

  pub seated : (k : ℕ) → has (cards m) k ≡ true → (s : ℕ) × Seated m k s
  seated k h = let w = (finds m k R.is_row).2 h in (w.0, record { is_found = w.1; in_use = w.2; card = w.3 })

  pub absent : (k : ℕ) → has (cards m) k ≡ false → found m k ≡ None
  absent k n = (finds m k R.is_row).1 n

  pub slots_there : (l : Link) (s t : ℕ) → Seated m l.from s → Seated m l.to t → slots_found m l ≡ Some (s ⟶ t)
  unfolding slots_found
  slots_there l s t a b = rw (a.is_found, b.is_found)

  pub first_absent : (l : Link) → has (cards m) l.from ≡ false → slots_found m l ≡ None
  unfolding slots_found
  first_absent l n = rw (absent l.from n)

  pub second_absent : (l : Link) (s : ℕ) → Seated m l.from s → has (cards m) l.to ≡ false → slots_found m l ≡ None
  unfolding slots_found
  second_absent l s a n = rw (a.is_found, absent l.to n)

  -- no link with a card that isn't there
  pub unlinked_first : (a b : ℕ) → has (cards m) a ≡ false → linked r a b ≡ false
  unlinked_first a b n = elim (cases_Bool (linked r a b)) [
    | inl h ↦ absurd (both_ways _ n (link_ends r (fine_parts r (fine_cards m R)) a b h).0)
    | inr h ↦ h
  ]

  pub unlinked_second : (a b : ℕ) → has (cards m) b ≡ false → linked r a b ≡ false
  unlinked_second a b n = elim (cases_Bool (linked r a b)) [
    | inl h ↦ absurd (both_ways _ n (link_ends r (fine_parts r (fine_cards m R)) a b h).1)
    | inr h ↦ h
  ]

  -- what is so of two cards is so of their slots
  module _ (a b s t : ℕ) (A : Seated m a s) (B : Seated m b t) where
    pub linked_is : linked r a b ≡ linked (slot_board m) s t
    linked_is = rw (sym A.card, sym B.card) ((names m R).linked_named s t A.in_use B.in_use)

    pub leads_is : leads r b a ≡ leads (slot_board m) t s
    leads_is = rw (sym A.card, sym B.card) ((names m R).leads_named t s B.in_use A.in_use)

    pub backward_seats : backward r a b ≡ ltb (cell m SEATS t) (cell m SEATS s)
    backward_seats =
        rw (sym A.card, sym B.card) ((names m R).backward_named s t A.in_use B.in_use)
        ∙ sym (order_slots m R.is_row t s B.in_use A.in_use)

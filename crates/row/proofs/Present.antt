-- The cards in the row: they stand in slots in use, a card is found if and only if it's there, and at its place.
use Rattle.std.proofs.Common.{◌≡◌, ℕ, zero, suc, ◌+◌, ◌<◌, ◌≤◌, Bool, true, false, cond, eqb, List, [], ◌∷◌, map, length, get_or, Some, None, sym, refl, ap, ◌∙◌, inl, inr, arith}
use lib.ListN.{length-map}
use Rattle.std.proofs.lemmas.Bool.{cases_Bool, eq-eqb, eqb-true, and_parts, and_from, or_left, or_right, both_ways}
use Rattle.order.specs.declared.board.TheConstants.{CARDS}
use Rattle.order.specs.Lists.{any, filter, has, place, distinct}
use Rattle.order.proofs.Members.{few_below}
use Rattle.order.proofs.RenamesLists.{has_map, place_map, distinct_map}
use Rattle.memory.specs.Columns.{cell}
use Rattle.row.specs.declared.layout.TheConstants.{HEADS, IDS, SLOTS, SEATS}
use Rattle.row.specs.Lookup.{bucket, entry, sought, found}
use Rattle.row.specs.Meaning.{listed, count, ending, taken, row_of, cards, used, place_at, IsRow}
use Rattle.row.specs.Moves.{place_found}
use Rattle.row.proofs.Chaining.{holder}
use Rattle.row.proofs.Seeking.{sought_none, sought_some}
use Rattle.row.proofs.Hashing.{bucket_below}
use Rattle.row.proofs.Listing.{rest}
use Rattle.row.proofs.Along.{rest_not}
use Rattle.row.proofs.Seatings.{one_seat}
use Rattle.row.proofs.Rows.{seated, at_seat, rank_below, slot_is}
use Rattle.row.proofs.Named.{ranked, standing, one_slot, used_below, used_seat, row_used, has_used, has_slot, place_slot, length_slots}

-- what another name is of, in a list
named_in : (f : ℕ → ℕ) (xs : List ℕ) (k : ℕ) → has (map f xs) k ≡ true → (s : ℕ) × (has xs s ≡ true) × (f s ≡ k)
unfolding any
named_in f [] k h = absurd (both_ways false refl h)
named_in f (x ∷ xs) k h = elim (cases_Bool (eqb k (f x))) [
  | inl e ↦ (x, or_left _ _ (eq-eqb x x refl), sym (eqb-true k (f x) e))
  | inr e ↦ let w = named_in f xs k (grind arith) in (w.0, or_right _ _ w.1, w.2)
]

module _ (m : List ℕ) (S : IsRow m) where
  pub slot_used : (p : ℕ) → taken m p ≡ true → (used m (cell m SLOTS p) ≡ true) × (cell m SEATS (cell m SLOTS p) ≡ p)
  slot_used p h = (at_seat m (seated m S) p h, (standing m S).seated.seat_of p h)

  pub used_place : (t : ℕ) → used m t ≡ true → (place_at m t < count m) × (get_or (row_of m) (place_at m t) 0 ≡ t)
  used_place t u =
      let w = used_seat m S t u in
      let a = rank_below m (seated m S) (cell m SEATS t) w.0 in let l = length_slots m S in let r = ranked m S t u in
      (omega arith, ap (λ (x : ℕ). get_or (row_of m) x 0) r ∙ slot_is m (seated m S) (cell m SEATS t) w.0 ∙ w.1)

  -- their cards
  pub length_cards : length (cards m) ≡ count m
  length_cards = length-map (row_of m) (cell m IDS) ∙ length_slots m S

  pub few_cards : count m ≤ CARDS
  few_cards = let a = (standing m S).freed.all in let b = (standing m S).freed.few in omega arith

  pub has_card : (t : ℕ) → used m t ≡ true → has (cards m) (cell m IDS t) ≡ true
  has_card t u = has_map (cell m IDS) (used m) (one_slot m S) (row_of m) t (row_used m S) u ∙ has_slot m S t u

  pub place_card : (t : ℕ) → used m t ≡ true → place (cards m) (cell m IDS t) ≡ place_at m t
  place_card t u = place_map (cell m IDS) (used m) (one_slot m S) (row_of m) t (row_used m S) u ∙ place_slot m S t u

  -- the slot of a card that's there
  pub card_slot : (k : ℕ) → has (cards m) k ≡ true → (s : ℕ) × (used m s ≡ true) × (cell m IDS s ≡ k)
  card_slot k h = let w = named_in (cell m IDS) (row_of m) k h in (w.0, sym (has_used m S w.0) ∙ w.1, w.2)

  -- looking for a card
  pub chain_below : (b t : ℕ) → b < HEADS → has ((standing m S).chains.of b) t ≡ true → t < CARDS
  chain_below b t l h = used_below m S t (and_parts _ _ (sym ((standing m S).chains.holds b t l) ∙ h)).0

  pub sought_there : (s : ℕ) → used m s ≡ true →
      sought CARDS m (bucket (cell m IDS s)) (cell m IDS s)
      ≡ Some (entry (holder (bucket (cell m IDS s)) ((standing m S).chains.of (bucket (cell m IDS s))) s) s)
  sought_there s u =
      let k = cell m IDS s in
      let b = bucket k in
      let l = bucket_below k in
      let C = (standing m S).chains in
      let xs = C.of b in
      sought_some m k CARDS xs b s (C.spells b l) (λ t h. chain_below b t l h)
      (few_below CARDS xs (C.once b l) (λ t h. chain_below b t l h))
      (C.holds b s l ∙ and_from _ _ u (eq-eqb b b refl)) refl
      (λ t h e. one_slot m S t s (and_parts _ _ (sym (C.holds b t l) ∙ h)).0 u e)

  pub sought_absent : (k : ℕ) → has (cards m) k ≡ false → sought CARDS m (bucket k) k ≡ None
  sought_absent k n =
      let b = bucket k in
      let l = bucket_below k in
      let C = (standing m S).chains in
      sought_none m k CARDS (C.of b) b (C.spells b l) (λ t h. chain_below b t l h)
      (λ t h e. both_ways (has (cards m) k) n (ap (has (cards m)) (sym e) ∙ has_card t (and_parts _ _ (sym (C.holds b t l) ∙ h)).0))

  pub found_there : (s : ℕ) → used m s ≡ true → found m (cell m IDS s) ≡ Some s
  unfolding found
  found_there s u = rw (sought_there s u)

  pub found_absent : (k : ℕ) → has (cards m) k ≡ false → found m k ≡ None
  unfolding found
  found_absent k n = rw (sought_absent k n)

-- no slot stands twice: two seats have two slots
distinct_rest : (r : ℕ → ℕ) (f : ℕ → Bool) → ((p q : ℕ) → f p ≡ true → f q ≡ true → r p ≡ r q → p ≡ q) → (a n : ℕ) → distinct (rest r f a n) ≡ true
unfolding distinct filter
distinct_rest r f h a zero = refl
distinct_rest r f h a (suc n) = elim (cases_Bool (f a)) [
  | inl y ↦ rw (y, rest_not r f (r a) (a + 1) n (λ p l u z e. let i = h p a z y e in omega arith)) (distinct_rest r f h (a + 1) n)
  | inr y ↦ rw y (distinct_rest r f h (a + 1) n)
]

-- no card stands twice
pub apart : (m : List ℕ) → IsRow m → distinct (cards m) ≡ true
unfolding listed
apart m S =
    distinct_map (cell m IDS) (used m) (one_slot m S) (row_of m) (row_used m S)
    ∙ distinct_rest (cell m SLOTS) (taken m) (one_seat S.stands.seated) 0 (ending m)

-- a card is found just if it's there, and at its place
pub finds_place : (m : List ℕ) (k : ℕ) → IsRow m → place_found m k ≡ cond (has (cards m) k) (Some (place (cards m) k)) None
unfolding place_found
finds_place m k S = elim (cases_Bool (has (cards m) k)) [
  | inl h ↦
      let w = card_slot m S k h in
      let e : found m k ≡ Some w.0 = ap (found m) (sym w.2) ∙ found_there m S w.0 w.1 in
      rw (h, e) (ap Some (sym (place_card m S w.0 w.1) ∙ ap (place (cards m)) w.2))
  | inr h ↦ rw (h, found_absent m S k h)
]

pub finds : (m : List ℕ) (k : ℕ) → IsRow m →
    (place_found m k ≡ cond (has (cards m) k) (Some (place (cards m) k)) None)
    × (has (cards m) k ≡ false → found m k ≡ None)
    × (has (cards m) k ≡ true → (s : ℕ) × (found m k ≡ Some s) × (used m s ≡ true) × (cell m IDS s ≡ k))
finds m k S = (
  finds_place m k S,
  (λ n. found_absent m S k n),
  (λ h. let w = card_slot m S k h in (w.0, ap (found m) (sym w.2) ∙ found_there m S w.0 w.1, w.1, w.2)),
)

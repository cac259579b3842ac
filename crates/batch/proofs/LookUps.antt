-- Where a card is found depends on the columns of the look-up alone; what is found is a slot; and it is found just if it is there.
use Rattle.std.proofs.Common.{◌≡◌, ℕ, zero, suc, ◌+◌, ◌<◌, ◌&&◌, List, [], ◌∷◌, is_some, Some, None, Option, sym, refl, ap, ◌∙◌, ap₂, inl, inr, arith}
use Rattle.std.proofs.lemmas.Bool.{cases_Bool}
use Rattle.order.specs.declared.board.TheConstants.{CARDS}
use Rattle.order.specs.declared.board.Link.{Link}
use Rattle.order.specs.Lists.{every, has}
use Rattle.order.specs.Board.{◌⟶◌}
use Rattle.memory.specs.Columns.{cell}
use Rattle.memory.specs.Options.{given, Within}
use Rattle.memory.proofs.Options.{given_holds}
use Rattle.row.specs.declared.layout.TheConstants.{HEADS, IDS, CHAIN}
use Rattle.row.specs.Lookup.{EntryBelow, bucket, followed, sought, found}
use Rattle.row.specs.Meaning.{cards, IsRow}
use Rattle.row.proofs.Present.{finds}
use Rattle.row.proofs.Seeking.{sought_low}
use Rattle.keeper.specs.Linking.{slots_found}
use Rattle.batch.specs.Arranging.{slot_of}
use Rattle.batch.specs.Checking.{all_found}

given_same : {X Y : Type 0} (o : Option X) (z : Y) (f g : X → Y) → ((x : X) → f x ≡ g x) → given o z f ≡ given o z g
given_same None z f g h = refl
given_same (Some x) z f g h = h x

module _ (m m' : List ℕ) (i : (j : ℕ) → cell m' IDS j ≡ cell m IDS j) (x : (j : ℕ) → cell m' CHAIN j ≡ cell m CHAIN j) where
  sought_alike : (f p k : ℕ) → sought f m' p k ≡ sought f m p k
  unfolding sought followed
  sought_alike zero p k = refl
  sought_alike (suc f) p k = rw (x p) (given_same (followed m p) None _ _ (λ s. rw (i s, sought_alike f (HEADS + s) k)))

  pub found_alike : (k : ℕ) → found m' k ≡ found m k
  unfolding found
  found_alike k = rw (sought_alike CARDS (bucket k) k)

-- what is found is a slot
pub found_below : (m : List ℕ) (k : ℕ) → slot_of m k < CARDS
unfolding found
found_below m k =
    given_holds (Within CARDS) (λ (s : ℕ). s < CARDS) (found m k) 0 (λ s. s)
    (given_holds EntryBelow (Within CARDS) (sought CARDS m (bucket k) k) None (λ e. Some e.number) (sought_low CARDS m (bucket k) k) tt (λ e b. b))
    (omega arith) (λ s b. b)

-- whether the cards of links are found
both_some : (o p : Option ℕ) → is_some (given o None (λ a. given p None (λ b. Some (a ⟶ b)))) ≡ (is_some o && is_some p)
both_some None p = refl
both_some (Some a) None = refl
both_some (Some a) (Some b) = refl

module _ (m : List ℕ) (S : IsRow m) where
  found_there : (k : ℕ) → is_some (found m k) ≡ has (cards m) k
  found_there k = elim (cases_Bool (has (cards m) k)) [
    | inl h ↦ ap is_some ((finds m k S).2 h).1 ∙ sym h
    | inr h ↦ ap is_some ((finds m k S).1 h) ∙ sym h
  ]

  pub all_found_is : (ls : List Link) → all_found m ls ≡ every (λ l. has (cards m) l.from && has (cards m) l.to) ls
  unfolding every slots_found
  all_found_is [] = refl
  all_found_is (l ∷ ls) =
      ap₂ ◌&&◌ (both_some (found m l.from) (found m l.to) ∙ ap₂ ◌&&◌ (found_there l.from) (found_there l.to)) (all_found_is ls)

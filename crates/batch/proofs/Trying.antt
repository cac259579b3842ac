-- The loops that try links and take them out, step by step.
use Rattle.std.proofs.Common.{◌≡◌, ◌⊎◌, ℕ, ◌+◌, ◌<◌, ◌≤◌, List, length, get_or, drop, Some, None, Option, refl, inl, inr, ◌∙◌}
use Rattle.std.proofs.lemmas.List.{at_drop_more, at_drop_all}
use Rattle.order.specs.declared.board.Link.{Link}
use Rattle.batch.specs.Joining.{joined, tried}

pub a_way : (o : Option (List ℕ)) → (o ≡ None) ⊎ ((ks : List ℕ) × (o ≡ Some ks))
a_way None = inl refl
a_way (Some ks) = inr (ks, refl)

module _ (m : List ℕ) (ls : List Link) (i : ℕ) (h : i < length ls) where
  abbrev d : Link
  d = record { from = 0; to = 0 }

  pub tried_on : (joined m (get_or ls i d)).way ≡ None → tried m (drop i ls) i ≡ tried (joined m (get_or ls i d)).memory (drop (i + 1) ls) (i + 1)
  unfolding tried
  tried_on e = at_drop_more (λ (xs : List Link). tried m xs i) ls i d h ∙ rw e refl

  pub tried_up : (ks : List ℕ) → (joined m (get_or ls i d)).way ≡ Some ks →
      tried m (drop i ls) i ≡ record { memory = (joined m (get_or ls i d)).memory; count = i; way = Some ks }
  unfolding tried
  tried_up ks e = at_drop_more (λ (xs : List Link). tried m xs i) ls i d h ∙ rw e refl

module _ (m : List ℕ) (ls : List Link) (i : ℕ) (h : length ls ≤ i) where
  pub tried_end : (k : ℕ) → tried m (drop i ls) k ≡ record { memory = m; count = k; way = None }
  unfolding tried
  tried_end k = at_drop_all (λ (xs : List Link). tried m xs k) ls i h

pub ruleset trying = (tried_on, tried_up, tried_end)

-- The steps of loops, against their models: place by place, link by link along a chain, one card after another.
use Rattle.std.proofs.Common.{◌≡◌, ℕ, ◌+◌, ◌-◌, ◌<◌, ◌≤◌, List, length, get_or, drop, Some, None, Ok, Err, refl, ◌∙◌}
use Rattle.std.proofs.lemmas.List.{at_drop_more, at_drop_all}
use Rattle.order.specs.declared.board.Refusal.{Refusal}
use Rattle.memory.specs.Footprints.{at_each}
use Rattle.memory.specs.PlaceSets.{first_mark}
use Rattle.memory.proofs.Fuel.{fuel_step, fuel_end}
use Rattle.chains.specs.declared.cells.Pointer.{Pointer}
use Rattle.chains.specs.declared.chain_table.ChainTable.{ChainTable}
use Rattle.chains.specs.Tables.{node}
use Rattle.chains.specs.Walks.{met}
use Rattle.row.specs.Moves.{came}
use Rattle.search.specs.declared.layout.TheConstants.{FORE}
use Rattle.batch.specs.Along.{along}
use Rattle.batch.specs.Loading.{cards_come}
use Rattle.batch.specs.Renewing.{drawn, renewing}

pub each_go : (step : List ℕ → ℕ → List ℕ) (N i : ℕ) (m : List ℕ) → i < N →
    at_each step (N - i) m i ≡ at_each step (N - (i + 1)) (step m i) (i + 1)
unfolding at_each
each_go step N i m h = fuel_step (λ f. at_each step f m i) N i h

pub each_end : (step : List ℕ → ℕ → List ℕ) (N i j : ℕ) (m : List ℕ) → N ≤ i → at_each step (N - i) m j ≡ m
unfolding at_each
each_end step N i j m h = fuel_end (λ f. at_each step f m j) N i h

pub ruleset places = (each_go, each_end)

module _ (F : ChainTable) (step : List ℕ → ℕ → List ℕ) (N i : ℕ) (m : List ℕ) (p : ℕ) where
  pub along_stop : i < N → met F m p ≡ None → along F step (N - i) m p ≡ m
  unfolding along
  along_stop h e = fuel_step (λ f. along F step f m p) N i h ∙ rw e refl

  pub along_go : (x : Pointer) → i < N → met F m p ≡ Some x → along F step (N - i) m p ≡ along F step (N - (i + 1)) (step m x.label) (node F x.held)
  unfolding along
  along_go x h e = fuel_step (λ f. along F step f m p) N i h ∙ rw e refl

  pub along_end : N ≤ i → along F step (N - i) m p ≡ m
  unfolding along
  along_end h = fuel_end (λ f. along F step f m p) N i h

pub ruleset links = (along_stop, along_go, along_end)

module _ (N i : ℕ) (m : List ℕ) where
  pub renewing_stop : i < N → first_mark m FORE.column ≡ None → renewing (N - i) m i ≡ record { memory = m; came = i }
  unfolding renewing
  renewing_stop h e = fuel_step (λ f. renewing f m i) N i h ∙ rw e refl

  pub renewing_go : (p : ℕ) → i < N → first_mark m FORE.column ≡ Some p → renewing (N - i) m i ≡ renewing (N - (i + 1)) (drawn m p i) (i + 1)
  unfolding renewing
  renewing_go p h e = fuel_step (λ f. renewing f m i) N i h ∙ rw e refl

  pub renewing_end : N ≤ i → renewing (N - i) m i ≡ record { memory = m; came = i }
  unfolding renewing
  renewing_end h = fuel_end (λ f. renewing f m i) N i h

pub ruleset renews = (renewing_stop, renewing_go, renewing_end)

module _ (m ks : List ℕ) (i : ℕ) where
  pub cards_on : (s : ℕ) → i < length ks → (came m (get_or ks i 0)).answer ≡ Ok s →
      cards_come m (drop i ks) ≡ cards_come (came m (get_or ks i 0)).memory (drop (i + 1) ks)
  unfolding cards_come
  cards_on s h e = at_drop_more (cards_come m) ks i 0 h ∙ rw e refl

  pub cards_up : (e : Refusal) → i < length ks → (came m (get_or ks i 0)).answer ≡ Err e →
      cards_come m (drop i ks) ≡ record { memory = (came m (get_or ks i 0)).memory; refused = Some e }
  unfolding cards_come
  cards_up e h z = at_drop_more (cards_come m) ks i 0 h ∙ rw z refl

  pub cards_end : length ks ≤ i → cards_come m (drop i ks) ≡ record { memory = m; refused = None }
  unfolding cards_come
  cards_end h = at_drop_all (cards_come m) ks i h

pub ruleset cards = (cards_on, cards_up, cards_end)

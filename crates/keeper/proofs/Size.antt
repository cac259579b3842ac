-- Memory keeps its length, and its numbers stay below 2^64, through what is written; and answers fit what carries them.
use Rattle.std.proofs.Common.{◌≡◌, ℕ, zero, suc, ◌^◌, ◌<◌, ◌≤◌, Bool, true, cond, List, [], ◌∷◌, map, length, take, refl, ◌∙◌, inl, inr, arith, eqb, replicate}
use Rattle.std.proofs.lemmas.Bool.{cases_Bool, cond_both, and_parts, and_from, lt-ltb, ltb-true, le-leb}
use lib.ListN.{length-replicate}
use Rattle.order.specs.declared.board.TheConstants.{CARDS}
use Rattle.order.specs.Lists.{every}
use Rattle.order.proofs.Filters.{every_take}
use Rattle.command.specs.declared.command.Command.{Command}
use Rattle.memory.specs.declared.column.Column.{Column}
use Rattle.memory.specs.Footprints.{Small, Writes}
use Rattle.keeper.specs.declared.layout.TheConstants.{TOLD, OUTPUT}
use Rattle.keeper.specs.declared.event.Event.{Event}
use Rattle.keeper.specs.declared.event.Event.TheVariants.{Said, Next}
use Rattle.keeper.specs.Engine.{tells, shows, Step}
use Rattle.keeper.specs.Promise.{all_small, small_command, Steady}
use Rattle.keeper.specs.Sized.{small_event, guarded, KeepsSize, fits, Fits}
use Rattle.memory.specs.declared.column.TheConstants.{MEMORY}

-- small numbers, one by one
pub small_each : (m : List ℕ) → all_small m ≡ true → Small m
unfolding all_small every
small_each [] h i = omega arith
small_each (x ∷ xs) h zero = ltb-true _ _ (and_parts _ (all_small xs) h).0
small_each (x ∷ xs) h (suc i) = small_each xs (and_parts _ (all_small xs) h).1 i

pub each_small : (m : List ℕ) → Small m → all_small m ≡ true
unfolding all_small every
each_small [] h = refl
each_small (x ∷ xs) h = and_from _ _ (lt-ltb _ _ (h 0)) (each_small xs (λ i. h (suc i)))

pub small_take : (n : ℕ) (ks : List ℕ) → all_small ks ≡ true → all_small (take n ks) ≡ true
unfolding all_small
small_take n ks h = every_take _ n ks h

pub small_map : (g : ℕ → ℕ) → ((k : ℕ) → g k < 2 ^ 64) → (ks : List ℕ) → all_small (map g ks) ≡ true
unfolding all_small every
small_map g h [] = refl
small_map g h (k ∷ ks) = and_from _ _ (lt-ltb _ _ (h k)) (small_map g h ks)

-- a memory, and what became of it
pub size_same : (m : List ℕ) → KeepsSize m m
size_same m = (refl, λ h. h)

pub size_then : (m m₁ m₂ : List ℕ) → KeepsSize m m₁ → KeepsSize m₁ m₂ → KeepsSize m m₂
size_then m m₁ m₂ a b = (b.0 ∙ a.0, λ h. b.1 (a.1 h))

pub size_writes : (fs : List Column) (m m₁ : List ℕ) → Writes fs m m₁ → KeepsSize m m₁
size_writes fs m m₁ w = (w.as_long, λ h. each_small m₁ (w.small (small_each m h)))

-- what holds of one and of the other, holds of the one that a test picks
pub cond_holds : {Y : Type 0} (B : Y → Type 0) (t : Bool) (a b : Y) → B a → B b → B (cond t a b)
cond_holds B t a b p q = cond_both t a b B (λ _. p) (λ _. q)

-- the guard
pub guarded_small : (f : List ℕ → Event → Step) (m : List ℕ) (ev : Event) → small_event ev ≡ true → guarded f m ev ≡ f m ev
unfolding guarded
guarded_small f m ev h = rw h

pub guarded_said : (f : List ℕ → Event → Step) (m : List ℕ) (c : Command) (s : Step) → small_command c ≡ true → f m (Said c) ≡ s → guarded f m (Said c) ≡ s
unfolding small_event
guarded_said f m c s h q = guarded_small f m (Said c) h ∙ q

pub guarded_next : (f : List ℕ → Event → Step) (m : List ℕ) (s : Step) → f m Next ≡ s → guarded f m Next ≡ s
unfolding small_event
guarded_next f m s q = guarded_small f m Next refl ∙ q

pub guarded_keeps : (f : List ℕ → Event → Step) → ((m : List ℕ) (ev : Event) → small_event ev ≡ true → KeepsSize m (f m ev).memory) →
    (m : List ℕ) (ev : Event) → KeepsSize m (guarded f m ev).memory
unfolding guarded
guarded_keeps f k m ev = elim (cases_Bool (small_event ev)) [
  | inl t ↦ rw t (k m ev t)
  | inr t ↦ rw t (size_same m)
]

pub guarded_fits : (s : List ℕ) (f : List ℕ → Event → Step) →
    ((m : List ℕ) (ev : Event) → small_event ev ≡ true → all_small m ≡ true → fits (f m ev).action ≡ true) → Fits (record { start = s; step = guarded f })
unfolding guarded fits
guarded_fits s f k m ev h = elim (cases_Bool (small_event ev)) [
  | inl t ↦ rw t (k m ev t h)
  | inr t ↦ rw t
]

-- answers that fit
pub fits_tells : (i : ℕ) (ks : List ℕ) → i ≤ CARDS → length ks ≤ TOLD → all_small ks ≡ true → fits (tells i ks) ≡ true
unfolding fits
fits_tells i ks l u h = and_from _ _ (le-leb _ _ l) (and_from _ _ (le-leb _ _ u) h)

pub fits_shows : (ks : List ℕ) → length ks ≤ OUTPUT → all_small ks ≡ true → fits (shows ks) ≡ true
unfolding fits
fits_shows ks u h = and_from _ _ (le-leb _ _ u) h

-- a memory of zeros at the start, and a guarded step that keeps its size, are steady
every_replicate : (f : ℕ → Bool) (n v : ℕ) → f v ≡ true → every f (replicate n v) ≡ true
unfolding every
every_replicate f zero v h = refl
every_replicate f (suc n) v h = and_from _ _ h (every_replicate f n v h)

steady_from : (n : ℕ) (f : List ℕ → Event → Step) → n ≤ MEMORY →
    ((m : List ℕ) (ev : Event) → small_event ev ≡ true → KeepsSize m (f m ev).memory) → Steady (record { start = replicate n 0; step = guarded f })
unfolding Steady
steady_from n f l k = (omega (arith, length-replicate {A = ℕ} n 0), every_replicate (λ m. eqb m 0) n 0 refl, guarded_keeps f k)

pub steady_zeros : (f : List ℕ → Event → Step) → ((m : List ℕ) (ev : Event) → small_event ev ≡ true → KeepsSize m (f m ev).memory) →
    Steady (record { start = replicate MEMORY 0; step = guarded f })
steady_zeros f k = steady_from MEMORY f (omega arith) k

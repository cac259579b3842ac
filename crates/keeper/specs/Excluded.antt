-- Engines that the promise shuts out. These are definitions: nothing is assumed.
--   Idle e           the engine refuses everything
--   IdleIsNot        such an engine doesn't meet the promise
--   Endless e        no step of the engine says done or refused
--   EndlessIsNot     such an engine doesn't meet the promise
use Rattle.std.specs.Prelude.{◌≡◌, ℕ, ◌≢◌, List}
use Rattle.keeper.specs.declared.event.Event.{Event}
use Rattle.keeper.specs.Engine.{done, refused, Engine}
use Rattle.keeper.specs.Promise.{Whole}

abbrev pub Idle : Engine → Type 0
Idle e = (m : List ℕ) (ev : Event) → (k : ℕ) × ((e.step m ev).action ≡ refused k)

abbrev pub IdleIsNot : Type 0
IdleIsNot = (e : Engine) → Idle e → Whole e → ⊥

abbrev pub Endless : Engine → Type 0
Endless e = (m : List ℕ) (ev : Event) → ((e.step m ev).action ≢ done) × ((k : ℕ) → (e.step m ev).action ≢ refused k)

abbrev pub EndlessIsNot : Type 0
EndlessIsNot = (e : Engine) → Endless e → Whole e → ⊥

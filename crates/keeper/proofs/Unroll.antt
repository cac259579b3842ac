-- A run of a command, answer by answer: to go on is one step more, and three steps are enough for each of the ways that a command goes.
use Rattle.std.proofs.Common.{◌≡◌, ℕ, suc, ◌<◌, ◌≤◌, List, [], ◌∷◌, ◌++◌, length, ◌∙◌, arith}
use Rattle.std.proofs.lemmas.Bool.Decides.{nat_tests as tests}
use Rattle.command.specs.Commands.{Told}
use Rattle.keeper.specs.declared.layout.TheConstants.{TOLD}
use Rattle.keeper.specs.declared.event.Event.{Event}
use Rattle.keeper.specs.declared.event.Event.TheVariants.{Next}
use Rattle.keeper.specs.Engine.{Action, tells, shows, done, refused, Step, Engine, ran, one_act, runs}

abbrev pub steps_to : List ℕ → Action → Step
steps_to m a = record { memory = m; action = a }

abbrev pub told : ℕ → List ℕ → Told
told i ks = record { at = i; cards = ks }

module _ (n : ℕ) (e : Engine) (m m₁ : List ℕ) (ev : Event) (ts : List Told) (ss : List (List ℕ)) where
  pub run_done : e.step m ev ≡ steps_to m₁ done → runs (suc n) e m ev ts ss ≡ ran m₁ ts ss 0
  unfolding runs one_act
  run_done h = rw h

  pub run_refused : (k : ℕ) → 1 ≤ k → k < 1000 → e.step m ev ≡ steps_to m₁ (refused k) → runs (suc n) e m ev ts ss ≡ ran m₁ ts ss k
  unfolding runs one_act
  run_refused k l u h = rw h (grind (arith, tests))

  pub run_shows : (ks : List ℕ) → e.step m ev ≡ steps_to m₁ (shows ks) → runs (suc n) e m ev ts ss ≡ runs n e m₁ Next ts (ss ++ ks ∷ [])
  unfolding runs one_act
  run_shows ks h = rw h

  pub run_tells : (i : ℕ) (ks : List ℕ) → length ks ≤ TOLD → e.step m ev ≡ steps_to m₁ (tells i ks) →
      runs (suc n) e m ev ts ss ≡ runs n e m₁ Next (ts ++ told i ks ∷ []) ss
  unfolding runs one_act
  run_tells i ks l h = rw h (grind (arith, tests))

module _ (e : Engine) (m m₁ : List ℕ) (ev : Event) where
  pub done_at_once : e.step m ev ≡ steps_to m₁ done → runs 3 e m ev [] [] ≡ ran m₁ [] [] 0
  done_at_once h = run_done 2 e m m₁ ev [] [] h

  pub refused_at_once : (k : ℕ) → 1 ≤ k → k < 1000 → e.step m ev ≡ steps_to m₁ (refused k) → runs 3 e m ev [] [] ≡ ran m₁ [] [] k
  refused_at_once k l u h = run_refused 2 e m m₁ ev [] [] k l u h

module _ (e : Engine) (m m₁ m₂ : List ℕ) (ev : Event) (ks : List ℕ) (h : e.step m ev ≡ steps_to m₁ (shows ks)) where
  pub shows_done : e.step m₁ Next ≡ steps_to m₂ done → runs 3 e m ev [] [] ≡ ran m₂ [] (ks ∷ []) 0
  shows_done g = run_shows 2 e m m₁ ev [] [] ks h ∙ run_done 1 e m₁ m₂ Next [] (ks ∷ []) g

  pub shows_refused : (k : ℕ) → 1 ≤ k → k < 1000 → e.step m₁ Next ≡ steps_to m₂ (refused k) → runs 3 e m ev [] [] ≡ ran m₂ [] (ks ∷ []) k
  shows_refused k l u g = run_shows 2 e m m₁ ev [] [] ks h ∙ run_refused 1 e m₁ m₂ Next [] (ks ∷ []) k l u g

module _ (e : Engine) (m m₁ m₂ : List ℕ) (ev : Event) (i : ℕ) (ks : List ℕ) (l : length ks ≤ TOLD) (h : e.step m ev ≡ steps_to m₁ (tells i ks)) where
  pub tells_done : e.step m₁ Next ≡ steps_to m₂ done → runs 3 e m ev [] [] ≡ ran m₂ (told i ks ∷ []) [] 0
  tells_done g = run_tells 2 e m m₁ ev [] [] i ks l h ∙ run_done 1 e m₁ m₂ Next (told i ks ∷ []) [] g

  pub tells_tells_done : (m₃ : List ℕ) (j : ℕ) (js : List ℕ) → length js ≤ TOLD →
      e.step m₁ Next ≡ steps_to m₂ (tells j js) → e.step m₂ Next ≡ steps_to m₃ done →
      runs 3 e m ev [] [] ≡ ran m₃ (told i ks ∷ told j js ∷ []) [] 0
  tells_tells_done m₃ j js u g f =
      run_tells 2 e m m₁ ev [] [] i ks l h ∙ run_tells 1 e m₁ m₂ Next (told i ks ∷ []) [] j js u g
      ∙ run_done 0 e m₂ m₃ Next (told i ks ∷ told j js ∷ []) [] f

-- A run that is at its end stays so with more steps; and a run keeps the memory's size.
use Rattle.std.proofs.Common.{◌≡◌, ℕ, zero, suc, ◌+◌, leb, List, [], length, sym, refl, ap, ◌∙◌, inl, inr, arith}
use Rattle.std.proofs.lemmas.Bool.{cases_Bool}
use Rattle.command.specs.Commands.{Told}
use Rattle.keeper.specs.declared.layout.TheConstants.{TOLD}
use Rattle.keeper.specs.declared.event.Event.{Event}
use Rattle.keeper.specs.declared.event.Event.TheVariants.{Said, Next}
use Rattle.keeper.specs.Engine.{Action, tells, shows, done, refused, Engine, Ran, one_act, runs}
use Rattle.keeper.specs.Promise.{Steady}
use Rattle.keeper.specs.Sister.{EndStays}
use Rattle.keeper.specs.Sized.{KeepsSize}

-- what goes on after an answer
abbrev pub Go : Type 0
Go = List ℕ → List Told → List (List ℕ) → Ran

act_more : (go go' : Go) → ((m : List ℕ) (ts : List Told) (ss : List (List ℕ)) → ((go m ts ss).end ≡ 1000 → ⊥) → go' m ts ss ≡ go m ts ss) →
    (ts : List Told) (ss : List (List ℕ)) (m : List ℕ) (a : Action) → ((one_act go ts ss m a).end ≡ 1000 → ⊥) →
    one_act go' ts ss m a ≡ one_act go ts ss m a
unfolding one_act
act_more go go' k ts ss m (tells i ks) h = elim (cases_Bool (leb (length ks) TOLD)) [
  | inl t ↦ rw t (k m _ ss (rw t at h))
  | inr t ↦ rw t
]
act_more go go' k ts ss m (shows ks) h = k m ts _ h
act_more go go' k ts ss m done h = refl
act_more go go' k ts ss m (refused j) h = refl

runs_more : (n : ℕ) (e : Engine) (m : List ℕ) (ev : Event) (ts : List Told) (ss : List (List ℕ)) →
    ((runs n e m ev ts ss).end ≡ 1000 → ⊥) → runs (suc n) e m ev ts ss ≡ runs n e m ev ts ss
unfolding runs
runs_more zero e m ev ts ss h = absurd (h refl)
runs_more (suc n) e m ev ts ss h =
    act_more (λ m₁ ts₁ ss₁. runs n e m₁ Next ts₁ ss₁) (λ m₁ ts₁ ss₁. runs (suc n) e m₁ Next ts₁ ss₁)
    (λ m₁ ts₁ ss₁ g. runs_more n e m₁ Next ts₁ ss₁ g) ts ss (e.step m ev).memory (e.step m ev).action h

pub end_stays : EndStays
end_stays n zero e m c h = let q : n + 0 ≡ n = omega arith in rw q
end_stays n (suc k) e m c h =
    let q : n + suc k ≡ suc (n + k) = omega arith in
    let ih = end_stays n k e m c h in
    rw q (runs_more (n + k) e m (Said c) [] [] (λ x. h (ap (λ (v : Ran). v.end) (sym ih) ∙ x)) ∙ ih)

pub act_size : (m₀ : List ℕ) (go : Go) → ((m : List ℕ) (ts : List Told) (ss : List (List ℕ)) → KeepsSize m₀ m → KeepsSize m₀ (go m ts ss).memory) →
    (ts : List Told) (ss : List (List ℕ)) (m : List ℕ) → KeepsSize m₀ m → (a : Action) → KeepsSize m₀ (one_act go ts ss m a).memory
unfolding one_act
act_size m₀ go k ts ss m b (tells i ks) = elim (cases_Bool (leb (length ks) TOLD)) [
  | inl t ↦ rw t (k m _ ss b)
  | inr t ↦ rw t b
]
act_size m₀ go k ts ss m b (shows ks) = k m ts _ b
act_size m₀ go k ts ss m b done = b
act_size m₀ go k ts ss m b (refused j) = b

module _ (e : Engine) (st : Steady e) where
  size_from : (m₀ : List ℕ) (n : ℕ) (m : List ℕ) (ev : Event) (ts : List Told) (ss : List (List ℕ)) → KeepsSize m₀ m →
      KeepsSize m₀ (runs n e m ev ts ss).memory
  unfolding runs Steady
  size_from m₀ zero m ev ts ss b = b
  size_from m₀ (suc n) m ev ts ss b =
      let d = st.2 m ev in
      act_size m₀ (λ m₁ ts₁ ss₁. runs n e m₁ Next ts₁ ss₁) (λ m₁ ts₁ ss₁ b₁. size_from m₀ n m₁ Next ts₁ ss₁ b₁) ts ss
      (e.step m ev).memory (d.0 ∙ b.0, λ h. d.1 (b.1 h)) (e.step m ev).action

  pub runs_size : (n : ℕ) (m : List ℕ) (ev : Event) (ts : List Told) (ss : List (List ℕ)) → KeepsSize m (runs n e m ev ts ss).memory
  runs_size n m ev ts ss = size_from m n m ev ts ss (refl, λ h. h)

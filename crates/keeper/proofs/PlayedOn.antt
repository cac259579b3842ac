-- A command that is played goes from answer to answer as its model does.
use Rattle.std.proofs.Common.{◌≡◌, ℕ, suc, ◌+◌, ◌-◌, ◌<◌, ◌≤◌, ◌⊎◌, List, Some, None, Option, Ok, Err, Result, sym, refl, ap, ◌∙◌, subst, inl, inr, arith}
use Rattle.keeper.specs.declared.event.Event.{Event}
use Rattle.keeper.specs.declared.event.Event.TheVariants.{Next}
use Rattle.keeper.specs.declared.event.Reason.{Reason}
use Rattle.keeper.specs.declared.event.Act.{Act}
use Rattle.keeper.specs.declared.event.Act.TheVariants.{Tells, Shows, Done}
use Rattle.keeper.specs.declared.event.Telling.TheVariants.{PassedOver}
use Rattle.keeper.specs.declared.playing.Played.{Played}
use Rattle.keeper.specs.Playing.{Stepped, stepped, StepsTo, Ending, Went, by_act, plays, shown_then, ended_by, played_on}

abbrev pub to : Result Act Reason → List ℕ → List ℕ → Stepped
to r m out = record { act = r; memory = m; out = out }

pub stepped_to : (s : Stepped) (r : Result Act Reason) (m₁ out₁ : List ℕ) → StepsTo s r m₁ out₁ → s ≡ to r m₁ out₁
stepped_to s r m₁ out₁ t = rw (t.act, t.after, t.out) refl

-- what comes of an event is what comes of its answer
pub plays_on : (m : List ℕ) (ev : Event) (out : List ℕ) (r : Result Act Reason) (m₁ out₁ : List ℕ) (s : ℕ) →
    StepsTo (stepped PassedOver m ev out) r m₁ out₁ → (n : ℕ) → plays (suc n) m ev out s ≡ played_on n m₁ r out₁ s
unfolding plays
plays_on m ev out r m₁ out₁ s t n =
    ap (λ (x : Stepped). by_act (λ m₂ out₂ s₂. plays n m₂ Next out₂ s₂) x.memory x.out s x.act) (stepped_to (stepped PassedOver m ev out) r m₁ out₁ t)

pub plays_went : (m : List ℕ) (ev : Event) (out : List ℕ) (r : Result Act Reason) (m₁ out₁ : List ℕ) (p : Played) (m₂ out₂ : List ℕ) →
    StepsTo (stepped PassedOver m ev out) r m₁ out₁ → Went (played_on 2 m₁ r out₁ 0) p m₂ out₂ → Went (plays 3 m ev out 0) p m₂ out₂
plays_went m ev out r m₁ out₁ p m₂ out₂ t w = subst (λ (e : Ending). Went e p m₂ out₂) (sym (plays_on m ev out r m₁ out₁ 0 t 2)) w

on_so : (i : ℕ) → i < 2 → (m : List ℕ) (a : Result Act Reason) (out : List ℕ) (r : Result Act Reason) (m₁ out₁ : List ℕ) →
    StepsTo (stepped PassedOver m Next out) r m₁ out₁ → (s n : ℕ) → shown_then s a ≡ Some n → played_on (2 - i) m a out s ≡ played_on (2 - (i + 1)) m₁ r out₁ n
unfolding by_act
on_so i l m (Ok (Tells p k)) out r m₁ out₁ t s n e =
    let z : 2 - i ≡ suc (2 - (i + 1)) = omega arith in
    let y : s ≡ n = cc in
    rw (z, y) (plays_on m Next out r m₁ out₁ n t (2 - (i + 1)))
on_so i l m (Ok (Shows k)) out r m₁ out₁ t s n e =
    let z : 2 - i ≡ suc (2 - (i + 1)) = omega arith in
    let y : k ≡ n = cc in
    rw (z, y) (plays_on m Next out r m₁ out₁ n t (2 - (i + 1)))
on_so i l m (Ok Done) out r m₁ out₁ t s n e = cc
on_so i l m (Err w) out r m₁ out₁ t s n e = cc

-- one step of the loop, and its end: by an answer that is the last, or since there are no more steps
pub goes_on : (i : ℕ) → i < 2 → (m : List ℕ) (a : Result Act Reason) (out : List ℕ) (r : Result Act Reason) (m₁ out₁ : List ℕ) →
    StepsTo (stepped PassedOver m Next out) r m₁ out₁ → (s n : ℕ) (o : Option ℕ) → o ≡ shown_then s a → o ≡ Some n → (e : Ending) →
    played_on (2 - i) m a out s ≡ e → played_on (2 - (i + 1)) m₁ r out₁ n ≡ e
goes_on i l m a out r m₁ out₁ t s n o q h e w = sym (on_so i l m a out r m₁ out₁ t s n (sym q ∙ h)) ∙ w

last_so : (k : ℕ) (m : List ℕ) (a : Result Act Reason) (out : List ℕ) (s : ℕ) → (k ≡ 0) ⊎ (shown_then s a ≡ None) →
    played_on k m a out s ≡ record { answer = ended_by s a; memory = m; out = out }
unfolding by_act plays
last_so k m (Ok (Tells p n)) out s (inl e) = rw e
last_so k m (Ok (Tells p n)) out s (inr e) = cc
last_so k m (Ok (Shows n)) out s (inl e) = rw e
last_so k m (Ok (Shows n)) out s (inr e) = cc
last_so k m (Ok Done) out s e = refl
last_so k m (Err w) out s e = refl

module _ (i : ℕ) (m : List ℕ) (a : Result Act Reason) (out : List ℕ) (s : ℕ) (e : Ending) (r : Played) where
  ended : (2 - i ≡ 0) ⊎ (shown_then s a ≡ None) → played_on (2 - i) m a out s ≡ e → r ≡ ended_by s a → Went e r m out
  ended h q z = rw (sym q ∙ last_so (2 - i) m a out s h, z) (record { answer = refl; after = refl; out = refl })

  pub ends : (o : Option ℕ) → o ≡ shown_then s a → o ≡ None → played_on (2 - i) m a out s ≡ e → r ≡ ended_by s a → Went e r m out
  ends o q h = ended (inr (sym q ∙ h))

  pub last_ends : 2 ≤ i → played_on (2 - i) m a out s ≡ e → r ≡ ended_by s a → Went e r m out
  last_ends l = ended (inl (omega arith))

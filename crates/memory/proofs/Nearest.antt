-- The number of a run that passes a test and is nearest: the first of a run that goes up, the last of one that goes down. R r q: r is nearer than q.
use Rattle.std.proofs.Common.{◌≡◌, ℕ, ◌/◌, ◌<◌, Bool, true, false, cond, ◌⊎◌, Some, None, Option, refl, ap, ◌∙◌, ⊎_elim}
use Rattle.std.proofs.lemmas.Bool.{cases_eq, cond_both, both_ways}
use Rattle.memory.specs.Options.{given, or_else}

abbrev pub Up : ℕ → ℕ → Type 0
Up r q = r < q

abbrev pub Down : ℕ → ℕ → Type 0
Down r q = q < r

abbrev pub Nearest : (ℕ → ℕ → Type 0) → (ℕ → Bool) → (ℕ → Type 0) → Option ℕ → Type 0
Nearest R f D None = (r : ℕ) → D r → f r ≡ false
Nearest R f D (Some q) = D q × (f q ≡ true) × ((r : ℕ) → D r → R r q → f r ≡ false)

-- Two runs that make up one, each number of the first nearer than all of the second.
pub record Joins (R : ℕ → ℕ → Type 0) (D E F : ℕ → Type 0) : Type 0 where
  pub first : (r : ℕ) → D r → F r
  pub second : (r : ℕ) → E r → F r
  pub all : (r : ℕ) → F r → D r ⊎ E r
  pub nearer : (q r : ℕ) → D q → E r → R r q → ⊥

module _ (R : ℕ → ℕ → Type 0) (f : ℕ → Bool) where
  pub joined : (D E F : ℕ → Type 0) (o z : Option ℕ) → Joins R D E F → Nearest R f D o → Nearest R f E z → Nearest R f F (or_else o z)
  joined D E F None None j a b = λ r x. ⊎_elim (a r) (b r) (j.all r x)
  joined D E F None (Some q) j a b = (j.second q b.0, b.1, λ r x y. ⊎_elim (a r) (λ k. b.2 r k y) (j.all r x))
  joined D E F (Some q) z j a b = (j.first q a.0, a.1, λ r x y. ⊎_elim (λ k. a.2 r k y) (λ k. absurd (j.nearer q r a.0 k y)) (j.all r x))

  -- another test of another run
  pub changed : (g : ℕ → Bool) (D E : ℕ → Type 0) (o : Option ℕ) → ((r : ℕ) → D r → f r ≡ true → E r × (g r ≡ true)) →
      ((r : ℕ) → E r → (D r → f r ≡ false) → g r ≡ false) → Nearest R f D o → Nearest R g E o
  changed g D E None hit miss a = λ r e. miss r e (a r)
  changed g D E (Some q) hit miss a = let y = hit q a.0 a.1 in (y.0, y.1, λ r e x. miss r e (λ d. a.2 r d x))

  -- words of 64 numbers: s names those in which some pass
  pub by_words : (s : ℕ → Bool) (g : ℕ → Option ℕ) (D : ℕ → Type 0) (o : Option ℕ) → ((r q v : ℕ) → q / 64 ≡ v → R r q → (r / 64 ≡ v → ⊥) → R (r / 64) v) →
      ((r : ℕ) → D (r / 64) → s (r / 64) ≡ false → f r ≡ false) → ((v : ℕ) → D v → s v ≡ true → (g v ≡ None → ⊥) × Nearest R f (λ r. r / 64 ≡ v) (g v)) →
      Nearest R s D o → Nearest R f (λ r. D (r / 64)) (given o None g)
  by_words s g D None t none some a = λ r d. none r d (a (r / 64) d)
  by_words s g D (Some v) t none some a = let k = some v a.0 a.1 in in_word (g v) k.0 k.1
    where
      in_word : (z : Option ℕ) → (z ≡ None → ⊥) → Nearest R f (λ r. r / 64 ≡ v) z → Nearest R f (λ r. D (r / 64)) z
      in_word None n b = absurd (n refl)
      in_word (Some q) n b =
          (rw b.0 a.0, b.1, λ r d x. ⊎_elim (λ e. b.2 r e x) (λ e. none r d (a.2 (r / 64) d (t r q v b.0 x e))) (cases_eq (r / 64) v))

  -- there is one at most
  pub one : (D : ℕ → Type 0) (a b : Option ℕ) → ((x y : ℕ) → (x ≡ y) ⊎ (R x y ⊎ R y x)) → Nearest R f D a → Nearest R f D b → a ≡ b
  one D None None t x y = refl
  one D None (Some b) t x y = absurd (both_ways (f b) (x b y.0) y.1)
  one D (Some a) None t x y = absurd (both_ways (f a) (y a x.0) x.1)
  one D (Some a) (Some b) t x y =
      ⊎_elim (λ e. ap Some e) (λ d. absurd (⊎_elim (λ l. both_ways (f a) (y.2 a x.0 l) x.1) (λ l. both_ways (f b) (x.2 b y.0 l) y.1) d)) (t a b)

  -- a number tried before the others
  pub tried : (D F : ℕ → Type 0) (x : ℕ) (o : Option ℕ) → Joins R (λ r. r ≡ x) D F → ((r : ℕ) → r ≡ x → R r x → ⊥) → Nearest R f D o →
      Nearest R f F (cond (f x) (Some x) o)
  tried D F x o j t a =
      cond_both (f x) (Some x) o (Nearest R f F) (λ e. joined (λ r. r ≡ x) D F (Some x) o j (refl, e, λ r k y. absurd (t r k y)) a)
      (λ e. joined (λ r. r ≡ x) D F None o j (λ r k. ap f k ∙ e) a)

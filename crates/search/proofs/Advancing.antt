-- One of the two searches goes on from one card: what its cursor has passed, and how far it has to go.
use Rattle.std.proofs.Common.{◌≡◌, ℕ, ◌+◌, ◌<◌, ◌≤◌, true, ◌⊎◌, List, suc, length, Some, None, Option, Continue, Break, ControlFlow, sym, refl, ap, ◌∙◌, inl, inr, arith, ◌-◌, Bool, false, ltb}
use Rattle.search.proofs.Common.{CARDS, Link, ◌⟶◌, PLACES, cell, marked, SLOTS, SEATS, used, Pointer, edges, Side, Front, marks_of, other, ahead}
use Rattle.search.proofs.Common.{Spreading, spreading, Going, advanced, moved, gone_on, part_of, Trailed, Fore, Hind, Summed}
use Rattle.search.proofs.Potential.{weight, weight_passed, cost}
use Rattle.search.proofs.Between.{Setting, used_tells, taken_tells, Sound, Beyond}
use Rattle.search.proofs.Reaching.{near_end, Along, along}
use Rattle.search.proofs.Spreads.{Covered, Ends, Spreaded, spreads}
use Rattle.search.proofs.Parting.{Closed, trailed}
use Rattle.std.proofs.lemmas.Bool.{ltb-true, lt-ltb, le-ltb, both_ways}
use Rattle.std.proofs.lemmas.Bool.Decides.{nat_tests}
use Rattle.memory.proofs.Nearest.{Nearest}
use Rattle.memory.proofs.Upward.{next_up_nearest}
use Rattle.memory.proofs.Downward.{next_down_nearest}

-- what a cursor has passed
abbrev pub passed : Side → Option ℕ → ℕ → Bool
passed d None q = true
passed Fore (Some c) q = ltb q c
passed Hind (Some c) q = ltb c q

-- how many seats are left
abbrev pub ahead_of : Side → Option ℕ → ℕ
ahead_of d None = 0
ahead_of Fore (Some c) = PLACES - c
ahead_of Hind (Some c) = c + 1

-- o is the next after p that passes the test f, in the search's direction
abbrev pub Nexts : Side → (ℕ → Bool) → ℕ → Option ℕ → Type 0
Nexts d f p o = Nearest (Beyond d) f (Beyond d p) o

pub nexts : (n : List ℕ) (d : Side) (p : ℕ) → Summed n (marks_of d) → Nexts d (marked n (marks_of d)) p (ahead n d p)
nexts n Fore p s = next_up_nearest n (marks_of Fore) s p
nexts n Hind p s = next_down_nearest n (marks_of Hind) s p

pub not_passed : (d : Side) (p : ℕ) → passed d (Some p) p ≡ false
not_passed Fore p = le-ltb p p (omega arith)
not_passed Hind p = le-ltb p p (omega arith)

pub beyond_not : (d : Side) (p q : ℕ) → Beyond d p q → passed d (Some p) q ≡ true → ⊥
beyond_not Fore p q l h = omega (arith, ltb-true q p h)
beyond_not Hind p q l h = omega (arith, ltb-true p q h)

is_beyond : (d : Side) (c q : ℕ) → passed d (Some c) q ≡ true → Beyond d q c
is_beyond Fore c q h = ltb-true q c h
is_beyond Hind c q h = ltb-true c q h

pub passed_here : (d : Side) (f : ℕ → Bool) (p : ℕ) (o : Option ℕ) → Nexts d f p o → passed d o p ≡ true
passed_here d f p None k = refl
passed_here Fore f p (Some c) k = lt-ltb p c k.0
passed_here Hind f p (Some c) k = lt-ltb c p k.0

pub passed_more : (d : Side) (f : ℕ → Bool) (p q : ℕ) (o : Option ℕ) → Nexts d f p o → passed d (Some p) q ≡ true → passed d o q ≡ true
passed_more d f p q None k h = refl
passed_more Fore f p q (Some c) k h = lt-ltb q c (omega (arith, k.0, ltb-true q p h))
passed_more Hind f p q (Some c) k h = lt-ltb c q (omega (arith, k.0, ltb-true p q h))

-- nothing that passes the test lies between
not_beyond : (d : Side) (p q : ℕ) → (Beyond d p q → ⊥) → (passed d (Some p) q ≡ true) ⊎ (q ≡ p)
not_beyond Fore p q n = grind (arith, nat_tests)
not_beyond Hind p q n = grind (arith, nat_tests)

pub passed_tells : (d : Side) (f : ℕ → Bool) (p q : ℕ) (o : Option ℕ) → Nexts d f p o → f q ≡ true → passed d o q ≡ true
    → (passed d (Some p) q ≡ true) ⊎ (q ≡ p)
passed_tells d f p q None k t h = not_beyond d p q (λ l. both_ways (f q) (k q l) t)
passed_tells d f p q (Some c) k t h = not_beyond d p q (λ l. both_ways (f q) (k.2 q l (is_beyond d c q h)) t)

pub next_there : (d : Side) (f : ℕ → Bool) (p q : ℕ) → Nexts d f p (Some q) → f q ≡ true
next_there d f p q k = k.1

pub fewer : (d : Side) (f : ℕ → Bool) (p : ℕ) (o : Option ℕ) → p < PLACES → Nexts d f p o → ahead_of d o < ahead_of d (Some p)
fewer Fore f p None l k = omega arith
fewer Hind f p None l k = omega arith
fewer Fore f p (Some c) l k = omega (arith, k.0)
fewer Hind f p (Some c) l k = omega (arith, k.0)

pub left_over : (d : Side) (p : ℕ) → p < PLACES → (0 < ahead_of d (Some p)) × (ahead_of d (Some p) ≤ PLACES)
left_over Fore p l = omega arith
left_over Hind p l = omega arith

-- what the SLOTS cost that a search hasn't passed
abbrev pub owed : List ℕ → Side → Option ℕ → ℕ
owed m d o = weight (cost (near_end d) (edges m)) (λ k. passed d o (cell m SEATS k)) CARDS

-- where a search stands: its cursor is at what it has come to, what it has passed is closed, and its fuel will do
pub record Placed (m : List ℕ) (a b : ℕ) (n : List ℕ) (d : Side) (o : Option ℕ) (f : ℕ) : Type 0 where
  pub there : (p : ℕ) → o ≡ Some p → marked n (marks_of d) p ≡ true
  pub closed : (q : ℕ) → marked n (marks_of d) q ≡ true → passed d o q ≡ true → Closed m a b d n q
  pub enough : owed m d o ≤ f

abbrev pub Fronted : (m : List ℕ) (a b : ℕ) (n : List ℕ) → Front → Type 0
Fronted m a b n c = Placed m a b n c.side c.cursor c.fuel

-- the other search stands where it stood
pub placed_same : (m : List ℕ) (a b : ℕ) (n n' : List ℕ) (d : Side) (o : Option ℕ) (f : ℕ)
    → ((q : ℕ) → marked n' (marks_of d) q ≡ marked n (marks_of d) q) → Placed m a b n d o f → Placed m a b n' d o f
placed_same m a b n n' d o f e h = record {
  there = λ p i. e p ∙ h.there p i;
  closed = λ q k l t j y. e (cell m SEATS t) ∙ h.closed q (sym (e q) ∙ k) l t j y;
  enough = h.enough;
}

module _ (m : List ℕ) (a b : ℕ) (S : Setting m a b) where
  -- by what the search at c tells, in the memory n: where it met the other, or where it stands, further on than at c
  abbrev pub Tells : List ℕ → Front → ControlFlow Link Front → Type 0
  Tells n c (Break l) = Trailed m n a b l.from l.to
  Tells n c (Continue e) =
      (e.side ≡ c.side) × Fronted m a b n e × ((ahead_of e.side e.cursor ≡ 0) ⊎ (ahead_of e.side e.cursor < ahead_of c.side c.cursor))

  pub record Gone (n : List ℕ) (c : Front) (x : Going) : Type 0 where
    pub sound : Sound m a b x.memory
    pub same_other : (q : ℕ) → marked x.memory (marks_of (other c.side)) q ≡ marked n (marks_of (other c.side)) q
    pub told : Tells x.memory c x.advance

  module _ (n : List ℕ) (s : Sound m a b n) (d : Side) (p f : ℕ) (h : Placed m a b n d (Some p) f) where
    abbrev x : ℕ
    x = cell m SLOTS p

    seated : (used m x ≡ true) × (cell m SEATS x ≡ p) × (p < PLACES)
    seated = taken_tells m a b S p (s.within d p (h.there p refl)).0

    chain : (xs : List Pointer) × Along m d x xs
    chain = along m S.ready.is_table d x (used_tells m a b S x seated.0).0

    -- passing p pays for its slot
    pays : (o : Option ℕ) → ((q : ℕ) → passed d (Some p) q ≡ true → passed d o q ≡ true) → passed d o p ≡ true → owed m d o + suc (length chain.0) ≤ f
    pays o more here =
        let l = weight_passed (cost (near_end d) (edges m)) (λ k. passed d (Some p) (cell m SEATS k)) (λ k. passed d o (cell m SEATS k)) CARDS x
        (λ k _. more (cell m SEATS k)) (used_tells m a b S x seated.0).0 (rw seated.1 (not_passed d p)) (rw seated.1 here) in
        omega (arith, l, h.enough, chain.1.long)

    abbrev y : Spreading
    y = spreading f n d (part_of m (a ⟶ b)) x x

    spread : Spreaded m a b S d x seated.0 n f chain.0 y
    spread =
        spreads m a b S d x seated.0 chain.0 f n x s (rw seated.1 (h.there p refl)) chain.1.led (λ t z. sym (chain.1.goals t) ∙ z)
        (omega (arith, pays None (λ q _. refl) refl))

    abbrev o : Option ℕ
    o = ahead y.memory d p

    next : Nexts d (marked y.memory (marks_of d)) p o
    next = nexts y.memory d p (spread.sound.summed d)

    placed_new : (k : ℕ) → Covered m a b S d x seated.0 chain.0 y.memory → f ≤ k + suc (length chain.0) → Placed m a b y.memory d o k
    placed_new k cov l = record {
      there = λ q e. next_there d _ p q (rw e at next);
      closed = λ q k l t j v. elim (passed_tells d _ p q o next k l) [
        | inr e ↦ cov t (chain.1.goals t ∙ (rw e at j)) v
        | inl e ↦ elim (spread.grown.beyond q k) [
          | inl z ↦ spread.grown.stays (cell m SEATS t) (h.closed q z e t j v)
          | inr z ↦ absurd (beyond_not d p q (rw seated.1 at z) e)
        ]
      ];
      enough = omega (arith, pays o (λ q. passed_more d _ p q o next) (passed_here d _ p o next));
    }

    abbrev from : Front
    from = record { side = d; cursor = Some p; fuel = f }

    told_new : (u : ControlFlow ℕ ℕ) → Ends m a b S d x seated.0 chain.0 y.memory f u → Tells y.memory from (advanced from u y.memory p x)
    told_new (Continue k) e = (refl, placed_new k e.0 e.1, inr (fewer d _ p o seated.2 next))
    told_new (Break t) e = trailed m a b S y.memory spread.sound d x t (spread.grown.stays (cell m SEATS x) (rw seated.1 (h.there p refl))) e.0 e.1

    gone_is : gone_on n (part_of m (a ⟶ b)) from ≡ moved from y p x
    unfolding gone_on
    gone_is = ap (λ (z : ℕ). moved from (spreading f n d (part_of m (a ⟶ b)) z z) p z) (s.frame.others SLOTS p refl)

    gone_some : Gone n from (gone_on n (part_of m (a ⟶ b)) from)
    gone_some = rw gone_is (record { sound = spread.sound; same_other = spread.grown.same_other; told = told_new y.spread spread.told })

  gone_at : (n : List ℕ) (d : Side) (o : Option ℕ) (f : ℕ) → Sound m a b n → Placed m a b n d o f
      → Gone n (record { side = d; cursor = o; fuel = f }) (gone_on n (part_of m (a ⟶ b)) (record { side = d; cursor = o; fuel = f }))
  unfolding gone_on
  gone_at n d None f s h = record { sound = s; same_other = λ q. refl; told = (refl, h, inl refl) }
  gone_at n d (Some p) f s h = gone_some n s d p f h

  pub goes : (n : List ℕ) (c : Front) → Sound m a b n → Fronted m a b n c → Gone n c (gone_on n (part_of m (a ⟶ b)) c)
  goes n c s h = gone_at n c.side c.cursor c.fuel s h

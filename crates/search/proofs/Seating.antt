-- Slots and seats after an exchange: a row that stands stands with the slots of some seats in another order. Over any columns.
use Rattle.std.proofs.Common.{◌≡◌, ℕ, ◌<◌, Bool, true, false, List, [], ◌∷◌, length, sym, ap, ◌∙◌, subst, inl, inr, arith}
use Rattle.std.proofs.lemmas.Bool.{cases_Bool, both_ways, false_from_ne_true, lt-ltb, eq-eqb, and_from}
use Rattle.std.proofs.lemmas.Bool.Decides.{nat_tests}
use Rattle.search.proofs.Common.{CARDS, has, distinct, in_use, Seating, Stacked, Chains, Freed, Standing}
use Rattle.order.proofs.Members.{has_head, has_tail}
use Rattle.search.proofs.Exchanged.{exchanged, exchanged_out, exchanged_in}

-- ks are the slots at the seats ps, all held, in another order
pub record Rearranges (held : ℕ → Bool) (slot : ℕ → ℕ) (ps ks : List ℕ) : Type 0 where
  pub seats_held : (p : ℕ) → has ps p ≡ true → held p ≡ true
  pub as_many : length ks ≡ length ps
  pub ps_once : distinct ps ≡ true
  pub ks_once : distinct ks ≡ true
  pub from : (s : ℕ) → has ks s ≡ true → (p : ℕ) × (has ps p ≡ true) × (slot p ≡ s)
  pub all : (p : ℕ) → has ps p ≡ true → has ks (slot p) ≡ true

stacked_same : (seat seat' : ℕ → ℕ) (t : ℕ) (xs : List ℕ) → ((s : ℕ) → has xs s ≡ true → seat' s ≡ seat s) → Stacked seat t xs → Stacked seat' t xs
stacked_same seat seat' t [] h k = k
stacked_same seat seat' t (s ∷ ss) h k =
    (k.0, subst (λ (x : ℕ). Stacked seat' x ss) (sym (h s (has_head s ss))) (stacked_same seat seat' (seat s) ss (λ i e. h i (has_tail s ss i e)) k.1))

module _ (n e f top : ℕ) (ps ks : List ℕ) (id next slot seat : ℕ → ℕ) (held : ℕ → Bool) (S : Standing n e f top id next slot seat held)
    (R : Rearranges held slot ps ks) (slot' seat' : ℕ → ℕ) (slot_is : (p : ℕ) → slot' p ≡ exchanged slot ps ks p)
    (seat_is : (s : ℕ) → seat' s ≡ exchanged seat ks ps s) where
  abbrev st : Seating n e slot seat held
  st = S.seated

  -- the seats, and the slots, that are exchanged, and those that aren't
  slot_in : (p : ℕ) → has ps p ≡ true → (has ks (slot' p) ≡ true) × (seat' (slot' p) ≡ p)
  slot_in p h = let e = exchanged_in slot seat ps ks p R.as_many R.ps_once R.ks_once h in rw (slot_is p) (e.0, seat_is _ ∙ e.1)

  seat_in : (s : ℕ) → has ks s ≡ true → (has ps (seat' s) ≡ true) × (slot' (seat' s) ≡ s)
  seat_in s h = let e = exchanged_in seat slot ks ps s (sym R.as_many) R.ks_once R.ps_once h in rw (seat_is s) (e.0, slot_is _ ∙ e.1)

  -- a slot that is exchanged was at a seat that is
  slot_was : (s : ℕ) → has ks s ≡ true → (s < CARDS) × (has ps (seat s) ≡ true) × (slot (seat s) ≡ s)
  slot_was s h =
      let w = R.from s h in
      let u = R.seats_held w.0 w.1 in
      let i : seat s ≡ w.0 = ap seat (sym w.2) ∙ st.seat_of w.0 u in
      (let l = st.low w.0 u in let k = w.2 in omega arith, ap (has ps) i ∙ w.1, ap slot i ∙ w.2)

  slot_out : (p : ℕ) → held p ≡ true → has ps p ≡ false → (slot' p ≡ slot p) × (seat' (slot p) ≡ p)
  slot_out p l h =
      let u = st.seat_of p l in
      let z = false_from_ne_true _ (λ i. both_ways (has ps p) h (ap (has ps) (sym u) ∙ (slot_was (slot p) i).1)) in
      (slot_is p ∙ exchanged_out slot ps ks p h, seat_is (slot p) ∙ exchanged_out seat ks ps (slot p) z ∙ u)

  seat_out : (s : ℕ) → has ks s ≡ false → seat' s ≡ seat s
  seat_out s h = seat_is s ∙ exchanged_out seat ks ps s h

  -- a slot is in use as it was
  pub used_same : (k : ℕ) → in_use slot' seat' held k ≡ in_use slot seat held k
  unfolding in_use
  used_same k =
      let a = seat_in k in let b = slot_was k in let c = R.seats_held (seat' k) in let d = R.seats_held (seat k) in
      let e = seat_out k in let f = slot_in (seat k) in let g = R.all (seat k) in
      let h = slot_is (seat k) in let i = exchanged_out slot ps ks (seat k) in
      grind (arith, nat_tests)

  used_all : in_use slot' seat' held ≡ in_use slot seat held
  used_all = λ t k. used_same k t

  seated_again : Seating n e slot' seat' held
  seated_again = record {
    counts = st.counts;
    below = st.below;
    low = λ p h. elim (cases_Bool (has ps p)) [
      | inl i ↦ (slot_was (slot' p) (slot_in p i).0).0
      | inr i ↦ let a = (slot_out p h i).0 in let b = st.low p h in omega arith
    ];
    seat_of = λ p h. elim (cases_Bool (has ps p)) [
      | inl i ↦ (slot_in p i).1
      | inr i ↦ let a = slot_out p h i in ap seat' a.0 ∙ a.1
    ];
  }

  -- a free slot isn't exchanged
  free_out : (s : ℕ) → in_use slot seat held s ≡ false → has ks s ≡ false
  unfolding in_use
  free_out s h = false_from_ne_true _ (λ i.
      let a = slot_was s i in both_ways _ h (and_from _ _ (lt-ltb s CARDS a.0) (and_from _ _ (R.seats_held (seat s) a.1) (eq-eqb _ _ a.2))))

  freed_again : Freed n f top seat' (in_use slot seat held)
  freed_again =
      let F = S.freed in
      record {
        stack = F.stack;
        stacked = stacked_same seat seat' top F.stack (λ s h. seat_out s (free_out s (F.unused s h).1)) F.stacked;
        once = F.once;
        unused = F.unused;
        early = F.early;
        all = F.all;
        few = F.few;
      }

  pub standing_again : Standing n e f top id next slot' seat' held
  standing_again = record {
    seated = seated_again;
    one_slot = λ s t x y i. S.one_slot s t (sym (used_same s) ∙ x) (sym (used_same t) ∙ y) i;
    chains = subst (λ (live : ℕ → Bool). Chains next id live) (sym used_all) S.chains;
    freed = subst (λ (live : ℕ → Bool). Freed n f top seat' live) (sym used_all) freed_again;
  }

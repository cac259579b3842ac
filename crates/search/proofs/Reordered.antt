-- A row of slots by seat, of which a part is put in order: the seats of the slots that pass A or B get first those that pass A, then those that pass B.
use Rattle.std.proofs.Common.{◌≡◌, ℕ, ◌+◌, ◌-◌, Bool, true, false, ◌&&◌, List, ◌++◌, map, length, drop, sym, refl, ap, ◌∙◌, ap₂, append_assoc, length-append, arith}
use Rattle.std.proofs.lemmas.List.{length-map, map-append, take_at, drop_at}
use Rattle.std.proofs.lemmas.Bool.{and_parts, and_from}
use Rattle.order.specs.Lists.{filter, has, distinct}
use Rattle.order.proofs.Places.{has_append}
use Rattle.order.proofs.Filters.{has_filter, distinct_filter}
use Rattle.order.proofs.Parts.{with_part}
use Rattle.order.proofs.Refilled.{either, refilled, length_fills}
use Rattle.search.proofs.Mapped.{map_same, map_has, has_map, distinct_map, distinct_append, map_filter}
use Rattle.search.proofs.Exchanged.{exchanged, exchanged_out, exchanged_made}
use Rattle.search.proofs.Seating.{Rearranges}

-- a list in three, whose middle is replaced
parts_are : (F : List ℕ → List ℕ) (xs ys zs : List ℕ) (i j : ℕ) → length xs ≡ i → i + length ys ≡ j →
    with_part F (xs ++ (ys ++ zs)) i j ≡ xs ++ (F ys ++ zs)
unfolding with_part
parts_are F xs ys zs i j e l =
    let n : length ys ≡ j - i = omega arith in
    let k : length (xs ++ ys) ≡ j = length-append xs ys ∙ ap (λ (x : ℕ). x + length ys) e ∙ l in
    let d : drop j (xs ++ (ys ++ zs)) ≡ zs = rw (← append_assoc xs ys zs) (drop_at (xs ++ ys) zs j k) in
    rw (take_at xs (ys ++ zs) i e, drop_at xs (ys ++ zs) i e, take_at ys zs (j - i) n, d)

-- slots by seat; Q are the seats of the part
module _ (slot : ℕ → ℕ) (A B : ℕ → Bool) (Q : List ℕ) (apart : (k : ℕ) → B k ≡ true → A k ≡ false) where
  abbrev M : ℕ → Bool
  M p = either B A (slot p)

  abbrev mid : List ℕ
  mid = map slot Q

  unfoldable pub those : List ℕ
  those = filter M Q

  unfoldable pub fill : List ℕ
  fill = filter A mid ++ filter B mid

  pub as_many : length fill ≡ length those
  unfolding those fill
  as_many = length_fills B A apart mid ∙ ap length (sym (map_filter slot (either B A) Q)) ∙ length-map (filter M Q) slot

  has_fill : (s : ℕ) → has fill s ≡ (either B A s && has mid s)
  unfolding fill
  has_fill s =
      let p = has_append (filter A mid) (filter B mid) s in
      let a = has_filter A mid s in let b = has_filter B mid s in
      grind arith

  fill_once : distinct mid ≡ true → distinct fill ≡ true
  unfolding fill
  fill_once e =
      distinct_append (filter A mid) (filter B mid) (distinct_filter A mid e) (distinct_filter B mid e)
      (λ s i. let a = has_filter A mid s in let b = has_filter B mid s in let c = apart s in grind arith)

  pub rearranges : (held : ℕ → Bool) → ((p : ℕ) → has Q p ≡ true → held p ≡ true) → distinct Q ≡ true →
      ((p q : ℕ) → has Q p ≡ true → has Q q ≡ true → slot p ≡ slot q → p ≡ q) → Rearranges held slot those fill
  unfolding those
  rearranges held h d inj = record {
    seats_held = λ p i. h p (both p i).1;
    as_many = as_many;
    ps_once = distinct_filter M Q d;
    ks_once = fill_once (distinct_map slot Q d inj);
    from = λ s i.
        let w = and_parts (either B A s) (has mid s) (sym (has_fill s) ∙ i) in
        let v = map_has slot Q s w.1 in
        (v.0, has_filter M Q v.0 ∙ and_from _ _ (ap (either B A) v.2 ∙ w.0) v.1, v.2);
    all = λ p i. has_fill (slot p) ∙ and_from _ _ (both p i).0 (has_map slot Q p (slot p) (both p i).1 refl);
  }
    where
      both : (p : ℕ) → has (filter M Q) p ≡ true → (M p ≡ true) × (has Q p ≡ true)
      both p i = and_parts (M p) (has Q p) (sym (has_filter M Q p) ∙ i)

  -- the row after the exchange
  abbrev slot' : ℕ → ℕ
  slot' = exchanged slot those fill

  stays_out : (p : ℕ) → has Q p ≡ false → slot' p ≡ slot p
  unfolding those
  stays_out p h = exchanged_out slot those fill p (let f = has_filter M Q p in grind arith)

  mid_is : distinct Q ≡ true → map slot' Q ≡ refilled B A mid
  unfolding those fill refilled
  mid_is d = exchanged_made (either B A) M slot fill Q d (λ p h. refl)

  pub row_is : (P R : List ℕ) (i j : ℕ) → distinct Q ≡ true → ((p : ℕ) → has P p ≡ true → has Q p ≡ false) → ((p : ℕ) → has R p ≡ true → has Q p ≡ false) →
      length P ≡ i → i + length Q ≡ j → map slot' (P ++ (Q ++ R)) ≡ with_part (refilled B A) (map slot (P ++ (Q ++ R))) i j
  row_is P R i j d before behind e l =
      let three = λ (f : ℕ → ℕ). map-append f P (Q ++ R) ∙ ap (λ (xs : List ℕ). map f P ++ xs) (map-append f Q R) in
      three slot'
      ∙ ap₂ ◌++◌ (map_same slot' slot P (λ p h. stays_out p (before p h))) (ap₂ ◌++◌ (mid_is d) (map_same slot' slot R (λ p h. stays_out p (behind p h))))
      ∙ sym (ap (λ (xs : List ℕ). with_part (refilled B A) xs i j) (three slot)
      ∙ parts_are (refilled B A) (map slot P) mid (map slot R) i j (length-map P slot ∙ e) (ap (λ (x : ℕ). i + x) (length-map Q slot) ∙ l))

-- What is looked at before several links are tried: whether one of them was said before, and the part of the row that they name; if none goes backward, the
-- row keeps them.
use Rattle.std.proofs.Common.{◌≡◌, ℕ, ◌+◌, Bool, ◌||◌, List, [], ◌∷◌, ◌++◌, length, take, sym, refl, ◌∙◌, ap₂, append_assoc, length-append, ap, true, subst, append-nil, ◌<◌, ◌≤◌, min, max, not, ◌&&◌, ltb, leb, inl, inr, arith, is_some, Some}
use Rattle.std.proofs.lemmas.List.{take_at}
use Rattle.std.specs.List.{list_any, enumerate_from}
use Rattle.order.specs.declared.board.Link.{Link}
use Rattle.links.specs.Pairs.{joins}
use Rattle.batch.specs.Checking.{known, repeated, widened, spanned, no_span, moving}
use Rattle.order.specs.Lists.{any, every, place}
use Rattle.order.specs.Board.{Board, keeps}
use Rattle.batch.proofs.SeveralOrder.{any_append}
use Rattle.search.specs.Meaning.{Ready}
use Rattle.keeper.specs.Meaning.{card_board, Means}
use Rattle.batch.specs.Several.{all_there, with_links, said_before, first_named, past_named}
use Rattle.batch.specs.CheckLaws.{Repeats, Names, SpansIn, Spans, MovesIn, SpanMoves}
use Rattle.batch.proofs.SeveralRows.{there_parts}
use Rattle.batch.proofs.CardsThere.{known_so, wider_so}
use Rattle.std.proofs.lemmas.Bool.Decides.{nat_tests}
use Rattle.std.proofs.lemmas.Bool.{cases_Bool, both_ways}
use Rattle.order.specs.declared.board.TheConstants.{CARDS}
use Rattle.order.proofs.Climbs.{fine_parts}
use Rattle.order.proofs.Filters.{every_append}
use Rattle.order.proofs.Places.{place_below}
use Rattle.row.proofs.Present.{length_cards, few_cards}
use Rattle.keeper.proofs.Knowing.{fine_cards}
use Rattle.batch.specs.declared.seating.Span.{Span}
use Rattle.batch.specs.declared.checking.Named.{Named}
use Rattle.batch.specs.Dense.{Dense}
use Rattle.row.specs.Moves.{packed}
use Rattle.batch.proofs.ReadyAgain.{packed_means, packed_row}

-- the link at i was said before, or stands among the first i
abbrev pub seen : List ℕ → List Link → ℕ × Link → Bool
seen m ls p = known m p.1 || list_any (joins p.1) (take p.0 ls)

seen_or_repeated : (m : List ℕ) (ls ps : List Link) → list_any (seen m (ps ++ ls)) (enumerate_from (length ps) ls) ≡ repeated m ps ls
unfolding repeated
seen_or_repeated m [] ps = refl
seen_or_repeated m (l ∷ ls) ps =
    let qs = ps ++ l ∷ [] in
    let e : qs ++ ls ≡ ps ++ l ∷ ls = append_assoc ps (l ∷ []) ls in
    let n : length qs ≡ length ps + 1 = length-append ps (l ∷ []) in
    ap₂ (λ (xs : List Link) (b : Bool). (known m l || list_any (joins l) xs) || b) (take_at ps (l ∷ ls) (length ps) refl)
    (ap₂ (λ (xs : List Link) (i : ℕ). list_any (seen m xs) (enumerate_from i ls)) (sym e) (sym n) ∙ seen_or_repeated m ls qs)

pub finds_repeats : (m : List ℕ) (ls : List Link) → list_any (seen m ls) (enumerate_from 0 ls) ≡ repeated m [] ls
finds_repeats m ls = seen_or_repeated m ls []

any_is : {X : Type 0} (f : X → Bool) (xs : List X) → any f xs ≡ list_any f xs
unfolding any
any_is f [] = refl
any_is f (x ∷ xs) = ap (λ (b : Bool). f x || b) (any_is f xs)

-- with those that stand before them in the list
repeats_behind : (m : List ℕ) → Ready m → (ps ls : List Link) → all_there (card_board m) ls ≡ true →
    repeated m ps ls ≡ said_before (with_links (card_board m) ps) ls
unfolding repeated said_before
repeats_behind m R ps [] t = refl
repeats_behind m R ps (l ∷ ls) t =
    let r = card_board m in
    let h = there_parts r l ls t in
    rw (known_so m R l h.0 h.1, ← any_is (joins l) ps, any_append (joins l) r.links ps, repeats_behind m R (ps ++ l ∷ []) ls h.2) (simp append_assoc)

pub repeats : Repeats
repeats m r ls M t =
    subst (λ (b : Board). repeated m [] ls ≡ said_before b ls) (sym M.is)
    (repeats_behind m M.ready [] ls (subst (λ (b : Board). all_there b ls ≡ true) M.is t) ∙ simp append-nil)

past_inside : (r : Board) (ls : List Link) → all_there r ls ≡ true → past_named r ls ≤ length r.row
unfolding past_named
past_inside r [] t = omega arith
past_inside r (l ∷ ls) t =
    let h = there_parts r l ls t in
    let ih = past_inside r ls h.2 in
    omega (arith, place_below r.row l.from h.0, place_below r.row l.to h.1)

first_past : (r : Board) (l : Link) (ls : List Link) → first_named r (l ∷ ls) < past_named r (l ∷ ls)
unfolding first_named past_named
first_past r l ls = omega arith

-- a link is kept, or goes backward
either_way : (b k : Bool) (x y : ℕ) → ((b || leb y x) || not k) ≡ (b || not (ltb x y && k))
either_way b k x y = grind (arith, nat_tests)

module _ (m : List ℕ) (R : Ready m) (D : Dense m) where
  abbrev r : Board
  r = card_board m

  few : length r.row ≤ CARDS
  few = omega (arith, length_cards m R.is_row, few_cards m R.is_row)

  -- a span that is widened to the places of a link's two cards on the board
  abbrev with_places : Link → Named → Named
  with_places l s = widened s (place r.row l.from) (place r.row l.to)

  -- the span of links, if s is that of those before them
  record Widens (ls : List Link) (s : Named) : Type 0 where
    low : min (spanned m ls s).span.low (length r.row) ≡ min s.span.low (first_named r ls)
    high : (spanned m ls s).span.high ≡ max s.span.high (past_named r ls)
    back : (spanned m ls s).back ≡ (s.back || not (keeps r.row ls))

  widens_by : (l : Link) (ls : List Link) (s : Named) → all_there r (l ∷ ls) ≡ true →
      Widens ls (with_places l s) → Widens (l ∷ ls) s
  unfolding spanned widened first_named past_named every
  widens_by l ls s t W =
      let h = there_parts r l ls t in
      let a = place_below r.row l.from h.0 in
      let b = place_below r.row l.to h.1 in
      let e : spanned m (l ∷ ls) s ≡ spanned m ls (with_places l s) = ap (spanned m ls) (wider_so m R l h.0 h.1 D s) in
      record {
        low = rw e (omega (arith, W.low, few));
        high = rw e (omega (arith, W.high, few));
        back = ap (λ (x : Named). x.back) e ∙ W.back ∙ either_way s.back (keeps r.row ls) (place r.row l.from) (place r.row l.to);
      }

  widens : (ls : List Link) (s : Named) → all_there r ls ≡ true → Widens ls s
  unfolding spanned first_named past_named every
  widens [] s t = record { low = refl; high = omega arith; back = grind arith }
  widens (l ∷ ls) s t = widens_by l ls s t (widens ls (with_places l s) (there_parts r l ls t).2)

  back_so : (ls : List Link) → all_there r ls ≡ true → (spanned m ls no_span).back ≡ not (keeps r.row (r.links ++ ls))
  back_so ls t =
      (widens ls no_span t).back
      ∙ ap not (sym (every_append _ r.links ls ∙ ap (λ b. b && keeps r.row ls) (fine_parts r (fine_cards m R)).kept))

  names_so : (ls : List Link) → all_there r ls ≡ true → (spanned m ls no_span).back ≡ true → Names r ls (spanned m ls no_span).span
  unfolding spanned
  names_so [] t z = absurd (both_ways _ refl z)
  names_so (l ∷ ls) t z =
      let w = widens (l ∷ ls) no_span t in
      let p = first_past r l ls in
      let q = past_inside r (l ∷ ls) t in
      let n = few in
      (omega (arith, w.low), omega (arith, w.high), p, q, n)

spans_dense : (m : List ℕ) (r : Board) (ls : List Link) → Means m r → Dense m → all_there r ls ≡ true → SpansIn m r ls
spans_dense m r ls M D t =
    let u = rw M.is at t in subst (λ (b : Board). SpansIn m b ls) (sym M.is) (back_so m M.ready D ls u, names_so m M.ready D ls u)

pub spans : Spans
spans = (spans_dense, λ m r ls M t. spans_dense (packed m) r ls (packed_means m r M) (packed_row m r M) t)

moving_some : (s : Named) → is_some (moving s) ≡ s.back
unfolding moving
moving_some s = grind arith

moving_back : (s : Named) (x : Span) → moving s ≡ Some x → (s.back ≡ true) × (s.span ≡ x)
unfolding moving
moving_back s x e = elim (cases_Bool s.back) [
  | inl b ↦ let z = rw b at e in (b, cc)
  | inr b ↦ let z = rw b at e in absurd (cc)
]

moves_dense : (m : List ℕ) (r : Board) (ls : List Link) → Means m r → Dense m → all_there r ls ≡ true → MovesIn m r ls
moves_dense m r ls M D t =
    let s = spanned m ls no_span in
    let S = spans_dense m r ls M D t in (
      moving_some s ∙ S.0,
      λ x z. let b = moving_back s x z in subst (Names r ls) b.1 (S.1 b.0),
    )

pub span_moves : SpanMoves
span_moves = (moves_dense, λ m r ls M t. moves_dense (packed m) r ls (packed_means m r M) (packed_row m r M) t)

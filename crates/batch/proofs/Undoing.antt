-- Links that were tried are taken out again, and the row is seated as it was: the memory means the board that it meant before.
use Rattle.std.proofs.Common.{◌≡◌, ℕ, Bool, true, false, not, List, [], ◌∷◌, ◌++◌, map, sym, refl, ap, ◌∙◌, subst, append-nil, arith, None, zero, suc, ◌+◌, ◌-◌, ◌/◌, ◌%◌, ◌≤◌, min, ltb, length, take, Some}
use Rattle.std.proofs.lemmas.Bool.{eq-eqb, and_parts, and_from}
use Rattle.std.proofs.lemmas.Bool.Decides.{nat_tests}
use Rattle.order.specs.declared.board.Link.{Link}
use Rattle.order.specs.Lists.{every, any, filter}
use Rattle.order.specs.Board.{Board, linked}
use Rattle.order.specs.Renaming.{named}
use Rattle.memory.specs.Columns.{cell}
use Rattle.row.specs.declared.layout.TheConstants.{IDS, COUNT, CHAIN, TAKEN}
use Rattle.row.specs.Meaning.{used, digit, bit_set, IsRow}
use Rattle.row.specs.Moves.{packed}
use Rattle.order.proofs.Climbs.{fine_parts, link_ends}
use Rattle.order.proofs.RenamesLinks.{Known, joins_map}
use Rattle.links.specs.Pairs.{joins}
use Rattle.links.specs.Table.{edges, once, columns as table}
use Rattle.search.specs.Meaning.{Ready}
use Rattle.keeper.specs.Meaning.{card_board, Means}
use Rattle.keeper.proofs.Knowing.{fine_cards, ends_used}
use Rattle.keeper.proofs.TwoCards.{Seated, seated, slots_there, linked_is}
use Rattle.keeper.proofs.Unlinking.{removed_means}
use Rattle.batch.specs.Several.{with_links, all_there, Becomes, first_named, past_named}
use Rattle.batch.specs.Joining.{dropped, taken_out, tried}
use Rattle.batch.specs.UndoLaws.{TakesOut, put_aside, Covers, UndoesIn, Undoes, UndoesNone}
use Rattle.batch.proofs.SeveralOrder.{any_append}
use Rattle.batch.proofs.Tries.{small_parts, means_fine}
use Rattle.memory.specs.declared.column.TheConstants.{MEMORY}
use Rattle.order.specs.declared.board.TheConstants.{CARDS}
use Rattle.command.specs.declared.command.Command.TheVariants.{Link as Links}
use Rattle.memory.specs.declared.column.Column.{Column}
use Rattle.memory.specs.Footprints.{clear, Writes, at_each}
use Rattle.memory.proofs.Footprints.{less, after}
use Rattle.keeper.specs.Promise.{small_command}
use Rattle.batch.specs.declared.seating.Span.{Span}
use Rattle.batch.specs.declared.layout.TheConstants.{SPARE}
use Rattle.batch.specs.Dense.{Dense}
use Rattle.batch.specs.JoinLaws.{AllIn, Stopped}
use Rattle.batch.specs.Seating.{reseated}
use Rattle.batch.specs.Saying.{undone}
use Rattle.batch.proofs.Saving.{saved_in, saved_writes}
use Rattle.batch.proofs.Denseness.{few}
use Rattle.batch.proofs.SeveralBetween.{several_between, SameEnds, ends_within}
use Rattle.batch.proofs.SaidSize.{tried_columns, Trying, tried_so, taken_out_writes}
use Rattle.batch.proofs.ReadyAgain.{packed_long, packed_means, packed_row, row_count, Aside, seated_back}

-- a link that is there once, taken out of a list
none_out : (x : Link) (xs : List Link) → any (joins x) xs ≡ false → filter (λ y. not (joins x y)) xs ≡ xs
unfolding any filter
none_out x [] n = refl
none_out x (y ∷ xs) n = let ih = none_out x xs in grind (arith, nat_tests)

one_out : (x : Link) (xs ys : List Link) → once (xs ++ x ∷ ys) ≡ true → filter (λ y. not (joins x y)) (xs ++ x ∷ ys) ≡ xs ++ ys
unfolding any filter once
one_out x [] ys o =
    let n = none_out x ys in
    let p = eq-eqb x.from x.from refl in
    let q = eq-eqb x.to x.to refl in
    grind (arith, nat_tests)
one_out x (y ∷ xs) ys o =
    let ih = one_out x xs ys in
    let a = any_append (joins y) xs (x ∷ ys) in
    grind (arith, nat_tests)

-- no link between cards is there twice, if none between their slots is
once_named : (f : ℕ → ℕ) (D : ℕ → Bool) → ((j k : ℕ) → D j ≡ true → D k ≡ true → f j ≡ f k → j ≡ k) → (xs : List Link) → Known D xs →
    once (map (named f) xs) ≡ once xs
unfolding once every
once_named f D tell [] h = refl
once_named f D tell (x ∷ xs) h =
    let p = and_parts _ _ h in
    let q = and_parts _ _ p.0 in
    rw (joins_map f D tell xs x.from x.to p.1 q.0 q.1, once_named f D tell xs p.1) refl

once_cards : (m : List ℕ) (r : Board) → Means m r → once r.links ≡ true
once_cards m r M =
    let R = M.ready in
    ap (λ (b : Board). once b.links) M.is ∙ once_named (cell m IDS) (used m) R.is_row.stands.one_slot (edges m) (ends_used m R) ∙ M.single

-- one link
abbrev without : Board → Link → Board
without r l = record { row = r.row; links = filter (λ y. not (joins l y)) r.links }

module _ (m : List ℕ) (M : Means m (card_board m)) (l : Link) (h : linked (card_board m) l.from l.to ≡ true) where
  abbrev R : Ready m
  R = M.ready

  by_slots : (s t : ℕ) → Seated m l.from s → Seated m l.to t → Means (dropped m l) (without (card_board m) l)
  unfolding dropped
  by_slots s t A B = rw (slots_there m R l s t A B) (removed_means m M l s t A B (sym (linked_is m R l.from l.to s t A B) ∙ h))

  drops : Means (dropped m l) (without (card_board m) l)
  drops =
      let r = card_board m in
      let p = link_ends r (fine_parts r (fine_cards m R)) l.from l.to h in
      let A = seated m R l.from p.0 in
      let B = seated m R l.to p.1 in
      by_slots A.0 B.0 A.1 B.1

dropped_means : (m : List ℕ) (r : Board) (l : Link) → Means m r → linked r l.from l.to ≡ true → Means (dropped m l) (without r l)
dropped_means m r l M h =
    let e = M.is in
    subst (λ (b : Board). Means (dropped m l) (without b l)) (sym e) (drops m (subst (Means m) e M) l (rw e at h))

-- all of them
pub takes_out : TakesOut
unfolding taken_out any
takes_out m r [] sm M = subst (λ (ls : List Link). Means m (record { row = r.row; links = ls })) (append-nil r.links) M
takes_out m r (l ∷ ks) sm M =
    let s = small_parts l ks sm in
    let here : linked (with_links r (l ∷ ks)) l.from l.to ≡ true =
    any_append (joins l) r.links (l ∷ ks) ∙ (let p = eq-eqb l.from l.from refl in let q = eq-eqb l.to l.to refl in grind arith) in
    takes_out (dropped m l) r ks s.1
    (subst (λ (ls : List Link). Means (dropped m l) (record { row = r.row; links = ls })) (one_out l r.links ks (once_cards m _ M))
    (dropped_means m (with_links r (l ∷ ks)) l M here))

first_within : (r : Board) (ls : List Link) → first_named r ls ≤ length r.row
unfolding first_named
first_within r [] = omega arith
first_within r (l ∷ ls) = omega (arith, first_within r ls)

-- a row stays without gaps where nobody comes or goes
still_dense : (fs : List Column) (m m' : List ℕ) → clear fs COUNT ≡ true → clear fs TAKEN ≡ true → Writes fs m m' → IsRow m' → Dense m → Dense m'
unfolding bit_set
still_dense fs m m' c t w R D = record {
  is_row = R;
  full = λ p. ap (λ (v : ℕ). digit v (p % 64)) (w.others TAKEN (p / 64) t) ∙ D.full p ∙ ap (ltb p) (sym (w.others COUNT 0 c));
}

-- the links that were put in are ks
module _ (m : List ℕ) (r : Board) (ls ks : List Link) (s : Span) (row : List ℕ) (M : Means m r) (D : Dense m) (sm : every (λ l. small_command (Links l)) ks ≡ true)
    (t : all_there r ks ≡ true) (long : length m ≡ MEMORY) (C : Covers s r ks) (b : Becomes r ks row) where
  abbrev lo : ℕ
  lo = s.low

  abbrev size : ℕ
  size = min s.high CARDS - lo

  abbrev m₁ : List ℕ
  m₁ = put_aside m s

  abbrev m₂ : List ℕ
  m₂ = (tried m₁ ls 0).memory

  abbrev m₃ : List ℕ
  m₃ = taken_out m₂ ks

  room : length r.row ≤ CARDS
  room = omega (arith, row_count m r M, few m D)

  inside : lo + size ≤ length r.row
  inside = omega (arith, C.lower, first_within r ks, C.within)

  ends : SameEnds lo (lo + size) row r.row
  ends =
      let B = several_between r ks row (means_fine m r M) t b in
      ends_within lo (lo + size) (first_named r ks) (past_named r ks) row r.row C.lower (omega (arith, C.higher, C.within, room)) B.front B.rest

  -- what is written, while links are tried and taken out
  tried_frame : Trying m₁ m₃
  tried_frame = after tried_columns table m₁ m₂ m₃ refl (taken_out_writes m₂ ks) (tried_so ⊥ m₁ ls 0 (λ z. absurd z)).wrote

  frame : Writes (SPARE ∷ tried_columns) m m₃
  frame =
      after (SPARE ∷ tried_columns) tried_columns m m₁ m₃ refl tried_frame
      (less (SPARE ∷ tried_columns) (SPARE ∷ []) m m₁ refl (saved_writes m lo size))

  module _ (M₂ : Means m₂ (record { row = row; links = r.links ++ ks })) where
    M₃ : Means m₃ (record { row = row; links = r.links })
    M₃ = takes_out m₂ (record { row = row; links = r.links }) ks sm M₂

    aside : Aside m m₃ lo size
    aside = record {
      dense = D;
      dense_since = still_dense (SPARE ∷ tried_columns) m m₃ refl refl frame M₃.ready.is_row D;
      same_ids = λ j. frame.others IDS j refl;
      same_chain = λ j. frame.others CHAIN j refl;
      aside = λ p l u. tried_frame.others SPARE p refl ∙ saved_in m lo size (omega arith) p l u (omega (arith, inside, room));
    }

    pub undone_so : Means (undone m₂ ks (Some s)) r
    unfolding undone
    undone_so = seated_back m m₃ r row lo size M M₃ aside inside ends (several_between r ks row (means_fine m r M) t b).same_cards

-- what is so of links is so of the first of them
every_front : (f : Link → Bool) (n : ℕ) (ls : List Link) → every f ls ≡ true → every f (take n ls) ≡ true
unfolding every
every_front f zero ls h = refl
every_front f (suc n) [] h = refl
every_front f (suc n) (l ∷ ls) h = let p = and_parts (f l) (every f ls) h in and_from _ _ p.0 (every_front f n ls p.1)

covers_front : (s : Span) (r : Board) (n : ℕ) (ls : List Link) → Covers s r ls → Covers s r (take n ls)
unfolding first_named past_named
covers_front s r zero ls C = record { lower = omega (arith, C.lower, first_within r ls); higher = omega arith; within = C.within }
covers_front s r (suc n) [] C = C
covers_front s r (suc n) (l ∷ ls) C =
    let ih = covers_front s r n ls (record { lower = omega (arith, C.lower); higher = omega (arith, C.higher); within = C.within }) in
    record { lower = omega (arith, C.lower, ih.lower); higher = omega (arith, C.higher, ih.higher); within = C.within }

undoes_dense : (m : List ℕ) (r : Board) (ls : List Link) (n : ℕ) (s : Span) (row : List ℕ) → Means m r → Dense m →
    every (λ l. small_command (Links l)) ls ≡ true → all_there r ls ≡ true → length m ≡ MEMORY → Covers s r ls → Becomes r (take n ls) row →
    UndoesIn m r ls n s row
undoes_dense m r ls n s row M D sm t long C b =
    undone_so m r ls (take n ls) s row M D (every_front _ n ls sm) (every_front _ n ls t) long (covers_front s r n ls C) b

pub undoes : Undoes
undoes = (
  undoes_dense,
  λ m r ls n s row M sm t long C b. undoes_dense (packed m) r ls n s row (packed_means m r M) (packed_row m r M) sm t (packed_long m ∙ long) C b,
)

-- links that were all put in, and links of which one goes round
module _ (m : List ℕ) (r : Board) (ls : List Link) (s : Span) (M : Means m r) (D : Dense m) (sm : every (λ l. small_command (Links l)) ls ≡ true)
    (t : all_there r ls ≡ true) (long : length m ≡ MEMORY) (C : Covers s r ls) where
  pub undoes_all : AllIn (put_aside m s) r ls → Means (undone (tried (put_aside m s) ls 0).memory ls (Some s)) r
  undoes_all A = undone_so m r ls ls s A.row M D sm t long C A.becomes A.means

  pub undoes_stopped : Stopped (put_aside m s) r ls →
      Means (undone (tried (put_aside m s) ls 0).memory (take (tried (put_aside m s) ls 0).count ls) (Some s)) r
  undoes_stopped S = undoes_dense m r ls (tried (put_aside m s) ls 0).count s S.row M D sm t long C S.becomes S.means

pub undoes_none : UndoesNone
unfolding undone reseated at_each
undoes_none m r ls None sm e M = takes_out m r ls sm M
undoes_none m r ls (Some s) sm e M =
    let h : s.high ≤ s.low = e s refl in
    let z : min s.high CARDS - s.low ≡ 0 = omega arith in rw z (takes_out m r ls sm M)

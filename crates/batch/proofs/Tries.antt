-- A link that is tried is put in, with the row as if the link were said alone, or it goes round, and the memory means the same board. So with links
-- tried one after the other: all are in, with the row that they make, or one goes round, and those before it are in.
use Rattle.std.proofs.Common.{◌≡◌, ℕ, ◌<◌, ◌≤◌, true, false, List, [], ◌∷◌, length, Some, None, Option, sym, refl, ap, ◌∙◌, subst, inl, inr, arith, suc, ◌+◌, ◌&&◌, ◌||◌, eqb, ◌++◌, append_assoc, append-nil, length-append}
use Rattle.std.proofs.lemmas.Bool.{cases_eq, cases_lt, both_ways, eq-eqb, ne_eqb, lt-ltb, le-ltb, and_from, cases_Bool, and_parts}
use Rattle.order.specs.declared.board.Link.{Link}
use Rattle.command.specs.declared.command.Command.TheVariants.{Link as Links}
use Rattle.order.specs.Lists.{any, has, distinct, every}
use Rattle.order.specs.Board.{Board, ◌⟶◌, linked, leads, fine}
use Rattle.command.specs.Commands.{must_be}
use Rattle.order.specs.Reordering.{goes_round, follows, last_of, link_must_be, with_link}
use Rattle.memory.specs.Columns.{cell}
use Rattle.row.specs.declared.layout.TheConstants.{IDS, SEATS}
use Rattle.row.specs.Meaning.{cards}
use Rattle.order.proofs.Filters.{same_itself}
use Rattle.order.proofs.Leading.{leads_just}
use Rattle.links.specs.declared.layout.TheConstants.{ENTRIES}
use Rattle.links.specs.Entries.{live}
use Rattle.links.specs.Pairs.{joins as same_link}
use Rattle.links.specs.Table.{edges}
use Rattle.links.proofs.Operating.{counts}
use Rattle.search.specs.Meaning.{Ready}
use Rattle.search.specs.Hunt.{meeting}
use Rattle.search.specs.HuntLaws.{Found}
use Rattle.search.proofs.Starting.{meets}
use Rattle.keeper.specs.Promise.{small_command}
use Rattle.keeper.specs.Meaning.{card_board, Means}
use Rattle.keeper.proofs.Knowing.{names, fine_cards}
use Rattle.keeper.proofs.TwoCards.{Seated, seated, slots_there, leads_is, linked_is}
use Rattle.keeper.proofs.Forward.{forward, no_round, put_means}
use Rattle.keeper.proofs.Moving.{new, is_firm, keeps_all, goes_back, moved_means}
use Rattle.keeper.proofs.Backward.{forgotten_means, goes}
use Rattle.keeper.proofs.Opened.{open_keeps}
use Rattle.order.proofs.Allowed.{Open}
use Rattle.keeper.specs.Reordering.{round_cards}
use Rattle.batch.specs.Joining.{Joined, put_down, joined_slots, joined, Tried, tried}
use Rattle.batch.specs.Several.{after_link, linked_on, with_links, said_before, closes, Becomes, circle}
use Rattle.batch.specs.JoinLaws.{PutIn, GoesRound, AllIn, Stopped, Joins, Tries}
use Rattle.batch.proofs.SeveralOrder.{any_append}
use Rattle.batch.proofs.SeveralRows.{there_parts, goes_on}
use Rattle.batch.proofs.Trying.{a_way}
use Rattle.batch.proofs.CircleLinks.{circle_more, round_closed}

module _ (m : List ℕ) (M : Means m (card_board m)) (l : Link) (sm : small_command (Links l) ≡ true) (h : length (card_board m).links < ENTRIES) where
  abbrev r : Board
  r = card_board m

  abbrev R : Ready m
  R = M.ready

  abbrev Either : Type 0
  Either = (leads r l.to l.from ≡ false → PutIn m r l) × (leads r l.to l.from ≡ true → GoesRound m r l)

  room : live m < ENTRIES
  room = omega (arith, (names m R).length_links_named, counts m R.is_table)

  module _ (s t : ℕ) (A : Seated m l.from s) (B : Seated m l.to t) (ha : has (cards m) l.from ≡ true) (hb : has (cards m) l.to ≡ true)
      (n : any (same_link (s ⟶ t)) (edges m) ≡ false) where
    abbrev x : Link
    x = s ⟶ t

    alone : s ≡ t → joined m l ≡ record { memory = m; way = Some (l.from ∷ []) }
    unfolding joined
    alone e = rw (slots_there m R l s t A B, eq-eqb s t e) refl

    itself_round : l.from ≡ l.to → goes_round r l.from l.to (l.from ∷ []) ≡ true
    unfolding goes_round follows last_of distinct any
    itself_round k = and_from _ _ (and_from _ _ (eq-eqb l.from l.to k) (eq-eqb l.from l.from refl)) refl

    -- a card before itself
    itself : s ≡ t → Either
    itself e =
        let k : l.from ≡ l.to = sym A.card ∙ ap (cell m IDS) e ∙ B.card in
        let ld = subst (λ (y : ℕ). leads r l.to y ≡ true) (sym k) (leads_just r l.to l.to l.to (fine_cards m R)).0 in
        let j = alone e in (
          (λ z. absurd (both_ways _ z ld)),
          λ _. record {
            way = l.from ∷ [];
            is_way = ap (λ (a : Joined). a.way) j;
            round = itself_round k;
            means = subst (λ (k : List ℕ). Means k r) (sym (ap (λ (a : Joined). a.memory) j)) M;
          },
        )

    module _ (ne : s ≡ t → ⊥) where
      by_slots : joined m l ≡ joined_slots m x
      unfolding joined
      by_slots = rw (slots_there m R l s t A B, ne_eqb s t ne) refl

      put_so : cell m SEATS s ≤ cell m SEATS t → joined m l ≡ put_down m x
      unfolding joined_slots
      put_so fw = by_slots ∙ rw (le-ltb (cell m SEATS t) (cell m SEATS s) fw) refl

      -- the first stands first already
      ahead : cell m SEATS s ≤ cell m SEATS t → Either
      unfolding must_be link_must_be
      ahead fw =
          let j = put_so fw in
          let z = no_round m M l s t A B ne fw in
          let f = forward m M l s t A B ne fw in
          let b : Open r l.from l.to = record { there = (ha, hb); no_way = z } in (
            (λ _. record {
              no_way = ap (λ (a : Joined). a.way) j;
              row = r.row;
              is_row = rw f (same_itself r.row);
              keeps_all = open_keeps r (fine_cards m R) l.from l.to b f;
              means = subst (λ (k : List ℕ). Means k (after_link r l r.row)) (sym (ap (λ (a : Joined). a.memory) j))
                  (put_means m M l s t A B ne fw n room);
            }),
            λ y. absurd (both_ways _ z y),
          )

      module _ (w : cell m SEATS t < cell m SEATS s) where
        abbrev m₁ : List ℕ
        m₁ = (meeting m x).memory

        -- by what the search finds
        found : (y : Option Link) → (meeting m x).answer ≡ y → Found m m₁ s t y → Either
        unfolding must_be link_must_be joined_slots
        found (Some y) e T =
            let j = by_slots ∙ rw (lt-ltb _ _ w, e) refl in
            let ld : leads r l.to l.from ≡ true = leads_is m R l.from l.to s t A B ∙ T.round in (
              (λ z. absurd (both_ways _ z ld)),
              λ _. record {
                way = round_cards m₁ x y;
                is_way = ap (λ (a : Joined). a.way) j;
                round = goes m M l sm s t A B n y T;
                means = subst (λ (k : List ℕ). Means k r) (sym (ap (λ (a : Joined). a.memory) j))
                    (forgotten_means m m₁ r T.kept T.fore_summed T.hind_summed M);
              },
            )
        found None e P =
            let j = by_slots ∙ rw (lt-ltb _ _ w, e) refl in
            let z : leads r l.to l.from ≡ false = leads_is m R l.from l.to s t A B ∙ P.no_round in
            let row = new m M l s t A B n w m₁ P room in (
              (λ _. record {
                no_way = ap (λ (a : Joined). a.way) j;
                row = row;
                is_row = rw (goes_back m M l s t A B n w m₁ P) (is_firm m M l s t A B n w m₁ P room);
                keeps_all = keeps_all m M l s t A B n w m₁ P room;
                means = subst (λ (k : List ℕ). Means k (after_link r l row)) (sym (ap (λ (a : Joined). a.memory) j))
                    (moved_means m M l s t A B n w m₁ P room);
              }),
              λ y. absurd (both_ways _ z y),
            )

  all : has r.row l.from ≡ true → has r.row l.to ≡ true → linked r l.from l.to ≡ false → Either
  all p q z =
      let ha = p in
      let hb = q in
      let A = seated m R l.from ha in
      let B = seated m R l.to hb in
      let n = sym (linked_is m R l.from l.to A.0 B.0 A.1 B.1) ∙ z in
      elim (cases_eq A.0 B.0) [
        | inl e ↦ itself A.0 B.0 A.1 B.1 ha hb n e
        | inr e ↦ elim (cases_lt (cell m SEATS B.0) (cell m SEATS A.0)) [
          | inl w ↦ found A.0 B.0 A.1 B.1 ha hb n e w (meeting m (A.0 ⟶ B.0)).answer refl
              (meets m A.0 B.0 R A.1.in_use B.1.in_use w)
          | inr w ↦ ahead A.0 B.0 A.1 B.1 ha hb n e w
        ]
      ]

pub joins : Joins
joins m r l M sm p q z h =
    let e = M.is in
    let Claim : Board → Type 0 = λ (b : Board). (leads b l.to l.from ≡ false → PutIn m b l) × (leads b l.to l.from ≡ true → GoesRound m b l) in
    subst Claim (sym e)
    (all m (subst (Means m) e M) l sm (rw e at h) (rw e at p) (rw e at q) (rw e at z))

pub means_fine : (m : List ℕ) (r : Board) → Means m r → fine r ≡ true
means_fine m r M = subst (λ (b : Board). fine b ≡ true) (sym M.is) (fine_cards m M.ready)

-- what was said before depends on the links alone
said_row : (row row₁ : List ℕ) (ks ls : List Link) → said_before (record { row = row₁; links = ks }) ls ≡ said_before (record { row = row; links = ks }) ls
unfolding said_before
said_row row row₁ ks [] = refl
said_row row row₁ ks (l ∷ ls) = ap (λ b. any (λ x. eqb x.from l.from && eqb x.to l.to) ks || b) (said_row row row₁ (ks ++ (l.from ⟶ l.to) ∷ []) ls)

-- the circle that a link closes, with all links
closing : (r : Board) (l : Link) (ls : List Link) (way : List ℕ) → goes_round r l.from l.to way ≡ true → circle (with_links r (l ∷ ls)) way ≡ true
unfolding any
closing r l ls way g =
    round_closed r (with_links r (l ∷ ls)) (λ a b h. let e = any_append (λ x. eqb x.from a && eqb x.to b) r.links (l ∷ ls) in grind arith)
    l.from l.to
    (let e = any_append (λ x. eqb x.from l.from && eqb x.to l.to) r.links (l ∷ ls) in
    let p = eq-eqb l.from l.from refl in let q = eq-eqb l.to l.to refl in grind arith) way g

said_parts : (r : Board) (l : Link) (ls : List Link) → said_before r (l ∷ ls) ≡ false →
    (linked r l.from l.to ≡ false) × (said_before (linked_on r l) ls ≡ false)
unfolding said_before
said_parts r l ls b = (grind arith, grind arith)

pub small_parts : (l : Link) (ls : List Link) → every (λ l. small_command (Links l)) (l ∷ ls) ≡ true →
    (small_command (Links l) ≡ true) × (every (λ l. small_command (Links l)) ls ≡ true)
unfolding every
small_parts l ls h = and_parts _ _ h

-- whatever was put in before
tried_from : (m : List ℕ) (ls : List Link) (i : ℕ) →
    tried m ls i ≡ record { memory = (tried m ls 0).memory; count = i + (tried m ls 0).count; way = (tried m ls 0).way }
unfolding tried
tried_from m [] i = let e : i ≡ i + 0 = omega arith in ap (λ (n : ℕ). record { memory = m; count = n; way = None }) e
tried_from m (l ∷ ls) i = elim (a_way (joined m l).way) [
  | inl e ↦
      let t = tried (joined m l).memory ls 0 in
      let n : i + 1 + t.count ≡ i + (1 + t.count) = omega arith in
      rw e (tried_from (joined m l).memory ls (i + 1) ∙ ap (λ (k : ℕ). record { memory = t.memory; count = k; way = t.way }) n
      ∙ ap (λ (x : Tried). record { memory = x.memory; count = i + x.count; way = x.way }) (sym (tried_from (joined m l).memory ls 1)))
  | inr w ↦ let e : i ≡ i + 0 = omega arith in rw w.1 (ap (λ (n : ℕ). record { memory = (joined m l).memory; count = n; way = Some w.0 }) e)
]

abbrev Both : List ℕ → Board → List Link → Type 0
Both m r ls = (closes r ls ≡ false → AllIn m r ls) × (closes r ls ≡ true → Stopped m r ls)

module _ (m : List ℕ) (r : Board) (l : Link) (ls : List Link) where
  goes_up : GoesRound m r l → leads r l.to l.from ≡ true → Both m r (l ∷ ls)
  unfolding tried closes Becomes
  goes_up G ld =
      let M = subst (λ (ks : List Link). Means (joined m l).memory (record { row = r.row; links = ks })) (sym (append-nil r.links)) G.means in (
        λ z. absurd (both_ways _ z (rw ld refl)),
        λ _. record {
          way = G.way;
          is_way = rw G.is_way refl;
          round = closing r l ls G.way G.round;
          row = r.row;
          becomes = rw G.is_way refl;
          means = rw G.is_way M;
        },
      )

  goes_in : (P : PutIn m r l) → leads r l.to l.from ≡ false → closes (after_link r l P.row) ls ≡ closes (linked_on r l) ls →
      Both (joined m l).memory (after_link r l P.row) ls → Both m r (l ∷ ls)
  unfolding closes tried Becomes
  goes_in P ld c S =
      let t = tried (joined m l).memory ls 0 in
      let e : 1 + t.count ≡ suc t.count = omega arith in
      let on : tried m (l ∷ ls) 0 ≡ record { memory = t.memory; count = suc t.count; way = t.way } =
      rw P.no_way (tried_from (joined m l).memory ls 1 ∙ ap (λ (n : ℕ). record { memory = t.memory; count = n; way = t.way }) e) in (
        λ z. let a = S.0 (c ∙ (rw ld at z)) in record {
          no_way = ap (λ (t : Tried). t.way) on ∙ a.no_way;
          row = a.row;
          becomes = (P.row, P.is_row, P.keeps_all, a.becomes);
          means = subst (λ (x : List ℕ). Means x (record { row = a.row; links = r.links ++ l ∷ ls })) (sym (ap (λ (t : Tried). t.memory) on))
              (simp append_assoc at a.means);
        },
        λ z. let a = S.1 (c ∙ (rw ld at z)) in record {
          way = a.way;
          is_way = ap (λ (t : Tried). t.way) on ∙ a.is_way;
          round = circle_more (with_links (after_link r l P.row) ls) (with_links r (l ∷ ls)) (λ p q h. simp append_assoc at h) a.way a.round;
          row = a.row;
          becomes = rw on (P.row, P.is_row, P.keeps_all, a.becomes);
          means = rw on (simp append_assoc at a.means);
        },
      )

pub tries : Tries
unfolding tried closes Becomes
tries m r [] M sm t b h = (
  (λ _. record {
    no_way = refl;
    row = r.row;
    becomes = refl;
    means = subst (λ (ls : List Link). Means m (record { row = r.row; links = ls })) (sym (append-nil r.links)) M;
  }),
  λ e. absurd (both_ways _ refl e),
)
tries m r (l ∷ ls) M sm t b h =
    let p = there_parts r l ls t in
    let q = said_parts r l ls b in
    let k = small_parts l ls sm in
    let j = joins m r l M k.0 p.0 p.1 q.0 (omega arith) in
    elim (cases_Bool (leads r l.to l.from)) [
      | inl ld ↦ goes_up m r l ls (j.1 ld) ld
      | inr ld ↦
          let P = j.0 ld in
          let g = goes_on r l ls P.row (means_fine m r M) t P.is_row P.keeps_all in
          goes_in m r l ls P ld g.closing
          (tries (joined m l).memory (after_link r l P.row) ls P.means k.1 g.there
          (said_row r.row P.row (with_link r l.from l.to) ls ∙ q.1)
          (omega (arith, length-append r.links ((l.from ⟶ l.to) ∷ []))))
    ]

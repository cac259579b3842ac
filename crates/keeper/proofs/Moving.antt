-- A link that goes backward and can be kept: the row is settled for it, the memory means the board with the link, and what is told makes the row new.
-- With that each link is made or refused rightly.
use Rattle.std.proofs.Common.{◌≡◌, ℕ, ◌<◌, ◌≤◌, true, false, List, [], ◌∷◌, ◌++◌, map, length, None, refl, sym, ap, ap₂, ◌∙◌, subst, arith, suc, ◌+◌, ◌-◌, ◌^◌, min, Some, Option, inl, inr}
use Rattle.std.proofs.lemmas.Bool.{lt-ltb, ltb-true, le-leb, lt-leb, cases_lt, ne_eqb}
use lib.ListN.{length-map}
use Rattle.order.specs.declared.board.TheConstants.{CARDS, LINKS}
use Rattle.order.specs.declared.board.Link.{Link}
use Rattle.order.specs.declared.board.Refusal.TheVariants.{Full}
use Rattle.order.specs.Lists.{every, any, place}
use Rattle.order.specs.Board.{Board, ◌⟶◌, leads, keeps, fine}
use Rattle.order.specs.Reordering.{link_refusal, link_must_be, with_link, backward, firm}
use Rattle.order.specs.Renaming.{renamed}
use Rattle.order.proofs.Filters.{every_more}
use Rattle.command.specs.declared.command.Command.TheVariants.{Link as Links}
use Rattle.command.specs.Commands.{refusal, must_be}
use Rattle.command.proofs.Staying.{must_may}
use Rattle.memory.specs.declared.column.Column.{Column}
use Rattle.memory.specs.Columns.{cell}
use Rattle.memory.specs.Footprints.{Writes}
use Rattle.memory.proofs.Footprints.{less, after as then}
use Rattle.row.specs.declared.layout.TheConstants.{IDS, COUNT, SLOTS, SEATS}
use Rattle.row.specs.Meaning.{count, used, row_of, cards, place_at}
use Rattle.row.specs.Theory.{SameRow}
use Rattle.row.proofs.Named.{has_slot, place_slot, order_slots, row_used, length_slots, used_below}
use Rattle.row.proofs.Present.{used_place, few_cards}
use Rattle.links.specs.declared.layout.TheConstants.{ENTRIES}
use Rattle.links.specs.Pairs.{joins}
use Rattle.links.specs.Table.{columns as link_columns, edges}
use Rattle.links.specs.Entries.{live, inserted}
use Rattle.links.specs.Laws.{StaysOnce}
use Rattle.links.proofs.Keeping.{live_kept}
use Rattle.links.proofs.Operating.{counts, inserts_table, inserts_edges}
use Rattle.links.proofs.Onces.{stays_once}
use Rattle.links.proofs.Writing.{inserted_writes}
use Rattle.search.specs.Columns.{columns as search_columns, searched}
use Rattle.search.specs.Meaning.{slot_board, Ready, Parted}
use Rattle.search.specs.Settle.{forgotten, settled}
use Rattle.search.specs.SettleLaws.{Settled, Settles}
use Rattle.search.proofs.RowSettled.{settles as row_settles}
use Rattle.keeper.specs.Promise.{small_command}
use Rattle.keeper.specs.Answers.{leaves_pending}
use Rattle.keeper.specs.Reordering.{moved, reordered}
use Rattle.keeper.specs.Own.{said, own}
use Rattle.keeper.specs.Meaning.{card_board, Means}
use Rattle.keeper.proofs.Simulation.{StepKept}
use Rattle.keeper.proofs.Opened.{open_stays}
use Rattle.keeper.proofs.Knowing.{names}
use Rattle.keeper.proofs.Carrying.{unmarked_kept, same_row, board_of, means_by, Noted, settles}
use Rattle.keeper.proofs.Saying.{refuses_kept, full_is_not, step_said}
use Rattle.keeper.proofs.Forward.{both, linked_here, links_counted, not_found, links_by}
use Rattle.keeper.proofs.Backward.{forgotten_means, round}
use Rattle.keeper.proofs.TwoCards.{Seated, leads_is, backward_seats, slots_there}
use Rattle.order.proofs.Only.{firm_parts}
use Rattle.keeper.specs.Engine.{run_of, ran, runs}
use Rattle.keeper.specs.Telling.{told_part}
use Rattle.keeper.proofs.Cases.{backward_by}
use Rattle.keeper.proofs.Parts.{Anew}
use Rattle.keeper.proofs.ToldRuns.{ToldOut, told_run}
use Rattle.search.specs.Hunt.{meeting}
use Rattle.search.specs.HuntLaws.{Found}
use Rattle.search.proofs.Starting.{meets}
use Rattle.keeper.specs.Linking.{linked as linking}

module _ (m : List ℕ) (M : Means m (card_board m)) (l : Link) (s t : ℕ) (A : Seated m l.from s) (B : Seated m l.to t)
    (n : any (joins (s ⟶ t)) (edges m) ≡ false) (w : cell m SEATS t < cell m SEATS s) (m₁ : List ℕ) (P : Parted m m₁ s t) where
  abbrev r : Board
  r = card_board m

  abbrev R : Ready m
  R = M.ready

  abbrev x : Link
  x = s ⟶ t

  -- the places of the two cards
  abbrev low : ℕ
  low = place_at m t

  abbrev high : ℕ
  high = place_at m s

  pub place_low : place r.row l.to ≡ low
  place_low = ap (place r.row) (sym B.card) ∙ (names m R).place_named t B.in_use ∙ place_slot m R.is_row t B.in_use

  pub place_high : place r.row l.from ≡ high
  place_high = ap (place r.row) (sym A.card) ∙ (names m R).place_named s A.in_use ∙ place_slot m R.is_row s A.in_use

  pub bounds : (low < high) × (high < count m) × (count m ≤ CARDS)
  bounds =
      let o = ltb-true _ _ (sym (order_slots m R.is_row t s B.in_use A.in_use) ∙ lt-ltb _ _ w) in
      let p = place_slot m R.is_row t B.in_use in
      let q = place_slot m R.is_row s A.in_use in
      (omega arith, (used_place m R.is_row s A.in_use).0, few_cards m R.is_row)

  -- the search left the row and the links as they were
  searched_row : SameRow m m₁
  searched_row = same_row searched m m₁ P.kept refl

  pub same_places : (u : ℕ) → place_at m₁ u ≡ place_at m u
  same_places = searched_row.same_places

  pub same_live : live m₁ ≡ live m
  same_live = live_kept searched refl m m₁ P.kept

  no_round : leads r l.to l.from ≡ false
  no_round = leads_is m R l.from l.to s t A B ∙ P.no_round

  pub full : small_command (Links l) ≡ true → said m (Links l) ≡ moved m₁ x → LINKS ≤ live m → StepKept own 3 Means m r (Links l)
  unfolding refusal link_refusal moved
  full sm se h =
      refuses_kept Means m (forgotten m₁) r (Links l) Full M.idle sm
      (rw (both m M l s t A B, linked_here m M l s t A B ∙ n, no_round, le-leb LINKS (length r.links) (omega (arith, links_counted m M l s t A B)))) full_is_not
      (se ∙ rw (le-leb LINKS (live m₁) (omega (arith, same_live))) refl)
      (forgotten_means m m₁ r P.kept P.fore_summed P.hind_summed M)

  pub allowed : live m < LINKS → refusal r (Links l) ≡ None
  unfolding refusal link_refusal
  allowed h =
      rw (both m M l s t A B, linked_here m M l s t A B ∙ n, no_round, lt-leb LINKS (length r.links) (omega (arith, links_counted m M l s t A B)))

  pub goes_back : backward r l.from l.to ≡ true
  goes_back = backward_seats m R l.from l.to s t A B ∙ lt-ltb _ _ w

  -- settled, and the link put in, whatever the number of links
  module _ (h : live m < ENTRIES) where
    abbrev m₂ : List ℕ
    m₂ = settled m₁

    abbrev pub m₃ : List ℕ
    m₃ = inserted m₂ x

    S : Settled m m₂ s t
    unfolding Settles
    S = row_settles m₁ m₂ refl m s t R A.in_use B.in_use w P

    abbrev both_columns : List Column
    both_columns = (SLOTS ∷ SEATS ∷ search_columns) ++ link_columns

    wrote : Writes both_columns m m₃
    wrote = then both_columns link_columns m m₂ m₃ refl (inserted_writes m₂ x) (less both_columns (SLOTS ∷ SEATS ∷ search_columns) m m₂ refl S.wrote)

    D : SameRow m₂ m₃
    D = same_row link_columns m₂ m₃ (inserted_writes m₂ x) refl

    ids_are : cell m₃ IDS ≡ cell m IDS
    ids_are = λ t u. wrote.others IDS u refl t

    edges_are : edges m₃ ≡ with_link (slot_board m) s t
    edges_are =
        inserts_edges m₂ x S.is_table (let c = counts m R.is_table in let e = ap length S.same_edges in omega arith) (used_below m R.is_row s A.in_use)
        (used_below m R.is_row t B.in_use)
        ∙ ap (λ (es : List Link). es ++ x ∷ []) S.same_edges

    every_used : every (used m) (row_of m₂) ≡ true
    every_used = every_more (used m₂) (used m) (λ u e. sym (S.same_used u) ∙ e) (row_of m₂) (row_used m₂ S.is_row)

    abbrev pub new : List ℕ
    new = map (cell m IDS) (row_of m₂)

    pub new_cards : cards m₃ ≡ new
    new_cards = ap₂ (λ (f : ℕ → ℕ) (xs : List ℕ). map f xs) ids_are D.same_row

    pub is_firm : firm r l.from l.to new ≡ true
    is_firm =
        ap₂ (λ (p q : ℕ). firm r p q new) (sym A.card) (sym B.card)
        ∙ (names m R).firm_named s t (row_of m₂) A.in_use B.in_use every_used ∙ S.is_firm

    pub keeps_all : keeps new (with_link r l.from l.to) ≡ true
    keeps_all =
        ap₂ (λ (p q : ℕ). keeps new (with_link r p q)) (sym A.card) (sym B.card)
        ∙ (names m R).keeps_with_link_named s t (row_of m₂) A.in_use B.in_use every_used ∙ S.keeps_links

    pub same_count : count m₃ ≡ count m
    same_count = wrote.others COUNT 0 refl

    pub as_long : length new ≡ length r.row
    as_long =
        length-map (row_of m₂) (cell m IDS) ∙ length_slots m₂ S.is_row ∙ S.wrote.others COUNT 0 refl
        ∙ sym (length-map (row_of m) (cell m IDS) ∙ length_slots m R.is_row)

    abbrev after : Board
    after = record { row = row_of m₂; links = with_link (slot_board m) s t }

    fine_after : fine after ≡ true
    unfolding must_be link_must_be
    fine_after =
        let b = slot_board m in
        let bk : backward b s t ≡ true = sym (order_slots m R.is_row t s B.in_use A.in_use) ∙ lt-ltb _ _ w in
        open_stays b R.fine_so s t (has_slot m R.is_row s A.in_use, has_slot m R.is_row t B.in_use) (row_of m₂) (must_may b (Links x) (row_of m₂) (rw bk S.is_firm)) S.keeps_links

    abbrev pub board : Board
    board = record { row = new; links = with_link r l.from l.to }

    named_so : board ≡ renamed (cell m₃ IDS) after
    named_so =
        board_of refl (ap₂ (λ (p q : ℕ). with_link r p q) (sym A.card) (sym B.card) ∙ (names m R).with_link_named s t)
        ∙ ap (λ (f : ℕ → ℕ). renamed f after) (sym ids_are)

    pub moved_means : Means m₃ board
    unfolding StaysOnce
    moved_means =
        means_by both_columns m m₃ wrote refl M (D.is_row S.is_row) (inserts_table m₂ x S.is_table)
        (unmarked_kept link_columns m₂ m₃ (inserted_writes m₂ x) refl S.unmarked) after (board_of D.same_row edges_are) fine_after
        (stays_once.1 (edges m) x M.single n) board named_so

    -- the memory at the end, with nothing but the keeper's own numbers changed
    pub at_end : (k : List ℕ) → Noted m₃ k → Means (leaves_pending k 0) board
    at_end k N =
        let Q = moved_means in
        subst (Means (leaves_pending k 0)) (sym Q.is) (settles m₃ k Q.ready Q.single Q.long N)

  -- what is told makes the row new, in one part or in two
  module _ (sm : small_command (Links l) ≡ true) (h : live m < LINKS) (se : said m (Links l) ≡ moved m₁ x) where
    wide : live m < ENTRIES
    wide = omega (arith, h)

    abbrev k : List ℕ
    k = m₃ wide

    abbrev row : List ℕ
    row = new wide

    K : Means k (board wide)
    K = moved_means wide

    said_is : said m (Links l) ≡ told_part k low (suc high)
    unfolding moved
    said_is =
        let b = bounds in
        let j : min (high + 1) (2 ^ 64 - 1) ≡ suc high = omega arith in
        se ∙ rw (lt-leb LINKS (live m₁) (omega (arith, same_live)))
        (ap₂ (told_part k) (same_places t) (ap (λ (p : ℕ). min (p + 1) (2 ^ 64 - 1)) (same_places s) ∙ j))

    T : ToldOut k low (suc high)
    T = let b = bounds in let c = same_count wide in told_run k K.ready.is_row K.long low (suc high) (omega arith) (omega arith)

    runs_so : run_of 3 own m (Links l) ≡ ran (leaves_pending T.memory 0) T.parts [] 0
    unfolding runs
    runs_so = rw (step_said m (Links l) _ M.idle sm said_is) T.run

    anew : Anew r.row row low (suc high)
    anew =
        let p = (firm_parts r l.from l.to row (is_firm wide)).is_little in
        rw (sym place_low, sym place_high) (record { long = sym (as_long wide); front = sym p.front; rest = sym p.rest })

    pub moves : StepKept own 3 Means m r (Links l)
    moves =
        backward_by own 3 Means m r (leaves_pending T.memory 0) l (allowed h) goes_back row (is_firm wide) (keeps_all wide) T.parts
        (T.makes r.row (subst (λ (xs : List ℕ). Anew r.row xs low (suc high)) (sym (new_cards wide)) anew) ∙ new_cards wide)
        (rw (place_low, place_high) T.inside) runs_so (at_end wide T.memory T.only)

-- a link that goes backward, whatever the search finds; and so each link
module _ (m : List ℕ) (M : Means m (card_board m)) (l : Link) (sm : small_command (Links l) ≡ true) where
  module _ (s t : ℕ) (A : Seated m l.from s) (B : Seated m l.to t) (n : any (joins (s ⟶ t)) (edges m) ≡ false) (ne : s ≡ t → ⊥)
      (w : cell m SEATS t < cell m SEATS s) where
    said_so : said m (Links l) ≡ reordered m (s ⟶ t)
    unfolding said linking
    said_so = rw (slots_there m M.ready l s t A B, not_found m M l s t A B n, ne_eqb s t ne, lt-ltb (cell m SEATS t) (cell m SEATS s) w) refl

    by_answer : (y : Option Link) → (meeting m (s ⟶ t)).answer ≡ y → Found m (meeting m (s ⟶ t)).memory s t y → StepKept own 3 Means m (card_board m) (Links l)
    unfolding reordered
    by_answer (Some y) e T = round m M l sm s t A B n y T (said_so ∙ rw e refl)
    by_answer None e P =
        let m₁ = (meeting m (s ⟶ t)).memory in
        let se : said m (Links l) ≡ moved m₁ (s ⟶ t) = said_so ∙ rw e refl in
        elim (cases_lt (live m) LINKS) [
          | inl h ↦ moves m M l s t A B n w m₁ P sm h se
          | inr h ↦ full m M l s t A B n w m₁ P sm se h
        ]

    pub back : StepKept own 3 Means m (card_board m) (Links l)
    back = by_answer (meeting m (s ⟶ t)).answer refl (meets m s t M.ready A.in_use B.in_use w)

  pub links_means : StepKept own 3 Means m (card_board m) (Links l)
  links_means = links_by m M l sm back

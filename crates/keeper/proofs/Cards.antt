-- A card comes, and the memory means the board with one card more; a card goes, and it means the board without it and its links;
-- or it is asked where two cards stand.
use Rattle.std.proofs.Common.{◌≡◌, ℕ, ◌<◌, ◌≤◌, Bool, true, false, ◌&&◌, List, [], ◌∷◌, ◌++◌, map, length, Ok, sym, refl, ap, ap₂, ◌∙◌, inl, inr, arith, not, ◌||◌, eqb, Some, None}
use Rattle.std.proofs.lemmas.Bool.{cases_Bool, cases_lt, le-leb, lt-leb, ltb-true, and_parts}
use lib.ListN.{length-map}
use Rattle.order.specs.declared.board.TheConstants.{CARDS}
use Rattle.order.specs.declared.board.Link.{Link}
use Rattle.order.specs.declared.board.Refusal.TheVariants.{Exists, Full, Missing}
use Rattle.order.specs.Lists.{every, has, filter, place}
use Rattle.order.specs.Board.{Board, fine}
use Rattle.order.specs.Renaming.{named, renamed}
use Rattle.order.specs.Outcomes.{Outcome}
use Rattle.order.proofs.Filters.{same_itself}
use Rattle.command.specs.declared.command.Command.TheVariants.{Comes, Goes, Places}
use Rattle.command.specs.Commands.{refusal, may_be, row_before, links_after}
use Rattle.command.proofs.Staying.{stays}
use Rattle.memory.specs.Columns.{cell}
use Rattle.memory.specs.Footprints.{Writes}
use Rattle.row.specs.declared.layout.TheConstants.{IDS}
use Rattle.row.specs.Columns.{columns as row_columns}
use Rattle.row.specs.Meaning.{used, row_of, cards}
use Rattle.row.specs.Moves.{came, gone, place_found}
use Rattle.row.specs.Laws.{Came, Gone}
use Rattle.row.proofs.Named.{has_used, has_slot}
use Rattle.row.proofs.Coming.{comes_appends}
use Rattle.row.proofs.Framing.{came_writes, gone_writes}
use Rattle.links.specs.Table.{edges, columns as link_columns, IsTable}
use Rattle.links.proofs.Keeping.{table_kept, edges_kept}
use Rattle.search.specs.Meaning.{slot_board, Ready}
use Rattle.keeper.specs.Promise.{small_command}
use Rattle.keeper.specs.Answers.{quiet, ends, leaves_pending}
use Rattle.keeper.specs.Own.{ended, said, own}
use Rattle.keeper.specs.Meaning.{card_board, Means}
use Rattle.keeper.proofs.Opened.{comes_keeps, goes_keeps}
use Rattle.keeper.proofs.Simulation.{StepKept}
use Rattle.keeper.proofs.Cases.{comes_kept, goes_kept, places_kept}
use Rattle.keeper.proofs.Knowing.{ends_used, fine_cards, names}
use Rattle.keeper.proofs.Carrying.{unmarked, unmarked_kept, board_of, means_by, same_row, same_ids, noted, is_pending, settles}
use Rattle.keeper.proofs.Saying.{run_done, refuses_kept, exists_is_not, full_is_not, missing_is_not, step_said, step_next, went_done}
use Rattle.memory.specs.declared.column.Column.{Column}
use Rattle.memory.proofs.Footprints.{less, after as then, same as as_it_was}
use Rattle.row.proofs.Going.{goes_filters}
use Rattle.links.specs.Entries.{removed_all}
use Rattle.links.proofs.Operating.{removes_all_table, removes_all_edges}
use Rattle.links.proofs.Onces.{stays_once}
use Rattle.links.specs.Laws.{StaysOnce}
use Rattle.links.proofs.Writing.{removed_all_writes}
use Rattle.row.proofs.Present.{finds_place}
use Rattle.keeper.specs.declared.event.Event.TheVariants.{Said}
use Rattle.keeper.specs.declared.event.Act.TheVariants.{Shows, Done}
use Rattle.keeper.specs.Columns.{columns}
use Rattle.keeper.proofs.Unroll.{shows_done}

-- links between slots, of which each end has the same card as before
pub same_names : (f g : ℕ → ℕ) (D : ℕ → Bool) → ((t : ℕ) → D t ≡ true → g t ≡ f t) → (ls : List Link) →
    every (λ l. D l.from && D l.to) ls ≡ true → map (named g) ls ≡ map (named f) ls
unfolding every
same_names f g D h [] e = refl
same_names f g D h (l ∷ ls) e =
    let p = and_parts (D l.from && D l.to) _ e in
    let q = and_parts (D l.from) (D l.to) p.0 in
    ap₂ ◌∷◌ (rw (h l.from q.0, h l.to q.1) refl) (same_names f g D h ls p.1)

module _ (m : List ℕ) (M : Means m (card_board m)) where
  abbrev r : Board
  r = card_board m

  abbrev R : Ready m
  R = M.ready

  -- a card comes
  module _ (k : ℕ) (sm : small_command (Comes k) ≡ true) where
    exists : has (cards m) k ≡ true → StepKept own 3 Means m r (Comes k)
    unfolding refusal said
    exists h =
        let e = (comes_appends m k R.is_row).0 h in
        refuses_kept Means m m r (Comes k) Exists M.idle sm (rw h) exists_is_not (ap (λ (x : Outcome). quiet (ended x.answer x.memory)) e) M

    full : has (cards m) k ≡ false → CARDS ≤ length (cards m) → StepKept own 3 Means m r (Comes k)
    unfolding refusal said
    full n h =
        let e = (comes_appends m k R.is_row).1 n h in
        refuses_kept Means m m r (Comes k) Full M.idle sm (rw (n, le-leb CARDS (length r.row) h)) full_is_not
        (ap (λ (x : Outcome). quiet (ended x.answer x.memory)) e) M

    module _ (n : has (cards m) k ≡ false) (h : length (cards m) < CARDS) where
      law : (s : ℕ) × ((came m k).answer ≡ Ok s) × Came m k s (came m k).memory
      law = (comes_appends m k R.is_row).2 n h

      abbrev s : ℕ
      s = law.0

      abbrev m' : List ℕ
      m' = (came m k).memory

      abbrev C : Came m k s m'
      C = law.2

      wrote : Writes row_columns m m'
      unfolding small_command
      wrote = came_writes m k (ltb-true _ _ sm)

      abbrev after : Board
      after = record { row = row_of m ++ s ∷ []; links = edges m }

      fine_after : fine after ≡ true
      unfolding refusal may_be row_before links_after
      fine_after =
          let x = slot_board m in
          let a : has (row_of m) s ≡ false = has_used m R.is_row s ∙ C.was_free in
          let l = length-map (row_of m) (cell m IDS) in
          stays x (Comes s) (row_of m ++ s ∷ []) R.fine_so (rw (a, lt-leb CARDS (length (row_of m)) (omega arith))) (same_itself _) (comes_keeps x R.fine_so s)

      means : Means m' (record { row = r.row ++ k ∷ []; links = r.links })
      means =
          means_by row_columns m m' wrote refl M C.is_row (table_kept row_columns refl m m' wrote R.is_table) (unmarked_kept row_columns m m' wrote refl (unmarked m R))
          after (board_of C.slots_are (edges_kept row_columns refl m m' wrote)) fine_after M.single _
          (board_of (sym (ap (map (cell m' IDS)) (sym C.slots_are) ∙ C.cards_are))
          (sym (same_names (cell m IDS) (cell m' IDS) (used m) C.same_cards (edges m) (ends_used m R))))

      comes_in : StepKept own 3 Means m r (Comes k)
      unfolding refusal said
      comes_in = comes_kept own 3 Means m r m' (fine_cards m R) k (rw (n, lt-leb CARDS (length r.row) h)) (run_done m m' (Comes k) M.idle sm (rw law.1 refl)) means

    pub comes_means : StepKept own 3 Means m r (Comes k)
    comes_means = elim (cases_Bool (has (cards m) k)) [
      | inl h ↦ exists h
      | inr n ↦ elim (cases_lt (length (cards m)) CARDS) [ inl h ↦ comes_in n h | inr h ↦ full n h ]
    ]

  -- a card goes
  module _ (k : ℕ) (sm : small_command (Goes k) ≡ true) where
    none_goes : has (cards m) k ≡ false → StepKept own 3 Means m r (Goes k)
    unfolding refusal said
    none_goes n = refuses_kept Means m m r (Goes k) Missing M.idle sm (rw n) missing_is_not (rw ((goes_filters m k R.is_row).0 n) refl) M

    module _ (h : has (cards m) k ≡ true) where
      go_law : (u : ℕ) × ((gone m k).answer ≡ Ok u) × Gone m k u (gone m k).memory
      go_law = (goes_filters m k R.is_row).1 h

      abbrev u : ℕ
      u = go_law.0

      abbrev G : Gone m k u (gone m k).memory
      G = go_law.2

      abbrev m₁ : List ℕ
      m₁ = (gone m k).memory

      abbrev n : List ℕ
      n = removed_all m₁ u

      abbrev both : List Column
      both = row_columns ++ link_columns

      -- of the row first, then of the links
      both_wrote : Writes both m n
      both_wrote = then both link_columns m m₁ n refl (removed_all_writes m₁ u) (less both row_columns m m₁ refl (gone_writes m k))

      table_between : IsTable m₁
      table_between = table_kept row_columns refl m m₁ (gone_writes m k) R.is_table

      abbrev left : Board
      left = record { row = filter (λ j. not (eqb j u)) (row_of m); links = filter (λ (y : Link). not (eqb y.from u || eqb y.to u)) (edges m) }

      is_after : slot_board n ≡ left
      is_after =
          board_of ((same_row link_columns m₁ n (removed_all_writes m₁ u) refl).same_row ∙ G.slots_are)
          (removes_all_edges m₁ u table_between
          ∙ ap (filter (λ (y : Link). not (eqb y.from u || eqb y.to u))) (edges_kept row_columns refl m m₁ (gone_writes m k)))

      ids_are : cell n IDS ≡ cell m IDS
      ids_are = same_ids link_columns m₁ n (removed_all_writes m₁ u) refl ∙ (λ t i. G.same_cards i t)

      fine_left : fine left ≡ true
      unfolding refusal may_be row_before links_after
      fine_left =
          let x = slot_board m in
          stays x (Goes u) (filter (λ j. not (eqb j u)) (row_of m)) R.fine_so (rw (has_slot m R.is_row u G.was_used)) (same_itself _) (goes_keeps x R.fine_so u)

      abbrev without : ℕ → Board
      without j = record { row = filter (λ i. not (eqb i j)) r.row; links = filter (λ (l : Link). not (eqb l.from j || eqb l.to j)) r.links }

      named_so : without k ≡ renamed (cell n IDS) left
      named_so =
          ap without (sym G.was_card)
          ∙ board_of (sym ((names m R).row_without_named u G.was_used)) (sym ((names m R).links_without_named u G.was_used))
          ∙ ap (λ (f : ℕ → ℕ). renamed f left) (sym ids_are)

      means_left : Means n (without k)
      unfolding StaysOnce
      means_left =
          means_by both m n both_wrote refl M ((same_row link_columns m₁ n (removed_all_writes m₁ u) refl).is_row G.is_row) (removes_all_table m₁ u table_between)
          (unmarked_kept both m n both_wrote refl (unmarked m R)) left is_after fine_left (stays_once.2 _ (edges m) M.single) (without k) named_so

      goes_out : StepKept own 3 Means m r (Goes k)
      unfolding refusal said
      goes_out = goes_kept own 3 Means m r n (fine_cards m R) k (rw h) (run_done m n (Goes k) M.idle sm (rw go_law.1 refl)) means_left

    pub goes_means : StepKept own 3 Means m r (Goes k)
    goes_means = elim (cases_Bool (has (cards m) k)) [ inl h ↦ goes_out h | inr n ↦ none_goes n ]

  -- where two cards stand
  module _ (a b : ℕ) (sm : small_command (Places a b) ≡ true) where
    at : (k : ℕ) → has (cards m) k ≡ true → place_found m k ≡ Some (place r.row k)
    at k h = finds_place m k R.is_row ∙ rw h

    nowhere : (k : ℕ) → has (cards m) k ≡ false → place_found m k ≡ None
    nowhere k n = finds_place m k R.is_row ∙ rw n

    first_missing : has (cards m) a ≡ false → StepKept own 3 Means m r (Places a b)
    unfolding refusal said
    first_missing n = refuses_kept Means m m r (Places a b) Missing M.idle sm (rw n) missing_is_not (rw (nowhere a n)) M

    second_missing : has (cards m) a ≡ true → has (cards m) b ≡ false → StepKept own 3 Means m r (Places a b)
    unfolding refusal said
    second_missing h n = refuses_kept Means m m r (Places a b) Missing M.idle sm (rw (h, n)) missing_is_not (rw (at a h, nowhere b n)) M

    shown : has (cards m) a ≡ true → has (cards m) b ≡ true → StepKept own 3 Means m r (Places a b)
    unfolding refusal said
    shown h g =
        let m₁ = leaves_pending m 1 in
        let ks = place r.row a ∷ place r.row b ∷ [] in
        let e = step_said m (Places a b) (record { act = Ok (Shows 2); memory = m₁; numbers = ks }) M.idle sm (rw (at a h, at b g)) in
        let f = step_next m₁ (quiet (ends (Ok Done) (leaves_pending m₁ 0))) (went_done m₁ (is_pending m M.long 1)) in
        places_kept own 3 Means m r (leaves_pending m₁ 0) (fine_cards m R) a b (rw (h, g))
        (shows_done own m m₁ (leaves_pending m₁ 0) (Said (Places a b)) ks e f)
        (settles m m₁ R M.single M.long (noted m m 1 (omega arith) (as_it_was columns m)))

    pub places_means : StepKept own 3 Means m r (Places a b)
    places_means = elim (cases_Bool (has (cards m) a)) [
      | inl h ↦ elim (cases_Bool (has (cards m) b)) [ inl g ↦ shown h g | inr n ↦ second_missing h n ]
      | inr n ↦ first_missing n
    ]

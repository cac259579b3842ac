-- A link is made that the row keeps already, or is refused at once.
use Rattle.std.proofs.Common.{◌≡◌, ℕ, ◌<◌, ◌≤◌, true, false, ◌&&◌, List, [], ◌∷◌, length, get_or, is_some, Some, None, Option, Ok, Err, sym, refl, ap, ap₂, ◌∙◌, subst, inl, inr, arith}
use Rattle.std.proofs.lemmas.Bool.{cases_Bool, cases_eq, cases_lt, both_ways, eq-eqb, ne_eqb, le-ltb, le-leb, lt-leb, ltb-false, and_from}
use Rattle.order.specs.declared.board.TheConstants.{LINKS}
use Rattle.order.specs.declared.board.Link.{Link}
use Rattle.order.specs.declared.board.Refusal.TheVariants.{Missing, Exists, Cycle, Full}
use Rattle.order.specs.Lists.{any, has, distinct}
use Rattle.order.specs.Board.{Board, ◌⟶◌, linked, leads, fine}
use Rattle.order.specs.Reordering.{link_refusal, link_may_be, with_link, backward, goes_round, follows, last_of}
use Rattle.order.specs.Renaming.{renamed}
use Rattle.order.proofs.Filters.{same_itself}
use Rattle.order.proofs.Allowed.{Open}
use Rattle.order.proofs.Leading.{leads_just, leads_before}
use Rattle.command.specs.declared.command.Command.TheVariants.{Link as Links}
use Rattle.command.specs.Commands.{refusal, may_be}
use Rattle.memory.specs.Columns.{cell}
use Rattle.memory.specs.Footprints.{Writes}
use Rattle.memory.proofs.Footprints.{same as as_it_was}
use Rattle.row.specs.declared.layout.TheConstants.{IDS, SEATS}
use Rattle.row.specs.Meaning.{row_of, cards, place_at}
use Rattle.row.proofs.Named.{has_slot, place_slot, order_slots, used_below}
use Rattle.row.proofs.Present.{used_place, has_card}
use Rattle.links.specs.declared.layout.TheConstants.{ENTRIES}
use Rattle.links.specs.Pairs.{joins}
use Rattle.links.specs.Table.{columns as link_columns, edges}
use Rattle.links.specs.Entries.{live, found as entry_found, inserted}
use Rattle.links.specs.Laws.{StaysOnce}
use Rattle.links.proofs.Operating.{counts, inserts_table, inserts_edges, finds}
use Rattle.links.proofs.Onces.{stays_once}
use Rattle.links.proofs.Writing.{inserted_writes}
use Rattle.search.specs.Meaning.{slot_board, Ready}
use Rattle.keeper.specs.declared.event.Event.TheVariants.{Said}
use Rattle.keeper.specs.declared.event.Reason.TheVariants.{Board as ByBoard}
use Rattle.keeper.specs.declared.event.Act.TheVariants.{Shows}
use Rattle.keeper.specs.Columns.{columns}
use Rattle.keeper.specs.Promise.{small_command}
use Rattle.keeper.specs.Answers.{quiet, ends, leaves_pending}
use Rattle.keeper.specs.Linking.{slots_found, put_in, linked as linking}
use Rattle.keeper.specs.Own.{said, own}
use Rattle.keeper.specs.Meaning.{card_board, Means}
use Rattle.keeper.proofs.Opened.{open_stays, open_keeps}
use Rattle.keeper.proofs.Simulation.{StepKept}
use Rattle.keeper.proofs.Cases.{forward_kept, round_kept}
use Rattle.keeper.proofs.Knowing.{names, fine_cards}
use Rattle.keeper.proofs.Carrying.{unmarked, unmarked_kept, same_row, same_ids, board_of, means_by, noted, is_pending, settles}
use Rattle.keeper.proofs.Saying.{step_said, step_next, went_round, run_done, refuses_kept, missing_is_not, exists_is_not, full_is_not}
use Rattle.keeper.proofs.Unroll.{shows_refused}
use Rattle.keeper.proofs.TwoCards.{Seated, seated, slots_there, first_absent, second_absent, linked_is, leads_is, backward_seats}

option_some : (o : Option ℕ) → is_some o ≡ true → (l : ℕ) × (o ≡ Some l)
option_some (Some l) e = (l, refl)
option_some None e = absurd (both_ways false refl e)

option_none : (o : Option ℕ) → is_some o ≡ false → o ≡ None
option_none (Some l) e = absurd (both_ways true e refl)
option_none None e = refl

-- two cards that are there
module _ (m : List ℕ) (M : Means m (card_board m)) (l : Link) (s t : ℕ) (A : Seated m l.from s) (B : Seated m l.to t) where
  abbrev r : Board
  r = card_board m

  abbrev R : Ready m
  R = M.ready

  abbrev x : Link
  x = s ⟶ t

  pub both : (has r.row l.from && has r.row l.to) ≡ true
  both =
      and_from _ _ (subst (λ (k : ℕ). has (cards m) k ≡ true) A.card (has_card m R.is_row s A.in_use))
      (subst (λ (k : ℕ). has (cards m) k ≡ true) B.card (has_card m R.is_row t B.in_use))

  pub linked_here : linked r l.from l.to ≡ any (joins x) (edges m)
  linked_here = linked_is m R l.from l.to s t A B

  pub links_counted : length r.links ≡ live m
  links_counted = (names m R).length_links_named ∙ sym (counts m R.is_table)

  found_law : is_some (entry_found m x) ≡ any (joins x) (edges m)
  found_law = finds m x R.is_table

  pub not_found : any (joins x) (edges m) ≡ false → entry_found m x ≡ None
  not_found n = option_none (entry_found m x) (found_law ∙ n)

  -- the first stands first already
  module _ (ne : s ≡ t → ⊥) (fw : cell m SEATS s ≤ cell m SEATS t) where
    pub forward : backward r l.from l.to ≡ false
    forward = backward_seats m R l.from l.to s t A B ∙ le-ltb (cell m SEATS t) (cell m SEATS s) fw

    pub no_round : leads r l.to l.from ≡ false
    no_round = elim (cases_Bool (leads r l.to l.from)) [
      | inl y ↦
          let S = R.is_row in
          let b = leads_before (slot_board m) t s R.fine_so (has_slot m S t B.in_use) (sym (leads_is m R l.from l.to s t A B) ∙ y) in
          let o = ltb-false _ _ (sym (order_slots m S t s B.in_use A.in_use) ∙ le-ltb (cell m SEATS t) (cell m SEATS s) fw) in
          let p = place_slot m S s A.in_use in
          let q = place_slot m S t B.in_use in
          let z : place_at m s ≡ place_at m t = omega arith in
          absurd (ne (sym (used_place m S s A.in_use).1 ∙ ap (λ (i : ℕ). get_or (row_of m) i 0) z ∙ (used_place m S t B.in_use).1))
      | inr y ↦ y
    ]

    -- put in, whatever the number of links, the memory means the board with it
    module _ (n : any (joins x) (edges m) ≡ false) (h : live m < ENTRIES) where
      abbrev m' : List ℕ
      m' = inserted m x

      wrote : Writes link_columns m m'
      wrote = inserted_writes m x

      abbrev after : Board
      after = record { row = row_of m; links = with_link (slot_board m) s t }

      slots_open : Open (slot_board m) s t
      slots_open = record {
        there = (has_slot m R.is_row s A.in_use, has_slot m R.is_row t B.in_use);
        no_way = sym (leads_is m R l.from l.to s t A B) ∙ no_round;
      }

      fine_after : fine after ≡ true
      unfolding may_be link_may_be
      fine_after =
          let b = slot_board m in
          let bw : backward b s t ≡ false =
          sym (order_slots m R.is_row t s B.in_use A.in_use) ∙ le-ltb (cell m SEATS t) (cell m SEATS s) fw in
          open_stays b R.fine_so s t slots_open.there (row_of m) (rw bw (same_itself (row_of m))) (open_keeps b R.fine_so s t slots_open bw)

      edges_are : edges m' ≡ with_link (slot_board m) s t
      edges_are =
          inserts_edges m x R.is_table (let c = counts m R.is_table in omega arith) (used_below m R.is_row s A.in_use) (used_below m R.is_row t B.in_use)

      abbrev new : Board
      new = record { row = r.row; links = with_link r l.from l.to }

      named_so : new ≡ renamed (cell m' IDS) after
      named_so =
          board_of refl (ap₂ (λ (p q : ℕ). with_link r p q) (sym A.card) (sym B.card) ∙ (names m R).with_link_named s t)
          ∙ ap (λ (f : ℕ → ℕ). renamed f after) (sym (same_ids link_columns m m' wrote refl))

      pub put_means : Means m' new
      unfolding StaysOnce
      put_means =
          let S = same_row link_columns m m' wrote refl in
          means_by link_columns m m' wrote refl M (S.is_row R.is_row) (inserts_table m x R.is_table) (unmarked_kept link_columns m m' wrote refl (unmarked m R)) after
          (board_of S.same_row edges_are) fine_after (stays_once.1 (edges m) x M.single n) new named_so

  module _ (sm : small_command (Links l) ≡ true) where
    there : any (joins x) (edges m) ≡ true → StepKept own 3 Means m r (Links l)
    unfolding refusal link_refusal said linking
    there h =
        let e = option_some (entry_found m x) (found_law ∙ h) in
        refuses_kept Means m m r (Links l) Exists M.idle sm (rw (both, linked_here ∙ h)) exists_is_not (rw (slots_there m R l s t A B, e.1) refl) M

    module _ (n : any (joins x) (edges m) ≡ false) where
      -- a card before itself
      itself : s ≡ t → StepKept own 3 Means m r (Links l)
      unfolding refusal link_refusal said linking goes_round follows last_of distinct any
      itself e =
          let k : l.from ≡ l.to = sym A.card ∙ ap (cell m IDS) e ∙ B.card in
          let m₁ = leaves_pending m 2 in
          let ld : leads r l.to l.from ≡ true = subst (λ (y : ℕ). leads r l.to y ≡ true) (sym k) (leads_just r l.to l.to l.to (fine_cards m R)).0 in
          let a = step_said m (Links l) (record { act = Ok (Shows 1); memory = m₁; numbers = l.from ∷ [] }) M.idle sm
          (rw (slots_there m R l s t A B, not_found n, eq-eqb s t e) refl) in
          let b = step_next m₁ (quiet (ends (Err (ByBoard Cycle)) (leaves_pending m₁ 0))) (went_round m₁ (is_pending m M.long 2)) in
          round_kept own 3 Means m r (leaves_pending m₁ 0) l (l.from ∷ []) (rw (both, linked_here ∙ n, ld))
          (and_from _ _ (and_from _ _ (eq-eqb l.from l.to k) (eq-eqb l.from l.from refl)) refl)
          (shows_refused own m m₁ (leaves_pending m₁ 0) (Said (Links l)) (l.from ∷ []) a 5 (omega arith) (omega arith) b)
          (settles m m₁ R M.single M.long (noted m m 2 (omega arith) (as_it_was columns m)))

      module _ (ne : s ≡ t → ⊥) (fw : cell m SEATS s ≤ cell m SEATS t) where
        said_so : linking m l ≡ quiet (put_in m x)
        unfolding linking
        said_so = rw (slots_there m R l s t A B, not_found n, ne_eqb s t ne, le-ltb (cell m SEATS t) (cell m SEATS s) fw) refl

        full : LINKS ≤ live m → StepKept own 3 Means m r (Links l)
        unfolding refusal link_refusal said put_in
        full h =
            refuses_kept Means m m r (Links l) Full M.idle sm
            (rw (both, linked_here ∙ n, no_round ne fw, le-leb LINKS (length r.links) (omega (arith, links_counted)))) full_is_not
            (said_so ∙ rw (le-leb LINKS (live m) h) refl) M

        made : live m < LINKS → StepKept own 3 Means m r (Links l)
        unfolding refusal link_refusal said put_in
        made h =
            let a : refusal r (Links l) ≡ None = rw (both, linked_here ∙ n, no_round ne fw, lt-leb LINKS (length r.links) (omega (arith, links_counted))) in
            forward_kept own 3 Means m r (inserted m x) (fine_cards m R) l a (forward ne fw)
            (run_done m (inserted m x) (Links l) M.idle sm (said_so ∙ rw (lt-leb LINKS (live m) h) refl)) (put_means ne fw n (omega arith))

module _ (m : List ℕ) (M : Means m (card_board m)) (l : Link) (sm : small_command (Links l) ≡ true) where
  no_card : slots_found m l ≡ None → (has (cards m) l.from && has (cards m) l.to) ≡ false → StepKept own 3 Means m (card_board m) (Links l)
  unfolding refusal link_refusal said linking
  no_card e n = refuses_kept Means m m (card_board m) (Links l) Missing M.idle sm (rw n) missing_is_not (rw e refl) M

  -- with the case of a link that goes backward
  pub links_by : ((s t : ℕ) (A : Seated m l.from s) (B : Seated m l.to t) → any (joins (s ⟶ t)) (edges m) ≡ false → (s ≡ t → ⊥) →
      cell m SEATS t < cell m SEATS s → StepKept own 3 Means m (card_board m) (Links l)) → StepKept own 3 Means m (card_board m) (Links l)
  links_by back = elim (cases_Bool (has (cards m) l.from)) [
    | inl g ↦
        let A = seated m M.ready l.from g in
        elim (cases_Bool (has (cards m) l.to)) [
          | inl h ↦
              let B = seated m M.ready l.to h in
              let s = A.0 in
              let t = B.0 in
              elim (cases_Bool (any (joins (s ⟶ t)) (edges m))) [
                | inl k ↦ there m M l s t A.1 B.1 sm k
                | inr k ↦ elim (cases_eq s t) [
                  | inl e ↦ itself m M l s t A.1 B.1 sm k e
                  | inr e ↦ elim (cases_lt (cell m SEATS t) (cell m SEATS s)) [
                    | inl w ↦ back s t A.1 B.1 k e w
                    | inr w ↦ elim (cases_lt (live m) LINKS) [
                      | inl q ↦ made m M l s t A.1 B.1 sm k e w q
                      | inr q ↦ full m M l s t A.1 B.1 sm k e w q
                    ]
                  ]
                ]
              ]
          | inr h ↦ no_card (second_absent m M.ready l A.0 A.1 h) (grind arith)
        ]
    | inr g ↦ no_card (first_absent m M.ready l g) (grind arith)
  ]

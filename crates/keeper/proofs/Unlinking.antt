-- A link is taken back: the memory means the board without it.
use Rattle.std.proofs.Common.{◌≡◌, ℕ, true, false, not, ◌&&◌, eqb, List, is_ok, None, Ok, Err, Result, sym, refl, ap, ap₂, ◌∙◌, inl, inr}
use Rattle.std.proofs.lemmas.Bool.{cases_Bool, both_ways}
use Rattle.order.specs.declared.board.Link.{Link}
use Rattle.order.specs.declared.board.Refusal.{Refusal}
use Rattle.order.specs.declared.board.Refusal.TheVariants.{Missing}
use Rattle.order.specs.Lists.{any, has, filter}
use Rattle.order.specs.Board.{Board, ◌⟶◌, linked, fine}
use Rattle.order.specs.Renaming.{renamed}
use Rattle.order.proofs.Filters.{same_itself}
use Rattle.command.specs.declared.command.Command.TheVariants.{Unlink as Unlinks}
use Rattle.command.specs.Commands.{refusal, may_be, row_before, links_after}
use Rattle.command.proofs.Staying.{stays}
use Rattle.memory.specs.Columns.{cell}
use Rattle.memory.specs.Footprints.{Writes}
use Rattle.row.specs.declared.layout.TheConstants.{IDS}
use Rattle.row.specs.Meaning.{row_of, cards}
use Rattle.links.specs.Pairs.{joins}
use Rattle.links.specs.Table.{columns as link_columns, edges}
use Rattle.links.specs.Entries.{removed}
use Rattle.links.specs.Laws.{StaysOnce}
use Rattle.links.proofs.Operating.{removes_table, removes_edges, removes_ok, removes_missing}
use Rattle.links.proofs.Onces.{stays_once}
use Rattle.links.proofs.Writing.{removed_writes}
use Rattle.search.specs.Meaning.{slot_board, Ready}
use Rattle.keeper.specs.Promise.{small_command}
use Rattle.keeper.specs.Linking.{slots_found, unlinked}
use Rattle.keeper.specs.Own.{said, own}
use Rattle.keeper.specs.Meaning.{card_board, Means}
use Rattle.keeper.proofs.Opened.{unlinks_keeps}
use Rattle.keeper.proofs.Simulation.{StepKept}
use Rattle.keeper.proofs.Cases.{unlinks_kept}
use Rattle.keeper.proofs.Knowing.{names, fine_cards}
use Rattle.keeper.proofs.Carrying.{unmarked, unmarked_kept, same_row, same_ids, board_of, means_by}
use Rattle.keeper.proofs.Saying.{run_done, refuses_kept, missing_is_not}
use Rattle.keeper.proofs.TwoCards.{Seated, seated, slots_there, first_absent, second_absent, unlinked_first, unlinked_second, linked_is}

result_ok : (o : Result ℕ Refusal) → is_ok o ≡ true → (l : ℕ) × (o ≡ Ok l)
result_ok (Ok l) e = (l, refl)
result_ok (Err w) e = absurd (both_ways false refl e)

module _ (m : List ℕ) (M : Means m (card_board m)) (l : Link) where
  abbrev r : Board
  r = card_board m

  abbrev R : Ready m
  R = M.ready

  abbrev new : Board
  new = record { row = r.row; links = filter (λ y. not (eqb y.from l.from && eqb y.to l.to)) r.links }

  module _ (s t : ℕ) (A : Seated m l.from s) (B : Seated m l.to t) where
    abbrev x : Link
    x = s ⟶ t

    linked_here : linked r l.from l.to ≡ any (joins x) (edges m)
    linked_here = linked_is m R l.from l.to s t A B

    abbrev m' : List ℕ
    m' = (removed m x).memory

    wrote : Writes link_columns m m'
    wrote = removed_writes m x

    abbrev after : Board
    after = record { row = row_of m; links = filter (λ (y : Link). not (joins x y)) (edges m) }

    fine_after : any (joins x) (edges m) ≡ true → fine after ≡ true
    unfolding refusal may_be row_before links_after
    fine_after h =
        let b = slot_board m in
        stays b (Unlinks x) (row_of m) R.fine_so (rw h) (same_itself _) (unlinks_keeps b R.fine_so s t)

    named_so : new ≡ renamed (cell m' IDS) after
    named_so =
        ap₂ (λ (p q : ℕ). record { row = r.row; links = filter (λ (y : Link). not (eqb y.from p && eqb y.to q)) r.links }) (sym A.card) (sym B.card)
        ∙ board_of refl (sym ((names m R).without_link_named s t A.in_use B.in_use))
        ∙ ap (λ (f : ℕ → ℕ). renamed f after) (sym (same_ids link_columns m m' wrote refl))

    pub removed_means : any (joins x) (edges m) ≡ true → Means m' new
    unfolding StaysOnce
    removed_means h =
        let S = same_row link_columns m m' wrote refl in
        means_by link_columns m m' wrote refl M (S.is_row R.is_row) (removes_table m x R.is_table) (unmarked_kept link_columns m m' wrote refl (unmarked m R)) after
        (board_of S.same_row (removes_edges m x R.is_table M.single)) (fine_after h) (stays_once.2 _ (edges m) M.single) new named_so

  module _ (sm : small_command (Unlinks l) ≡ true) where
    no_card : slots_found m l ≡ None → linked r l.from l.to ≡ false → StepKept own 3 Means m r (Unlinks l)
    unfolding refusal said unlinked
    no_card e n = refuses_kept Means m m r (Unlinks l) Missing M.idle sm (rw n) missing_is_not (rw e refl) M

    module _ (s t : ℕ) (A : Seated m l.from s) (B : Seated m l.to t) where
      no_link : any (joins (s ⟶ t)) (edges m) ≡ false → StepKept own 3 Means m r (Unlinks l)
      unfolding refusal said unlinked
      no_link n =
          refuses_kept Means m m r (Unlinks l) Missing M.idle sm (rw (linked_here s t A B ∙ n)) missing_is_not
          (rw (slots_there m R l s t A B, removes_missing m (s ⟶ t) R.is_table n) refl) M

      taken_back : any (joins (s ⟶ t)) (edges m) ≡ true → StepKept own 3 Means m r (Unlinks l)
      unfolding refusal said unlinked
      taken_back h =
          let q = result_ok (removed m (s ⟶ t)).answer (removes_ok m (s ⟶ t) R.is_table ∙ h) in
          unlinks_kept own 3 Means m r (m' s t A B) (fine_cards m R) l (rw (linked_here s t A B ∙ h))
          (run_done m (m' s t A B) (Unlinks l) M.idle sm (rw (slots_there m R l s t A B, q.1) refl)) (removed_means s t A B h)

    pub unlinks_means : StepKept own 3 Means m r (Unlinks l)
    unlinks_means = elim (cases_Bool (has (cards m) l.from)) [
      | inl g ↦
          let A = seated m R l.from g in
          elim (cases_Bool (has (cards m) l.to)) [
            | inl h ↦
                let B = seated m R l.to h in
                elim (cases_Bool (any (joins (A.0 ⟶ B.0)) (edges m))) [
                  | inl k ↦ taken_back A.0 B.0 A.1 B.1 k
                  | inr k ↦ no_link A.0 B.0 A.1 B.1 k
                ]
            | inr h ↦ no_card (second_absent m R l A.0 A.1 h) (unlinked_second m R l.from l.to h)
          ]
      | inr g ↦ no_card (first_absent m R l g) (unlinked_first m R l.from l.to g)
    ]

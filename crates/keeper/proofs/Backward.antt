-- A link that goes backward, found to go round: the way is shown, and the memory means the same board.
use Rattle.std.proofs.Common.{◌≡◌, ℕ, true, false, List, map, length, replicate, refl, sym, ◌∙◌, ap, subst, arith}
use lib.ListN.{length-replicate}
use Rattle.std.proofs.lemmas.List.{take_all}
use Rattle.order.specs.declared.board.TheConstants.{CARDS}
use Rattle.order.specs.declared.board.Link.{Link}
use Rattle.order.specs.Lists.{any}
use Rattle.order.specs.Board.{Board, ◌⟶◌, leads}
use Rattle.order.specs.Reordering.{link_refusal, goes_round}
use Rattle.command.specs.declared.command.Command.TheVariants.{Link as Links}
use Rattle.command.specs.Commands.{refusal}
use Rattle.memory.specs.Columns.{cell}
use Rattle.memory.specs.PlaceSetLaws.{Summed}
use Rattle.memory.proofs.Footprints.{same as as_it_was, after}
use Rattle.row.specs.declared.layout.TheConstants.{IDS}
use Rattle.links.specs.Pairs.{joins}
use Rattle.links.specs.Table.{edges}
use Rattle.search.specs.declared.layout.TheConstants.{FORE, HIND}
use Rattle.search.specs.Columns.{searched, sets}
use Rattle.search.specs.Hunt.{meeting}
use Rattle.search.specs.Meaning.{Kept, Trailed, Ready}
use Rattle.search.specs.Settle.{forgotten}
use Rattle.search.specs.WayLaws.{way_of, Round}
use Rattle.search.proofs.Joining.{shown_is}
use Rattle.search.proofs.SettleFrames.{writes_forgotten, forgets_all}
use Rattle.search.proofs.Showing.{shows_way}
use Rattle.keeper.specs.declared.event.Event.TheVariants.{Said}
use Rattle.keeper.specs.Columns.{columns}
use Rattle.keeper.specs.Engine.{shows}
use Rattle.keeper.specs.Promise.{small_command}
use Rattle.keeper.specs.Answers.{leaves_pending}
use Rattle.keeper.specs.Reordering.{round_cards, shown_round}
use Rattle.keeper.specs.Own.{said, own}
use Rattle.keeper.specs.Meaning.{card_board, Means}
use Rattle.keeper.proofs.Simulation.{StepKept}
use Rattle.keeper.proofs.Cases.{round_kept}
use Rattle.keeper.proofs.Knowing.{names}
use Rattle.keeper.proofs.Carrying.{means_kept, noted, is_pending, settles}
use Rattle.keeper.proofs.Saying.{step_said, step_next, went_round}
use Rattle.keeper.proofs.Unroll.{steps_to, shows_refused}
use Rattle.keeper.proofs.Forward.{both, linked_here}
use Rattle.keeper.proofs.TwoCards.{Seated, leads_is}

-- the marks forgotten after a search, the memory means what it meant before it
pub forgotten_means : (m m₁ : List ℕ) (r : Board) → Kept m m₁ → Summed m₁ FORE.column → Summed m₁ HIND.column → Means m r → Means (forgotten m₁) r
forgotten_means m m₁ r K f h M =
    means_kept searched m (forgotten m₁) (after searched sets m m₁ (forgotten m₁) refl (writes_forgotten m₁) K) refl refl refl M (forgets_all m₁ f h)

module _ (m : List ℕ) (M : Means m (card_board m)) (l : Link) (sm : small_command (Links l) ≡ true) (s t : ℕ) (A : Seated m l.from s) (B : Seated m l.to t)
    (n : any (joins (s ⟶ t)) (edges m) ≡ false) where
  abbrev r : Board
  r = card_board m

  abbrev R : Ready m
  R = M.ready

  abbrev x : Link
  x = s ⟶ t

  abbrev m₁ : List ℕ
  m₁ = (meeting m x).memory

  -- the two searches met
  module _ (y : Link) (T : Trailed m m₁ s t y.from y.to) where
    abbrev q : List ℕ
    q = forgotten m₁

    Q : Means q r
    Q = forgotten_means m m₁ r T.kept T.fore_summed T.hind_summed M

    abbrev ks : List ℕ
    ks = round_cards m₁ x y

    W : Round m m₁ s t y.from y.to (replicate CARDS 0)
    W = shows_way m m₁ s t y.from y.to (replicate CARDS 0) R T (omega (arith, length-replicate {A = ℕ} CARDS 0))

    ks_are : ks ≡ map (cell m IDS) (way_of m₁ s t y.from y.to)
    unfolding round_cards
    ks_are = sym (shown_is m₁ x y (replicate CARDS 0) (omega (arith, length-replicate {A = ℕ} CARDS 0))) ∙ W.is

    pub goes : goes_round r l.from l.to ks ≡ true
    goes =
        subst (λ (zs : List ℕ). goes_round r l.from l.to zs ≡ true) (sym ks_are)
        (subst (λ (p : ℕ). goes_round r p l.to (map (cell m IDS) (way_of m₁ s t y.from y.to)) ≡ true) A.card
        (subst (λ (p : ℕ). goes_round r (cell m IDS s) p (map (cell m IDS) (way_of m₁ s t y.from y.to)) ≡ true) B.card
        ((names m R).way_named s t (way_of m₁ s t y.from y.to) W.cards W.round)))

    pub round : said m (Links l) ≡ shown_round m₁ x y → StepKept own 3 Means m r (Links l)
    unfolding refusal link_refusal shown_round
    round se =
        let m₂ = leaves_pending q 2 in
        let ld : leads r l.to l.from ≡ true = leads_is m R l.from l.to s t A B ∙ T.round in
        let e : own.step m (Said (Links l)) ≡ steps_to m₂ (shows ks) =
        step_said m (Links l) _ M.idle sm se ∙ ap (λ (zs : List ℕ). steps_to m₂ (shows zs)) (take_all (length ks) ks (omega arith)) in
        let g = step_next m₂ _ (went_round m₂ (is_pending q Q.long 2)) in
        round_kept own 3 Means m r (leaves_pending m₂ 0) l ks (rw (both m M l s t A B, linked_here m M l s t A B ∙ n, ld)) goes
        (shows_refused own m m₂ (leaves_pending m₂ 0) (Said (Links l)) ks e 5 (omega arith) (omega arith) g)
        (subst (Means (leaves_pending m₂ 0)) (sym Q.is) (settles q m₂ Q.ready Q.single Q.long (noted q q 2 (omega arith) (as_it_was columns q))))

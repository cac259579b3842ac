-- One command at its end, from the record of its run: for each command that is done, for a refusal, and for a link that would go round.
use Rattle.std.proofs.Common.{◌≡◌, ℕ, suc, true, false, not, ◌&&◌, ◌||◌, eqb, ◌≢◌, List, [], ◌∷◌, ◌++◌, Some, None, refl, arith}
use Rattle.std.proofs.lemmas.Bool.{both_ways}
use Rattle.order.specs.declared.board.Link.{Link}
use Rattle.command.specs.declared.command.Command.{Command}
use Rattle.command.specs.declared.command.Command.TheVariants.{Comes, Goes, Link as Links, Unlink as Unlinks, Places}
use Rattle.order.specs.declared.board.Refusal.{Refusal}
use Rattle.order.specs.declared.board.Refusal.TheVariants.{Cycle}
use Rattle.order.specs.Lists.{every, filter, place}
use Rattle.order.specs.Board.{Board, keeps, fine}
use Rattle.order.specs.Reordering.{link_must_be, number, with_link, backward, firm, goes_round}
use Rattle.command.specs.Commands.{refusal, Told, told_rows, row_before, links_after, after, must_be}
use Rattle.order.proofs.Filters.{same_itself}
use Rattle.order.proofs.Climbs.{fine_parts}
use Rattle.keeper.specs.Engine.{Engine, Ran, ran, run_of}
use Rattle.keeper.specs.Promise.{shown_for, Refused, RoundShown}
use Rattle.keeper.specs.Sister.{within, ToldNeeded, DoneFirm}
use Rattle.keeper.proofs.Simulation.{StepKept}
use Rattle.keeper.proofs.Opened.{comes_keeps, goes_keeps, forward_keeps, unlinks_keeps}

module _ (e : Engine) (n : ℕ) (Sim : List ℕ → Board → Type 0) (m : List ℕ) (r : Board) where
  pub kept_done : (c : Command) (v : Ran) → run_of n e m c ≡ v → refusal r c ≡ None → DoneFirm r c v → Sim v.memory (after r c v.told) →
      StepKept e n Sim m r c
  kept_done c v q z d s = rw q ((λ _. (d, s)), λ w y. absurd (let x : ◌≡◌ {A = ℕ} 0 1 = cc in omega arith))

  kept_refused : (c : Command) (v : Ran) → run_of n e m c ≡ v → (w : Refusal) → refusal r c ≡ Some w → Refused r c w v → Sim v.memory r →
      StepKept e n Sim m r c
  kept_refused c v q w z d s =
      rw q ((λ y. absurd (let x : ◌≡◌ {A = ℕ} 0 1 = cc in omega arith)), λ w₁ y. let x : w₁ ≡ w = cc in (rw x d, s))

  module _ (m₁ : List ℕ) where
    -- a refusal at once
    pub refused_kept : (c : Command) (w : Refusal) → refusal r c ≡ Some w → w ≢ Cycle → run_of n e m c ≡ ran m₁ [] [] (number w) → Sim m₁ r →
        StepKept e n Sim m r c
    unfolding Refused
    refused_kept c w z x q s = kept_refused c _ q w z (refl, refl, (λ y. absurd (x y)), λ _. refl) s

    -- a link that would go round
    pub round_kept : (l : Link) (way : List ℕ) → refusal r (Links l) ≡ Some Cycle → goes_round r l.from l.to way ≡ true →
        run_of n e m (Links l) ≡ ran m₁ [] (way ∷ []) (number Cycle) → Sim m₁ r → StepKept e n Sim m r (Links l)
    unfolding Refused RoundShown
    round_kept l way z g q s = kept_refused (Links l) _ q Cycle z (refl, refl, (λ _. (way, refl, g)), λ x. absurd (x refl)) s

    module _ (f : fine r ≡ true) where
      pub comes_kept : (k : ℕ) → refusal r (Comes k) ≡ None → run_of n e m (Comes k) ≡ ran m₁ [] [] 0 →
          Sim m₁ (record { row = r.row ++ k ∷ []; links = r.links }) → StepKept e n Sim m r (Comes k)
      unfolding DoneFirm shown_for must_be link_must_be told_rows row_before links_after ToldNeeded
      comes_kept k z q s = kept_done (Comes k) _ q z (refl, refl, same_itself _, comes_keeps r f k, refl) s

      pub goes_kept : (k : ℕ) → refusal r (Goes k) ≡ None → run_of n e m (Goes k) ≡ ran m₁ [] [] 0 →
          Sim m₁ (record {
            row = filter (λ j. not (eqb j k)) r.row;
            links = filter (λ l. not (eqb l.from k || eqb l.to k)) r.links;
          }) → StepKept e n Sim m r (Goes k)
      unfolding DoneFirm shown_for must_be link_must_be told_rows row_before links_after ToldNeeded
      goes_kept k z q s = kept_done (Goes k) _ q z (refl, refl, same_itself _, goes_keeps r f k, refl) s

      pub unlinks_kept : (l : Link) → refusal r (Unlinks l) ≡ None → run_of n e m (Unlinks l) ≡ ran m₁ [] [] 0 →
          Sim m₁ (record { row = r.row; links = filter (λ x. not (eqb x.from l.from && eqb x.to l.to)) r.links }) →
          StepKept e n Sim m r (Unlinks l)
      unfolding DoneFirm shown_for must_be link_must_be told_rows row_before links_after ToldNeeded
      unlinks_kept l z q s = kept_done (Unlinks l) _ q z (refl, refl, same_itself _, unlinks_keeps r f l.from l.to, refl) s

      pub places_kept : (a b : ℕ) → refusal r (Places a b) ≡ None →
          run_of n e m (Places a b) ≡ ran m₁ [] ((place r.row a ∷ place r.row b ∷ []) ∷ []) 0 → Sim m₁ r → StepKept e n Sim m r (Places a b)
      unfolding DoneFirm shown_for must_be link_must_be told_rows row_before links_after ToldNeeded
      places_kept a b z q s = kept_done (Places a b) _ q z (refl, refl, same_itself _, (fine_parts r f).kept, refl) s

      -- a link that doesn't go backward
      pub forward_kept : (l : Link) → refusal r (Links l) ≡ None → backward r l.from l.to ≡ false → run_of n e m (Links l) ≡ ran m₁ [] [] 0 →
          Sim m₁ (record { row = r.row; links = with_link r l.from l.to }) → StepKept e n Sim m r (Links l)
      unfolding DoneFirm shown_for must_be link_must_be told_rows row_before links_after ToldNeeded
      forward_kept l z b q s =
          kept_done (Links l) _ q z
          (refl, refl, rw b (same_itself _), forward_keeps r f l.from l.to z b, ((λ _. refl), λ x. absurd (both_ways _ b x))) s

    -- a link that goes backward: whatever is told makes the row new, and lies from the second card's place to the first's
    pub backward_by : (l : Link) → refusal r (Links l) ≡ None → backward r l.from l.to ≡ true → (new : List ℕ) → firm r l.from l.to new ≡ true →
        keeps new (with_link r l.from l.to) ≡ true → (ts : List Told) → told_rows r.row ts ≡ new →
        every (within (place r.row l.to) (suc (place r.row l.from))) ts ≡ true → run_of n e m (Links l) ≡ ran m₁ ts [] 0 →
        Sim m₁ (record { row = new; links = with_link r l.from l.to }) → StepKept e n Sim m r (Links l)
    unfolding DoneFirm shown_for must_be link_must_be row_before links_after ToldNeeded
    backward_by l z b new fm ke ts t w q s =
        kept_done (Links l) _ q z (refl, refl, rw (b, t) fm, rw t ke, ((λ x. absurd (both_ways _ x b)), λ _. w)) (rw t s)

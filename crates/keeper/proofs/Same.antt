-- Two engines that meet the firmer promise come to the same board.
use Rattle.std.proofs.Common.{◌≡◌, ℕ, true, List, [], ◌∷◌, Some, None, Option, sym, refl, ap, ◌∙◌, subst, inl, inr}
use Rattle.std.proofs.lemmas.Bool.{cases_Bool}
use Rattle.command.specs.declared.command.Command.{Command}
use Rattle.command.specs.declared.command.Command.TheVariants.{Comes, Goes, Link as Links, Unlink as Unlinks, Places}
use Rattle.order.specs.declared.board.Refusal.{Refusal}
use Rattle.order.specs.Lists.{every, distinct}
use Rattle.order.specs.Board.{Board, keeps, fine}
use Rattle.command.specs.Commands.{refusal, after, links_after, must_be}
use Rattle.order.specs.Reordering.{link_must_be, backward}
use Rattle.order.proofs.Filters.{same_is}
use Rattle.order.proofs.Only.{only_one}
use Rattle.keeper.specs.Engine.{Engine, Ran, run_of}
use Rattle.keeper.specs.Promise.{empty}
use Rattle.keeper.specs.Sister.{DoneFirm, RightIn, WholeIn, board_after, OneBoard}
use Rattle.keeper.proofs.Simulation.{done_fine}

must_be_one : (r : Board) (c : Command) (row row₁ : List ℕ) → fine r ≡ true → refusal r c ≡ None → must_be r c row ≡ true →
    keeps row (links_after r c) ≡ true → must_be r c row₁ ≡ true → keeps row₁ (links_after r c) ≡ true → row ≡ row₁
unfolding refusal must_be link_must_be links_after
must_be_one r (Comes j) row row₁ f z h k h₁ k₁ = same_is row _ h ∙ sym (same_is row₁ _ h₁)
must_be_one r (Goes j) row row₁ f z h k h₁ k₁ = same_is row _ h ∙ sym (same_is row₁ _ h₁)
must_be_one r (Links l) row row₁ f z h k h₁ k₁ = elim (cases_Bool (backward r l.from l.to)) [
  | inl t ↦ only_one r l.from l.to row row₁ f z t (rw t at h) k (rw t at h₁) k₁
  | inr t ↦ same_is row r.row (rw t at h) ∙ sym (same_is row₁ r.row (rw t at h₁))
]
must_be_one r (Unlinks l) row row₁ f z h k h₁ k₁ = same_is row _ h ∙ sym (same_is row₁ _ h₁)
must_be_one r (Places a b) row row₁ f z h k h₁ k₁ = same_is row _ h ∙ sym (same_is row₁ _ h₁)

pub done_one : (r : Board) (c : Command) (v v₁ : Ran) → fine r ≡ true → refusal r c ≡ None → DoneFirm r c v → DoneFirm r c v₁ →
    after r c v.told ≡ after r c v₁.told
unfolding DoneFirm
done_one r c v v₁ f z d d₁ =
    ap (λ (row : List ℕ). record { row = row; links = links_after r c }) (must_be_one r c _ _ f z d.2 d.3 d₁.2 d₁.3)

-- refused or not, and the equation that says so
refused_or : (o : Option Refusal) (P : Type 0) → (o ≡ None → P) → ((w : Refusal) → o ≡ Some w → P) → P
refused_or None P x y = x refl
refused_or (Some w) P x y = y w refl

module _ (n n₁ : ℕ) (e e₁ : Engine) where
  board_one : (cs : List Command) (m m₁ : List ℕ) (r : Board) → fine r ≡ true → RightIn n e m r cs → RightIn n₁ e₁ m₁ r cs →
      board_after n e m r cs ≡ board_after n₁ e₁ m₁ r cs
  unfolding board_after RightIn
  board_one [] m m₁ r f h h₁ = refl
  board_one (c ∷ cs) m m₁ r f h h₁ =
      let v = run_of n e m c in
      let v₁ = run_of n₁ e₁ m₁ c in
      refused_or (refusal r c) _
      (λ z.
      let d = h.0 z in
      let d₁ = h₁.0 z in
      let q = done_one r c v v₁ f z d.0 d₁.0 in
      rw z (board_one cs v.memory v₁.memory (after r c v.told) (done_fine r c v f z d.0) d.1
      (subst (λ x. RightIn n₁ e₁ v₁.memory x cs) (sym q) d₁.1)
      ∙ ap (λ x. board_after n₁ e₁ v₁.memory x cs) q))
      (λ w z. rw z (board_one cs v.memory v₁.memory r f (h.1 w z).1 (h₁.1 w z).1))

pub one_board : OneBoard
unfolding WholeIn every distinct
one_board n n₁ e e₁ cs w w₁ h = board_one n n₁ e e₁ cs e.start e₁.start empty refl (w.1 cs h) (w₁.1 cs h)

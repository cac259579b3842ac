-- A row is made anew from any cards and links: the row by the rule is shown, or a circle of the links, or it is refused.
use Rattle.std.proofs.Common.{◌≡◌, ℕ, ◌+◌, ◌<◌, ◌≤◌, true, false, List, ◌++◌, map, length, drop, replicate, Some, None, Option, Result, sym, refl, ap, ap₂, ◌∙◌, inl, inr, arith, Ok, Err}
use mathlib.Core.List.{map_congr_left}
use lib.ListN.{length-map}
use Rattle.std.proofs.lemmas.Bool.Decides.{nat_tests}
use Rattle.std.proofs.lemmas.Bool.{cases_eq, eq-eqb, lt-ltb, le-ltb, le-leb}
use Rattle.order.specs.declared.board.Link.{Link}
use Rattle.order.specs.declared.board.Refusal.{Refusal}
use Rattle.order.specs.Lists.{distinct}
use Rattle.order.specs.Board.{Board}
use Rattle.order.specs.Renaming.{renamed, Naming}
use Rattle.order.proofs.Filters.{every_more}
use Rattle.memory.specs.declared.column.TheConstants.{MEMORY}
use Rattle.memory.specs.Columns.{cell}
use Rattle.row.specs.declared.layout.TheConstants.{IDS}
use Rattle.row.specs.Meaning.{row_of, used, count}
use Rattle.row.proofs.Named.{has_used, length_slots, slots_named}
use Rattle.row.proofs.Present.{apart}
use Rattle.links.specs.Table.{edges}
use Rattle.search.specs.Meaning.{slot_board}
use Rattle.keeper.specs.declared.event.Reason.{Reason}
use Rattle.keeper.specs.declared.event.Reason.TheVariants.{Unfit}
use Rattle.keeper.specs.declared.layout.TheConstants.{OUTPUT}
use Rattle.keeper.specs.Own.{step_fits}
use Rattle.batch.specs.declared.making_anew.Anew.{Anew}
use Rattle.batch.specs.declared.making_anew.Anew.TheVariants.{Row, Circle}
use Rattle.batch.specs.declared.layout.TheConstants.{NUMBERS}
use Rattle.batch.specs.Several.{circle}
use Rattle.batch.specs.Rule.{anew}
use Rattle.batch.specs.RuleLaws.{within_row}
use Rattle.batch.specs.Renewing.{renewed}
use Rattle.batch.specs.RenewLaws.{MadeAnew}
use Rattle.batch.specs.Loading.{Loaded, loaded}
use Rattle.batch.specs.Circling.{traced, round}
use Rattle.batch.specs.MakingAnew.{Made, MadeSo, new_row, shown_row, shown_circle, ended, made, made_anew}
use Rattle.batch.specs.AnewLaws.{row_refusal, Makes, MakesAnew, MakesUnfit}
use Rattle.batch.proofs.CircleLinks.{circle_named}
use Rattle.batch.proofs.CircleShown.{shows_circle, same_ids}
use Rattle.batch.proofs.LinksIn.{Holding, filled}
use Rattle.batch.proofs.MadeAnew.{renews}
use Rattle.batch.proofs.RuleRenames.{anew_named}
use Rattle.batch.proofs.RuleRounds.{anew_round}
use Rattle.batch.proofs.Tidies.{both_ends}

-- a memory that holds the cards and links, and the row made anew in it
module _ (m row : List ℕ) (ls : List Link) (H : Holding m row ls) where
  abbrev m' : List ℕ
  m' = (renewed m).memory

  abbrev n : ℕ
  n = (renewed m).came

  within : within_row (row_of m) (edges m)
  within = both_ends _ (used m) (edges m) (has_used m H.fresh.is_row) H.ends

  law : MadeAnew m m' n
  law = renews m (omega (arith, H.fresh.long)) H.fresh.is_row H.fresh.is_table H.fresh.summed H.fresh.none within

  -- slots and cards
  naming : Naming (cell m IDS) (used m) (slot_board m)
  naming = (slots_named m (edges m) H.fresh.is_row H.ends).1

  board_is : renamed (cell m IDS) (slot_board m) ≡ record { row = row; links = ls }
  board_is = ap₂ (λ (ks : List ℕ) (es : List Link). record { row = ks; links = es }) H.fresh.cards_are H.links_are

  anew_is : map (cell m IDS) (anew (edges m) (row_of m)) ≡ anew ls row
  anew_is = sym (anew_named (cell m IDS) (used m) (edges m) (row_of m) naming) ∙ ap (λ (r : Board). anew r.links r.row) board_is

  ids_are : (s : ℕ) → cell m' IDS s ≡ cell m IDS s
  ids_are s = law.wrote.others IDS s refl

  came_is : n ≡ length (anew ls row)
  came_is = law.as_many ∙ sym (length-map (anew (edges m) (row_of m)) (cell m IDS)) ∙ ap length anew_is

  count_is : count m' ≡ length row
  count_is =
      sym (length_slots m' law.dense.is_row) ∙ ap length law.same_row ∙ sym (length-map (row_of m) (cell m IDS)) ∙ ap (λ (r : Board). length r.row) board_is

  -- if all come, the row by the rule is shown
  row_shown : (out : List ℕ) → length (anew ls row) ≡ length row →
      ((ended m' n out).answer ≡ Ok (Row (length row))) × ((ended m' n out).out ≡ anew ls row ++ drop (length row) out)
  unfolding ended
  row_shown out e =
      let k : n ≡ length row = came_is ∙ e in
      let z : ended m' n out ≡ shown_row m' n out = rw (le-ltb n (count m') (omega (arith, count_is))) in
      let w = map_congr_left {f = cell m' IDS} {g = cell m IDS} {l = new_row m' n} (λ s _. ids_are s) ∙ ap (map (cell m IDS)) law.come ∙ anew_is in (
        ap (λ (x : Made). x.answer) z ∙ ap (λ (i : ℕ). Ok (Row i)) k,
        ap (λ (x : Made). x.out) z ∙ ap₂ (λ (ks : List ℕ) (i : ℕ). ks ++ drop i out) w k,
      )

  -- else a circle of slots, and so of cards
  module _ (out : List ℕ) (room : OUTPUT ≤ length out) (e : length (anew ls row) ≡ length row → ⊥) where
    abbrev x : List ℕ
    x = traced m' n

    abbrev ws : List ℕ
    ws = round x (length out)

    long : NUMBERS.base + NUMBERS.size ≤ length m'
    long = omega (arith, law.wrote.as_long, H.fresh.long)

    not_all : n < count m'
    not_all =
        let d : distinct row ≡ true = ap distinct (sym H.fresh.cards_are) ∙ apart m H.fresh.is_row in
        omega (arith, (anew_round ls row d).0, came_is, count_is)

    within_then : within_row (row_of m') (edges m')
    within_then = rw (law.same_row, law.same_edges) within

    come_then : new_row m' n ≡ anew (edges m') (row_of m')
    come_then = law.come ∙ sym (ap₂ anew law.same_edges law.same_row)

    circle_cards : circle (record { row = row; links = ls }) (map (cell x IDS) ws) ≡ true
    circle_cards =
        let c = shows_circle m' n long law.dense law.is_table within_then come_then not_all (length out) room in
        ap₂ circle (sym board_is) (map_congr_left {f = cell x IDS} {g = cell m IDS} {l = ws}
        (λ s _. same_ids m' n long law.dense law.is_table within_then come_then not_all s ∙ ids_are s))
        ∙ circle_named (cell m IDS) (used m) (slot_board m) naming ws (every_more (used m') (used m) (λ s t. sym (law.same_used s) ∙ t) ws c.1)
        (ap₂ (λ (ks : List ℕ) (es : List Link). circle (record { row = ks; links = es }) ws) (sym law.same_row) (sym law.same_edges) ∙ c.0)

    circle_shown : (way : List ℕ) × ((ended m' n out).answer ≡ Ok (Circle (length way))) × ((ended m' n out).out ≡ way ++ drop (length way) out)
        × (circle (record { row = row; links = ls }) way ≡ true)
    unfolding ended
    circle_shown =
        let z : ended m' n out ≡ shown_circle x ws out = rw (lt-ltb n (count m') not_all) in
        let k = length-map ws (cell x IDS) in (
          map (cell x IDS) ws,
          ap (λ (y : Made). y.answer) z ∙ ap (λ (i : ℕ). Ok (Circle i)) (sym k),
          ap (λ (y : Made). y.out) z ∙ ap (λ (i : ℕ). map (cell x IDS) ws ++ drop i out) (sym k),
          circle_cards,
        )

pub makes_unfit : MakesUnfit
unfolding made_anew
makes_unfit m row ls out h = rw h

fits : (m row : List ℕ) (ls : List Link) (out : List ℕ) → length m ≡ MEMORY → OUTPUT ≤ length out →
    made_anew m row ls out ≡ made (loaded (replicate (length m) 0) row ls) out
unfolding made_anew
fits m row ls out e h = rw (eq-eqb (length m) MEMORY e, le-leb OUTPUT (length out) h)

module _ (row : List ℕ) (ls : List Link) (out : List ℕ) (room : OUTPUT ≤ length out) where
  abbrev l : Loaded
  l = loaded (replicate MEMORY 0) row ls

  by_refusal : (o : Option Refusal) → row_refusal row ls ≡ o → Makes row ls out (made l out)
  unfolding made
  by_refusal (Some why) e =
      rw ((filled row ls).0 ∙ e) (record { refused = λ w z. (cc, refl); refused_just = λ w a. cc; done = λ z _. cc; round = λ z _. cc })
  by_refusal None e =
      let H = (filled row ls).1 e in
      rw ((filled row ls).0 ∙ e) (record {
        refused = λ w z. cc;
        refused_just = λ w a. elim (cases_eq (length (anew ls row)) (length row)) [
          | inl k ↦ let z = (row_shown l.memory row ls H out k).0 in cc
          | inr k ↦ let z = (circle_shown l.memory row ls H out room k).1 in cc
        ];
        done = λ _. row_shown l.memory row ls H out;
        round = λ _. circle_shown l.memory row ls H out room;
      })

pub makes_anew : MakesAnew
makes_anew m row ls out long room = rw (fits m row ls out long room, long) (by_refusal row ls out room (row_refusal row ls) refl)

-- the two ways in which an array is lent: with an output that is too short, and with one that fits
module _ (m m₁ ks : List ℕ) (ls : List Link) (out : List ℕ) (same : m₁ ≡ m) where
  pub made_short : length out < OUTPUT → MadeSo (made_anew m ks ls out) (Err Unfit) m₁ out
  unfolding made_anew
  made_short h = let f : step_fits m out ≡ false = grind (arith, nat_tests) in rw f (record { answer = refl; after = same; out = refl })

  pub made_long : (r : Result Anew Reason) (m₃ out₃ : List ℕ) → length m ≡ MEMORY → OUTPUT ≤ length out →
      MadeSo (made (loaded (replicate (length m₁) 0) ks ls) out) r m₃ out₃ → MadeSo (made_anew m ks ls out) r m₃ out₃
  made_long r m₃ out₃ long room d =
      rw (fits m ks ls out long room ∙ ap (λ (n : List ℕ). made (loaded (replicate (length n) 0) ks ls) out) (sym same)) d

pub ruleset makings = (made_short, made_long)

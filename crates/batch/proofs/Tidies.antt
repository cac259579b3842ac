-- The row was tidied: the memory means the board with the cards as they come by the rule from the order of their numbers on.
use Rattle.std.proofs.Common.{◌≡◌, ℕ, ◌+◌, ◌≤◌, min, Bool, true, ◌&&◌, List, map, length, sym, refl, ap, ◌∙◌, ap₂, arith}
use lib.ListN.{length-map}
use Rattle.std.proofs.lemmas.Bool.{le-ltb}
use Rattle.order.specs.declared.board.TheConstants.{CARDS}
use Rattle.order.specs.declared.board.Link.{Link}
use Rattle.order.specs.Lists.{every, has, distinct}
use Rattle.order.specs.Board.{Board, fine}
use Rattle.order.specs.Renaming.{renamed, Naming}
use Rattle.order.proofs.Climbs.{fine_parts, fine_from}
use Rattle.order.proofs.Filters.{every_more}
use Rattle.memory.specs.declared.column.TheConstants.{MEMORY}
use Rattle.memory.specs.Columns.{cell}
use Rattle.memory.specs.Footprints.{Writes}
use Rattle.memory.specs.PlaceSetLaws.{CellsAlone}
use Rattle.memory.proofs.Alone.{cells_alone}
use Rattle.memory.proofs.Footprints.{after}
use Rattle.row.specs.declared.layout.TheConstants.{IDS}
use Rattle.row.specs.Meaning.{row_of, used, count}
use Rattle.row.proofs.Named.{has_used, row_used, length_slots, slots_named}
use Rattle.row.proofs.Present.{apart}
use Rattle.links.specs.Table.{edges, once}
use Rattle.links.proofs.Keeping.{table_kept, edges_kept}
use Rattle.search.specs.declared.layout.TheConstants.{FORE, HIND}
use Rattle.search.specs.Meaning.{slot_board, Ready}
use Rattle.keeper.specs.declared.layout.TheConstants.{PENDING, MORE_TO}
use Rattle.keeper.specs.Answers.{pending}
use Rattle.keeper.specs.Meaning.{card_board}
use Rattle.keeper.proofs.Knowing.{ends_used, fine_cards}
use Rattle.batch.specs.Columns.{arranging, seated, tidying}
use Rattle.batch.specs.Seating.{reseated}
use Rattle.batch.specs.Rule.{anew, Ruled, sorted}
use Rattle.batch.specs.RuleLaws.{within_row}
use Rattle.batch.specs.Arranging.{arranged}
use Rattle.batch.specs.ArrangeLaws.{InOrder}
use Rattle.batch.specs.Renewing.{renewed}
use Rattle.batch.specs.RenewLaws.{MadeAnew}
use Rattle.batch.specs.Tidying.{Tidied, tidied}
use Rattle.batch.specs.TidyLaws.{row_made, RowTidy, Tidies}
use Rattle.batch.proofs.Denseness.{row_once}
use Rattle.batch.proofs.Freeing.{marks_alone}
use Rattle.batch.proofs.InOrder.{arranges}
use Rattle.batch.proofs.MadeAnew.{renews}
use Rattle.batch.proofs.Reseating.{RowSeated, cards_by, row_seated}
use Rattle.batch.proofs.RuleRenames.{anew_named}
use Rattle.batch.proofs.RuleRounds.{all_come}
use Rattle.batch.proofs.RuleRows.{anew_ruled, ruled_cards, ruled_keeps}
use Rattle.batch.proofs.Sorts.{distinct_sorted}
use Rattle.batch.proofs.Writing.{renewed_then}

-- what is so of both ends of each link, by tests that say the same
pub both_ends : (f g : ℕ → Bool) (ls : List Link) → ((s : ℕ) → f s ≡ g s) → every (λ l. g l.from && g l.to) ls ≡ true → every (λ l. f l.from && f l.to) ls ≡ true
both_ends f g ls e h = ap (λ (k : ℕ → Bool). every (λ (l : Link). k l.from && k l.to) ls) (λ t s. e s t) ∙ h

module _ (m : List ℕ) (long : length m ≡ MEMORY) (R : Ready m) where
  -- ks are the slots in the order of their cards' numbers
  abbrev m₁ : List ℕ
  m₁ = arranged m

  A : InOrder m m₁
  A = arranges m (omega arith) R.is_row

  abbrev ks : List ℕ
  ks = row_of m₁

  apart_ks : distinct ks ≡ true
  apart_ks = row_once m₁ A.dense.is_row

  edges₁ : edges m₁ ≡ edges m
  edges₁ = edges_kept arranging refl m m₁ A.wrote

  within : within_row ks (edges m)
  within = both_ends (has ks) (used m) (edges m) (λ s. has_used m₁ A.dense.is_row s ∙ A.same_used s) (ends_used m R)

  -- from there on all come
  abbrev new : List ℕ
  new = anew (edges m) ks

  many : length new ≡ length ks
  many = all_come (edges m) ks (row_of m) apart_ks (fine_parts (slot_board m) R.fine_so).kept

  ruled : Ruled (edges m) ks new
  ruled = anew_ruled (edges m) ks apart_ks many

  abbrev m₂ : List ℕ
  m₂ = (renewed m₁).memory

  abbrev n : ℕ
  n = (renewed m₁).came

  B : MadeAnew m₁ m₂ n
  B =
      let c = marks_alone m m₁ A.wrote.as_long (λ i. A.wrote.others FORE.column i refl) R.fore_summed in
      renews m₁ (omega (arith, A.wrote.as_long)) A.dense.is_row (table_kept arranging refl m m₁ A.wrote R.is_table)
      c.0 (λ p. c.1 p ∙ R.fore_none p) (rw edges₁ within)

  new_is : anew (edges m₁) ks ≡ new
  new_is = ap (λ (ls : List Link). anew ls ks) edges₁

  all_there : n ≡ count m₂
  all_there = B.as_many ∙ ap length new_is ∙ many ∙ ap length (sym B.same_row) ∙ length_slots m₂ B.dense.is_row

  -- and are seated
  abbrev m' : List ℕ
  m' = reseated n m₂ 0

  same : (distinct new ≡ true) × (length new ≡ length ks) × ((s : ℕ) → has new s ≡ has ks s)
  same = ruled_cards (edges m) ks new apart_ks ruled

  C : RowSeated m₂ m' new
  C = row_seated m₂ B.dense n all_there new (B.come ∙ new_is) same.0 (λ s. same.2 s ∙ ap (λ (xs : List ℕ). has xs s) (sym B.same_row))

  edges_so : edges m' ≡ edges m
  edges_so = edges_kept seated refl m₂ m' C.wrote ∙ B.same_edges ∙ edges₁

  wrote : Writes tidying m m'
  wrote = after tidying seated m m₂ m' refl C.wrote (renewed_then m)

  ready : Ready m'
  unfolding CellsAlone
  ready =
      let f = marks_alone m₂ m' C.wrote.as_long (λ i. C.wrote.others FORE.column i refl) B.fore_summed in
      let h = cells_alone m m' HIND.column (λ i. wrote.others HIND.column i refl) in
      record {
        is_row = C.dense.is_row;
        is_table = table_kept seated refl m₂ m' C.wrote B.is_table;
        fore_summed = f.0;
        hind_summed = h.1 (let w = R.hind_summed.lies in omega (arith, wrote.as_long)) R.hind_summed;
        fore_none = λ p. f.1 p ∙ B.fore_none p;
        hind_none = λ p. h.0 p ∙ R.hind_none p;
        fine_so = rw (C.row_is, edges_so) (fine_from new (edges m) same.0 (both_ends (has new) (has ks) (edges m) same.2 within)
            (ruled_keeps (edges m) ks new apart_ks within ruled));
      }

  -- the rule is the same for slots and for cards
  abbrev f : ℕ → ℕ
  f = cell m IDS

  abbrev r : Board
  r = card_board m

  in_order : map f ks ≡ sorted r.row
  in_order = sym (cards_by m m₁ (λ j. A.wrote.others IDS j refl)) ∙ A.cards_are

  cards_are : anew r.links (sorted r.row) ≡ map f new
  cards_are =
      let N : Naming f (used m) (slot_board m) = (slots_named m (edges m) R.is_row (ends_used m R)).1 in
      ap (anew r.links) (sym in_order)
      ∙ anew_named f (used m) (edges m) ks
      (record { tell = N.tell; cards = every_more (used m₁) (used m) (λ s u. sym (A.same_used s) ∙ u) ks (row_used m₁ A.dense.is_row); ends = N.ends })

  board_so : row_made r (map f new) ≡ card_board m'
  board_so =
      sym (ap (λ (g : ℕ → ℕ). renamed g (slot_board m')) (λ t j. wrote.others IDS j refl t)
      ∙ ap₂ (λ (xs : List ℕ) (ls : List Link). renamed f (record { row = xs; links = ls })) C.row_is edges_so)

  tidy : once (edges m) ≡ true → pending m ≡ 0 → MORE_TO.base + MORE_TO.size ≤ length m → RowTidy r m' (map f new)
  tidy o i l = record {
    means = record { ready = ready; single = ap once edges_so ∙ o; long = omega (arith, wrote.as_long); idle = wrote.others PENDING 0 refl ∙ i; is = board_so };
    ruled =
        rw (← cards_are) (anew_ruled r.links (sorted r.row) (distinct_sorted r.row ∙ apart m R.is_row)
        (ap length cards_are ∙ length-map new f ∙ many ∙ sym (length-map ks f) ∙ ap length in_order));
    fine_so = ap fine board_so ∙ fine_cards m' ready;
  }

  -- so it is in the code, if all come
  tidied_all : tidied m ≡ record { memory = m'; all = true }
  unfolding tidied
  tidied_all = rw (le-ltb n (min (count m₂) CARDS) (omega (arith, all_there)))

pub tidies : Tidies
tidies m b long M =
    let R = M.ready in
    let e = tidied_all m long R in
    (ap (λ (x : Tidied). x.all) e, (map (cell m IDS) (new m long R), rw (M.is, e) (tidy m long R M.single M.idle M.long)))

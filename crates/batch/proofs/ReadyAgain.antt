-- A memory that means a board means it still, if what is written is beside what it is read from, but for how the slots of the row sit. So does one that
-- has the row as another one had it put aside, seated again.
use Rattle.std.proofs.Common.{◌≡◌, ℕ, true, List, sym, ap, ◌∙◌, [], ◌∷◌, length, refl, ◌+◌, ◌≤◌, false, Bool, map, Option, ap₂, ◌-◌, ◌<◌, take, drop, subst, arith}
use mathlib.Core.Path.{fun_ext}
use Rattle.memory.specs.declared.column.Column.{Column}
use Rattle.memory.specs.Columns.{cell}
use Rattle.memory.specs.Footprints.{clear, clear_all, Writes}
use Rattle.order.specs.Board.{Board}
use Rattle.order.specs.Renaming.{renamed, named}
use Rattle.row.specs.declared.layout.TheConstants.{IDS, ENDING, SLOTS, SEATS, TAKEN, CHAIN}
use Rattle.row.specs.Meaning.{row_of, IsRow, used, count}
use Rattle.links.specs.Table.{columns as table, edges}
use Rattle.links.proofs.Keeping.{table_kept, edges_kept}
use Rattle.search.specs.Columns.{sets}
use Rattle.search.specs.Meaning.{slot_board}
use Rattle.keeper.specs.declared.layout.TheConstants.{PENDING}
use Rattle.keeper.specs.Meaning.{Means}
use Rattle.keeper.proofs.Carrying.{unmarked, unmarked_kept, board_of, means_by}
use Rattle.row.specs.Moves.{packed}
use Rattle.row.specs.Laws.{Packed}
use Rattle.row.proofs.Framing.{packed_writes}
use Rattle.row.proofs.Again.{packs}
use Rattle.batch.specs.Dense.{Dense}
use Rattle.batch.proofs.Denseness.{dense_packed, row_is, few}
use Rattle.order.specs.declared.board.Link.{Link}
use Rattle.order.specs.Lists.{every, has, distinct}
use Rattle.command.specs.declared.command.Command.TheVariants.{Link as Links}
use Rattle.row.proofs.Depending.{depends}
use Rattle.links.specs.declared.layout.TheConstants.{ENTRIES}
use Rattle.keeper.specs.Promise.{small_command}
use Rattle.batch.specs.declared.layout.TheConstants.{SPARE}
use Rattle.batch.specs.Several.{all_there, said_before, closes}
use Rattle.batch.specs.JoinLaws.{AllIn, Stopped}
use Rattle.batch.specs.Seating.{saved, reseated}
use Rattle.batch.specs.UndoLaws.{SavesMeans}
use Rattle.batch.proofs.Saving.{saved_writes}
use Rattle.batch.proofs.Tries.{tries, means_fine}
use Rattle.std.proofs.lemmas.Bool.{and_parts}
use Rattle.memory.specs.Options.{given}
use Rattle.row.specs.Lookup.{found}
use Rattle.row.proofs.Named.{row_used}
use Rattle.row.proofs.Present.{found_there, length_cards}
use Rattle.order.proofs.RenamesLinks.{Known}
use Rattle.batch.proofs.LookUps.{found_alike}
use Rattle.keeper.proofs.Knowing.{ends_used}
use Rattle.std.specs.List.{range_with_len}
use Rattle.std.proofs.lemmas.List.{take-map, drop-map}
use Rattle.order.proofs.Climbs.{fine_parts}
use Rattle.order.proofs.Tabulated.{made_same, made_apart, distinct_made, take_made}
use Rattle.order.proofs.Parts.{with_part, row_in_parts}
use Rattle.batch.specs.SeatLaws.{Seated}
use Rattle.batch.proofs.Reseating.{reseats_dense}
use Rattle.batch.proofs.Writing.{reseated_writes}
use Rattle.batch.proofs.Within.{as_long}
use Rattle.batch.proofs.SeveralBetween.{SameEnds, middle, same_middle}

module _ (fs : List Column) (m m' : List ℕ) (w : Writes fs m m') (i : clear fs IDS ≡ true) where
  pub ids_kept : cell m' IDS ≡ cell m IDS
  ids_kept = fun_ext (λ j. w.others IDS j i)

  module _ (t : clear_all fs table ≡ true) (s : clear_all fs sets ≡ true) (p : clear fs PENDING ≡ true) where
    pub means_on : IsRow m' → row_of m' ≡ row_of m → (r : Board) → Means m r → Means m' r
    means_on R e r M =
        means_by fs m m' w p M R (table_kept fs t m m' w M.ready.is_table) (unmarked_kept fs m m' w s (unmarked m M.ready)) (slot_board m)
        (board_of e (edges_kept fs t m m' w)) M.ready.fine_so M.single r (M.is ∙ ap (λ (f : ℕ → ℕ). renamed f (slot_board m)) (sym ids_kept))

abbrev packed_columns : List Column
packed_columns = ENDING ∷ SLOTS ∷ SEATS ∷ TAKEN ∷ []

pub packed_long : (m : List ℕ) → length (packed m) ≡ length m
packed_long m = (packed_writes m).as_long

module _ (m : List ℕ) (r : Board) (M : Means m r) where
  is_packed : Packed m (packed m)
  is_packed = packs m M.ready.is_row

  pub packed_row : Dense (packed m)
  packed_row = dense_packed m (packed m) is_packed

  pub packed_means : Means (packed m) r
  packed_means =
      let P = is_packed in
      means_on packed_columns m (packed m) (packed_writes m) refl refl refl refl P.is_row P.same_row r M

pub saves_means : SavesMeans
saves_means m r n p M =
    let w = saved_writes m p n in
    let D = depends (SPARE ∷ []) m (saved n m p) refl w in
    means_on (SPARE ∷ []) m (saved n m p) w refl refl refl refl (D.is_row M.ready.is_row) D.same_row r M

pub tries_saved : (m : List ℕ) (r : Board) (ls : List Link) (n p : ℕ) → Means m r → every (λ l. small_command (Links l)) ls ≡ true →
    all_there r ls ≡ true → said_before r ls ≡ false → length r.links + length ls ≤ ENTRIES →
    (closes r ls ≡ false → AllIn (saved n m p) r ls) × (closes r ls ≡ true → Stopped (saved n m p) r ls)
tries_saved m r ls n p M = tries (saved n m p) r ls (saves_means m r n p M)

-- names, and back
module _ (f g : ℕ → ℕ) (D : ℕ → Bool) (back : (s : ℕ) → D s ≡ true → g (f s) ≡ s) where
  row_back : (xs : List ℕ) → every D xs ≡ true → map g (map f xs) ≡ xs
  unfolding every
  row_back [] h = refl
  row_back (x ∷ xs) h = let p = and_parts _ _ h in ap₂ ◌∷◌ (back x p.0) (row_back xs p.1)

  links_back : (ls : List Link) → Known D ls → map (named g) (map (named f) ls) ≡ ls
  unfolding every
  links_back [] h = refl
  links_back (l ∷ ls) h =
      let p = and_parts _ _ h in
      let q = and_parts _ _ p.0 in
      ap₂ ◌∷◌ (rw (back l.from q.0, back l.to q.1) refl) (links_back ls p.1)

-- the slot of a card
abbrev pub slot_of : List ℕ → ℕ → ℕ
slot_of m k = given (found m k) 0 (λ s. s)

-- two memories with the same look-up
module _ (m m' : List ℕ) (same_ids : (j : ℕ) → cell m' IDS j ≡ cell m IDS j) (same_chain : (j : ℕ) → cell m' CHAIN j ≡ cell m CHAIN j) where
  slot_same : (k : ℕ) → slot_of m k ≡ slot_of m' k
  slot_same k = ap (λ (o : Option ℕ). given o 0 (λ s. s)) (sym (found_alike m m' same_ids same_chain k))

  pub slots_back : (r : Board) → Means m' r → renamed (slot_of m) r ≡ slot_board m'
  slots_back r M =
      let R = M.ready in
      let back : (s : ℕ) → used m' s ≡ true → slot_of m (cell m' IDS s) ≡ s = λ s u. slot_same (cell m' IDS s) ∙ rw (found_there m' R.is_row s u) refl in
      ap (renamed (slot_of m)) M.is
      ∙ ap₂ (λ (xs : List ℕ) (ls : List Link). record { row = xs; links = ls })
      (row_back (cell m' IDS) (slot_of m) (used m') back (row_of m') (row_used m' R.is_row))
      (links_back (cell m' IDS) (slot_of m) (used m') back (edges m') (ends_used m' R))

pub row_count : (m : List ℕ) (r : Board) → Means m r → length r.row ≡ count m
row_count m r M = ap (λ (b : Board). length b.row) M.is ∙ length_cards m M.ready.is_row

-- two rows without gaps: m' has the cards in the slots that m has them in, with the row of m at the n places from lo on put aside
pub record Aside (m m' : List ℕ) (lo n : ℕ) : Type 0 where
  pub dense : Dense m
  pub dense_since : Dense m'
  pub same_ids : (j : ℕ) → cell m' IDS j ≡ cell m IDS j
  pub same_chain : (j : ℕ) → cell m' CHAIN j ≡ cell m CHAIN j
  pub aside : (p : ℕ) → lo ≤ p → p < lo + n → cell m' SPARE p ≡ cell m SLOTS p

module _ (m m' : List ℕ) (r : Board) (row : List ℕ) (lo n : ℕ) (M : Means m r) (M' : Means m' (record { row = row; links = r.links }))
    (P : Aside m m' lo n) (inside : lo + n ≤ length r.row) (ends : SameEnds lo (lo + n) row r.row)
    (same_cards : (k : ℕ) → has row k ≡ has r.row k) where
  abbrev slot : ℕ → ℕ
  slot = slot_of m

  abbrev r' : Board
  r' = record { row = row; links = r.links }

  before : renamed slot r ≡ slot_board m
  before = slots_back m m (λ j. refl) (λ j. refl) r M

  since : renamed slot r' ≡ slot_board m'
  since = slots_back m m' P.same_ids P.same_chain r' M'

  row_before : map slot r.row ≡ row_of m
  row_before = ap (λ (b : Board). b.row) before

  row_since : map slot row ≡ row_of m'
  row_since = ap (λ (b : Board). b.row) since

  same_edges : edges m' ≡ edges m
  same_edges = sym (ap (λ (b : Board). b.links) since) ∙ ap (λ (b : Board). b.links) before

  apart_before : distinct r.row ≡ true
  apart_before = (fine_parts r (means_fine m r M)).apart

  apart_since : distinct row ≡ true
  apart_since = (fine_parts r' (means_fine m' r' M')).apart

  few_since : lo + n ≤ count m'
  few_since = omega (arith, inside, row_count m' r' M', as_long row r.row apart_since apart_before same_cards)

  -- the slots put aside, and those that stand there
  abbrev ps : List ℕ
  ps = range_with_len lo n

  put_aside : map (cell m' SPARE) ps ≡ middle lo n (row_of m)
  put_aside =
      made_same (cell m' SPARE) (cell m SLOTS) lo n P.aside
      ∙ sym (ap (middle lo n) (row_is m P.dense) ∙ take_made (cell m SLOTS) (count m) lo n (omega (arith, inside, row_count m r M)))

  middle_mapped : (xs : List ℕ) → middle lo n (map slot xs) ≡ map slot (middle lo n xs)
  middle_mapped xs = ap (take n) (drop-map slot lo xs) ∙ take-map slot n (drop lo xs)

  standing_there : map slot (middle lo n row) ≡ map (cell m' SLOTS) ps
  standing_there = sym (middle_mapped row) ∙ ap (middle lo n) (row_since ∙ row_is m' P.dense_since) ∙ take_made (cell m' SLOTS) (count m') lo n few_since

  same : (s : ℕ) → has (map (cell m' SPARE) ps) s ≡ has (map (cell m' SLOTS) ps) s
  same s =
      ap (λ (xs : List ℕ). has xs s) (put_aside ∙ ap (middle lo n) (sym row_before) ∙ middle_mapped r.row)
      ∙ same_middle lo n slot row r.row ends apart_since apart_before same_cards s ∙ ap (λ (xs : List ℕ). has xs s) standing_there

  each_once : distinct (map (cell m' SPARE) ps) ≡ true
  each_once =
      distinct_made (cell m' SPARE) lo n (λ p q l u v e.
      made_apart (cell m SLOTS) 0 (count m) p q (subst (λ (xs : List ℕ). distinct xs ≡ true) (row_is m P.dense) (fine_parts (slot_board m) M.ready.fine_so).apart)
      (omega arith) u (omega (arith, inside, row_count m r M))
      (sym (P.aside p l (omega arith)) ∙ e ∙ P.aside q (omega arith) v))

  abbrev m'' : List ℕ
  m'' = reseated n m' lo

  seated : Seated m' m'' lo n (map (cell m' SPARE) ps)
  seated = reseats_dense m' lo n P.dense_since few_since each_once same

  frame : Writes (SLOTS ∷ SEATS ∷ []) m' m''
  frame = reseated_writes n m' lo (omega (arith, few_since, few m' P.dense_since))

  -- the row is as it was
  row_again : row_of m'' ≡ row_of m
  unfolding with_part
  row_again =
      let front : take lo (row_of m') ≡ take lo (row_of m) =
      ap (take lo) (sym row_since) ∙ take-map slot lo row ∙ ap (map slot) ends.front ∙ sym (take-map slot lo r.row) ∙ ap (take lo) row_before in
      let rest : drop (lo + n) (row_of m') ≡ drop (lo + n) (row_of m) =
      ap (drop (lo + n)) (sym row_since) ∙ drop-map slot (lo + n) row ∙ ap (map slot) ends.rest ∙ sym (drop-map slot (lo + n) r.row)
      ∙ ap (drop (lo + n)) row_before in
      let i : lo + n - lo ≡ n = omega arith in
      seated.row_is ∙ rw (front, put_aside, rest) (rw i at (row_in_parts (row_of m) lo (lo + n) (omega arith)))

  board_again : slot_board m'' ≡ slot_board m
  board_again = board_of row_again (edges_kept (SLOTS ∷ SEATS ∷ []) refl m' m'' frame ∙ same_edges)

  pub seated_back : Means m'' r
  seated_back =
      let fs = SLOTS ∷ SEATS ∷ [] in
      let ids : cell m'' IDS ≡ cell m IDS = ids_kept fs m' m'' frame refl ∙ fun_ext P.same_ids in
      means_by fs m' m'' frame refl M' seated.dense.is_row (table_kept fs refl m' m'' frame M'.ready.is_table)
      (unmarked_kept fs m' m'' frame refl (unmarked m' M'.ready)) (slot_board m) board_again M.ready.fine_so M.single r
      (M.is ∙ ap (λ (f : ℕ → ℕ). renamed f (slot_board m)) (sym ids))

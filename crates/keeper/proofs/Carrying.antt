-- What is left of what a memory means, by the columns that an operation writes.
use Rattle.std.proofs.Common.{◌≡◌, ℕ, ◌+◌, ◌^◌, ◌<◌, ◌≤◌, true, List, length, refl, sym, ap, ap₂, ◌∙◌, subst, arith}
use Rattle.std.proofs.lemmas.Bool.{and_parts}
use Rattle.order.specs.declared.board.Link.{Link}
use Rattle.order.specs.Board.{Board, fine}
use Rattle.order.specs.Renaming.{renamed}
use Rattle.memory.specs.declared.column.Column.{Column}
use Rattle.memory.specs.Columns.{cell, written}
use Rattle.memory.specs.Footprints.{clear, clear_all, Writes, View}
use Rattle.memory.proofs.Cells.{cell_same}
use Rattle.memory.proofs.Footprints.{same, view_same, put}
use Rattle.memory.proofs.Alone.{cells_alone}
use Rattle.memory.specs.PlaceSetLaws.{CellsAlone}
use Rattle.row.specs.declared.layout.TheConstants.{IDS}
use Rattle.row.specs.Columns.{columns as row_columns}
use Rattle.row.specs.Meaning.{IsRow}
use Rattle.row.specs.Theory.{SameRow}
use Rattle.row.proofs.Depending.{depends}
use Rattle.links.specs.Table.{columns as link_columns, edges, IsTable, once}
use Rattle.links.proofs.Keeping.{table_kept, edges_kept}
use Rattle.search.specs.declared.layout.TheConstants.{FORE, HIND}
use Rattle.search.specs.Columns.{sets}
use Rattle.search.specs.Meaning.{slot_board, Ready}
use Rattle.search.specs.SettleLaws.{Unmarked}
use Rattle.keeper.specs.declared.layout.TheConstants.{PENDING, MORE_FROM, MORE_TO}
use Rattle.keeper.specs.Columns.{columns}
use Rattle.keeper.specs.Answers.{pending, leaves_pending}
use Rattle.keeper.specs.Meaning.{card_board, Means}

pub unmarked : (m : List ℕ) → Ready m → Unmarked m
unmarked m R = record { fore_summed = R.fore_summed; hind_summed = R.hind_summed; fore_none = R.fore_none; hind_none = R.hind_none }

pub ready_of : (m : List ℕ) → IsRow m → IsTable m → Unmarked m → fine (slot_board m) ≡ true → Ready m
ready_of m r t u f = record {
  is_row = r;
  is_table = t;
  fore_summed = u.fore_summed;
  hind_summed = u.hind_summed;
  fore_none = u.fore_none;
  hind_none = u.hind_none;
  fine_so = f;
}

pub board_of : {xs ys : List ℕ} {ls ks : List Link} → xs ≡ ys → ls ≡ ks → ◌≡◌ {A = Board} (record { row = xs; links = ls }) (record { row = ys; links = ks })
board_of e d = ap₂ (λ (xs : List ℕ) (ls : List Link). record { row = xs; links = ls }) e d

module _ (fs : List Column) (m m' : List ℕ) (w : Writes fs m m') where
  -- what is written beside the sets
  pub unmarked_kept : clear_all fs sets ≡ true → Unmarked m → Unmarked m'
  unfolding CellsAlone
  unmarked_kept s u =
      let p = and_parts (clear fs FORE.column) _ s in
      let q = and_parts (clear fs HIND.column) true p.1 in
      let a = cells_alone m m' FORE.column (λ i. w.others FORE.column i p.0) in
      let b = cells_alone m m' HIND.column (λ i. w.others HIND.column i q.0) in
      let l = w.as_long in
      record {
        fore_summed = a.1 (let z = u.fore_summed.lies in omega arith) u.fore_summed;
        hind_summed = b.1 (let z = u.hind_summed.lies in omega arith) u.hind_summed;
        fore_none = λ p. a.0 p ∙ u.fore_none p;
        hind_none = λ p. b.0 p ∙ u.hind_none p;
      }

  -- beside the row
  module _ (r : clear_all fs row_columns ≡ true) where
    pub same_row : SameRow m m'
    same_row = depends fs m m' r w

    pub same_ids : cell m' IDS ≡ cell m IDS
    same_ids = ap (λ (v : View). v.at IDS) (view_same fs row_columns r m m' w)

    -- beside row and table
    module _ (l : clear_all fs link_columns ≡ true) where
      pub same_slots : slot_board m' ≡ slot_board m
      same_slots = board_of same_row.same_row (edges_kept fs l m m' w)

      pub same_board : card_board m' ≡ card_board m
      same_board = ap₂ renamed same_ids same_slots

      pub ready_kept : Ready m → Unmarked m' → Ready m'
      ready_kept R u =
          ready_of m' (same_row.is_row R.is_row) (table_kept fs l m m' w R.is_table) u (subst (λ (b : Board). fine b ≡ true) (sym same_slots) R.fine_so)

      pub means_kept : {r : Board} → clear fs PENDING ≡ true → Means m r → Unmarked m' → Means m' r
      means_kept p M u = record {
        ready = ready_kept M.ready u;
        single = ap once (edges_kept fs l m m' w) ∙ M.single;
        long = let e = w.as_long in let z = M.long in omega arith;
        idle = w.others PENDING 0 p ∙ M.idle;
        is = M.is ∙ sym same_board;
      }

  -- beside what is pending: the memory means another board, by the board of slots after it
  pub means_by : {r : Board} → clear fs PENDING ≡ true → Means m r → IsRow m' → IsTable m' → Unmarked m' → (x : Board) → slot_board m' ≡ x → fine x ≡ true →
      once x.links ≡ true → (b : Board) → b ≡ renamed (cell m' IDS) x → Means m' b
  means_by p M r t u x e f o b n = record {
    ready = ready_of m' r t u (subst (λ (y : Board). fine y ≡ true) (sym e) f);
    single = ap (λ (y : Board). once y.links) e ∙ o;
    long = let l = w.as_long in let z = M.long in omega arith;
    idle = w.others PENDING 0 p ∙ M.idle;
    is = n ∙ ap (renamed (cell m' IDS)) (sym e);
  }

-- m' is m but for numbers that are the keeper's own
abbrev pub Noted : List ℕ → List ℕ → Type 0
Noted m m' = Writes columns m m'

pub noted : (m n : List ℕ) (k : ℕ) → k < 2 ^ 64 → Noted m n → Noted m (leaves_pending n k)
noted m n k l w = put columns m n PENDING 0 k refl (λ _. l) w

pub is_pending : (m : List ℕ) → MORE_TO.base + MORE_TO.size ≤ length m → (k : ℕ) → pending (leaves_pending m k) ≡ k
is_pending m l k = cell_same m PENDING 0 k (omega arith) (omega arith)

pub noted_ready : (m m' : List ℕ) → Ready m → Noted m m' → Ready m'
noted_ready m m' R N = ready_kept columns m m' N refl refl R (unmarked_kept columns m m' N refl (unmarked m R))

-- when nothing is pending any more, the memory means what it meant before something was noted
pub settles : (m m' : List ℕ) → Ready m → once (edges m) ≡ true → MORE_TO.base + MORE_TO.size ≤ length m → Noted m m' →
    Means (leaves_pending m' 0) (card_board m)
settles m m' R o l N =
    let n = leaves_pending m' 0 in
    let Z = noted m m' 0 (omega arith) N in
    record {
      ready = noted_ready m n R Z;
      single = ap once (edges_kept columns refl m n Z) ∙ o;
      long = let e = Z.as_long in omega arith;
      idle = is_pending m' (let e = N.as_long in omega arith) 0;
      is = sym (same_board columns m n Z refl refl);
    }

pub noted_more : (m : List ℕ) (i j : ℕ) → i < 2 ^ 64 → j < 2 ^ 64 → Noted m (written (written (leaves_pending m 3) MORE_FROM 0 i) MORE_TO 0 j)
noted_more m i j k l =
    put columns m _ MORE_TO 0 j refl (λ _. l) (put columns m _ MORE_FROM 0 i refl (λ _. k) (noted m m 3 (omega arith) (same columns m)))

-- A table stays a table: when a link goes, and when all of a slot go.
use Rattle.std.proofs.Common.{◌≡◌, ℕ, ◌+◌, ◌<◌, not, true, eqb, List, ◌∷◌, [], filter, length, refl, lit≤, arith}
use Rattle.memory.specs.Footprints.{view}
use Rattle.order.specs.declared.board.TheConstants.{CARDS}
use Rattle.chains.specs.declared.cells.Pointer.{Pointer}
use Rattle.chains.specs.Chains.{Holds}
use Rattle.chains.specs.Tables.{unhooked}
use Rattle.chains.proofs.Framing.{holds_kept, unhooked_writes}
use Rattle.links.specs.declared.layout.TheConstants.{OUT, IN}
use Rattle.links.specs.Entries.{used, freed, emptied}
use Rattle.links.specs.Table.{columns, Entry, part, listed, others, TableOf}
use Rattle.links.proofs.Pairing.{between_parts}
use Rattle.links.proofs.Writing.{stepped_writes}
use Rattle.links.proofs.Coming.{went}
use Rattle.links.proofs.Freeing.{inner, Rest}
use Rattle.links.proofs.Dropping.{Side, Beside, beside_kept, given_back, slot_emptied, slot_beside}

side_out : Side OUT (λ x. x.from)
side_out = record { below = λ z b. (between_parts z b).0; size = lit≤ tt; apart = refl; stays = refl }

side_in : Side IN (λ x. x.to)
side_in = record { below = λ z b. (between_parts z b).1; size = lit≤ tt; apart = refl; stays = refl }

-- a table, as its chains by slots and the rest
pub rest_of : (m : List ℕ) (L : List Entry) (free : List Pointer) → TableOf (view columns m) L free → Rest (view inner m) 0 L free
rest_of m L free t = record {
  ages = t.ages;
  pairs = t.pairs;
  between = t.between;
  count = t.count;
  numbers = record { filled = (let f : length L + length free ≡ used m = t.filled in omega arith); room = t.room; low = t.low; low_free = t.low_free };
}

module _ (m : List ℕ) (L : List Entry) where
  pub table_of : (free : List Pointer) → Holds OUT m (part (λ x. x.from) (λ x. x.to) L) → Holds IN m (part (λ x. x.to) (λ x. x.from) L)
      → Rest (view inner m) 0 L free → TableOf (view columns m) L free
  table_of free o i r = record {
    outs = o;
    ins = i;
    ages = r.ages;
    pairs = r.pairs;
    between = r.between;
    count = r.count;
    filled = (let f : 0 + (length L + length free) ≡ used m = r.numbers.filled in let g : length L + length free ≡ used m = omega arith in g);
    room = r.numbers.room;
    low = r.numbers.low;
    low_free = r.numbers.low_free;
  }

  abbrev pub TableFor : Type 0
  TableFor = (free : List Pointer) × TableOf (view columns m) L free

  table_out : Holds OUT m (part (λ x. x.from) (λ x. x.to) L) → Beside IN (λ x. x.to) (λ x. x.from) m L → TableFor
  table_out h b = (b.free, table_of b.free h b.across b.rest)

  table_in : Holds IN m (part (λ x. x.to) (λ x. x.from) L) → Beside OUT (λ x. x.from) (λ x. x.to) m L → TableFor
  table_in h b = (b.free, table_of b.free b.across h b.rest)

module _ (m : List ℕ) (L : List Entry) (free : List Pointer) (t : TableOf (view columns m) L free) where
  beside_out : Beside OUT (λ x. x.from) (λ x. x.to) m L
  beside_out = record { free = free; across = t.outs; rest = rest_of m L free t }

  beside_in : Beside IN (λ x. x.to) (λ x. x.from) m L
  beside_in = record { free = free; across = t.ins; rest = rest_of m L free t }

  -- an entry goes
  pub table_less : (e : ℕ) → listed e L ≡ true → TableFor (freed (unhooked IN (unhooked OUT m e) e) e) (others e L)
  table_less e l =
      let h = went OUT (λ x. x.from) (λ x. x.to) m L t.outs e side_out.below t.between l in
      table_out _ (others e L) (holds_kept OUT (stepped_writes OUT IN _ e) refl h)
      (given_back IN (λ x. x.to) (λ x. x.from) side_in _ L
      (beside_kept IN (λ x. x.to) (λ x. x.from) (OUT.cells ∷ []) refl refl m _ (unhooked_writes OUT m e) L beside_in) e l)

  -- all of a slot go
  module _ (s : ℕ) (b : s < CARDS) where
    pub table_less_out : TableFor (emptied OUT IN m s) (filter (λ y. not (eqb y.link.from s)) L)
    table_less_out =
        table_out _ _ (slot_emptied OUT IN (λ x. x.from) (λ x. x.to) side_out side_in refl refl s m b L t.outs beside_in)
        (slot_beside OUT IN (λ x. x.from) (λ x. x.to) side_out side_in refl refl s m b L t.outs beside_in)

    pub table_less_in : TableFor (emptied IN OUT m s) (filter (λ y. not (eqb y.link.to s)) L)
    table_less_in =
        table_in _ _ (slot_emptied IN OUT (λ x. x.to) (λ x. x.from) side_in side_out refl refl s m b L t.ins beside_out)
        (slot_beside IN OUT (λ x. x.to) (λ x. x.from) side_in side_out refl refl s m b L t.ins beside_out)

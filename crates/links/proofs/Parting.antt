-- The parts of a list of entries, when one comes and when one goes.
use Rattle.std.proofs.Common.{◌≡◌, ℕ, ◌<◌, suc, Bool, true, false, not, ◌&&◌, eqb, List, [], ◌∷◌, ◌++◌, map, length, refl, inl, inr, arith}
use Rattle.std.specs.List.{list_all}
use Rattle.std.proofs.lemmas.Bool.{eq-eqb, cases_Bool}
use Rattle.std.proofs.lemmas.Bool.Decides.{nat_tests}
use Rattle.order.specs.declared.board.Link.{Link}
use Rattle.chains.specs.declared.cells.Pointer.{Pointer}
use Rattle.chains.specs.Chains.{has, front, out_of}
use Rattle.links.specs.declared.layout.TheConstants.{ALL, FREE}
use Rattle.links.specs.Pairs.{is_between, pair}
use Rattle.links.specs.Table.{Entry, point, part, aged, listed, others}
use Rattle.links.proofs.Filtering.{filter_absent}

-- the chain of all, and those by a key
module _ (label : Link → ℕ) (e : ℕ) where
  pub all_has : (L : List Entry) → has e (map (point label) L) ≡ listed e L
  all_has [] = refl
  all_has (y ∷ L) = let ih = all_has L in grind arith

  pub all_out : (L : List Entry) → out_of e (map (point label) L) ≡ map (point label) (others e L)
  all_out [] = refl
  all_out (y ∷ L) = let ih = all_out L in grind arith

module _ (key label : Link → ℕ) where
  pub part_front : (y : Entry) (L : List Entry) (k : ℕ) → front (key y.link) (point label y) (part key label L) k ≡ part key label (y ∷ L) k
  part_front y L k = grind (arith, nat_tests)

  pub part_lacks : (e : ℕ) (L : List Entry) (k : ℕ) → listed e L ≡ false → has e (part key label L k) ≡ false
  part_lacks e [] k n = refl
  part_lacks e (y ∷ L) k n = let ih = part_lacks e L k in grind arith

  pub part_out : (e : ℕ) (L : List Entry) (k : ℕ) → out_of e (part key label L k) ≡ part key label (others e L) k
  part_out e [] k = refl
  part_out e (y ∷ L) k = let ih = part_out e L k in grind arith

  -- an entry that is listed is in the chain of its key
  pub part_has : (e : ℕ) (L : List Entry) → listed e L ≡ true → list_all (λ y. is_between y.link) L ≡ true
      → (z : Link) × (is_between z ≡ true) × (has e (part key label L (key z)) ≡ true)
  part_has e [] h a = cc
  part_has e (y ∷ L) h a = elim (cases_Bool (eqb y.number e)) [
    | inl t ↦ (y.link, grind arith, let q = eq-eqb (key y.link) (key y.link) refl in grind arith)
    | inr t ↦ let r = part_has e L (grind arith) (grind arith) in (r.0, r.1, let h = r.2 in grind arith)
  ]

-- the chains by age
module _ (L : List Entry) (free : List Pointer) (k : ℕ) where
  pub aged_lacks : (e : ℕ) → listed e L ≡ false → has e free ≡ false → has e (aged L free k) ≡ false
  aged_lacks e n f = let a = all_has pair e L in grind arith

  pub aged_out : (e : ℕ) → out_of e (aged L free k) ≡ aged (others e L) (out_of e free) k
  aged_out e = let a = all_out pair e L in grind arith

  pub aged_front : (y : Entry) → front ALL (point pair y) (aged L free) k ≡ aged (y ∷ L) free k
  aged_front y = grind arith

  pub aged_free : (x : Pointer) → k < 2 → front FREE x (aged L free) k ≡ aged L (x ∷ free) k
  aged_free x b = grind (arith, nat_tests)

-- numbers that are apart: what is first is listed no more behind it, and one less is left of a listed one
abbrev pub Apart : List Entry → Bool
Apart [] = true
Apart (y ∷ L) = not (listed y.number L) && Apart L

pub others_length : (e : ℕ) (L : List Entry) → Apart L ≡ true → listed e L ≡ true → suc (length (others e L)) ≡ length L
others_length e [] d t = cc
others_length e (y ∷ L) d t = let ih = others_length e L in let a = filter_absent (λ z. eqb z.number e) L in grind (arith, nat_tests)

pub listed_between : (K : List Entry) (y : Entry) (M : List Entry) → listed y.number (K ++ y ∷ M) ≡ true
listed_between [] y M = let q = eq-eqb y.number y.number refl in grind arith
listed_between (k ∷ K) y M = let ih = listed_between K y M in grind arith

pub others_between : (K : List Entry) (y : Entry) (M : List Entry) → Apart (K ++ y ∷ M) ≡ true → others y.number (K ++ y ∷ M) ≡ K ++ M
others_between [] y M d = let q = eq-eqb y.number y.number refl in let a = filter_absent (λ z. eqb z.number y.number) M in grind arith
others_between (k ∷ K) y M d =
    let ih = others_between K y M in let l = listed_between K y M in grind (arith, nat_tests)

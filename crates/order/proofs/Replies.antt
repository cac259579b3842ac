-- What a reply says: the first link that is broken, if there is one, and that there is none just if all are kept.
use Rattle.std.proofs.Common.{◌≡◌, ℕ, suc, ◌+◌, ◌/◌, ◌%◌, Bool, true, false, cond, ◌||◌, eqb, ltb, ◌⊎◌, List, [], ◌∷◌, ◌++◌, length, Some, None, Ok, Err, Option, refl, ap, ◌∙◌, subst, inl, inr, arith}
use Rattle.std.proofs.lemmas.Bool.Decides.{nat_tests}
use Rattle.std.proofs.lemmas.Bool.{cases_Bool, eqb-true, ltb-true, or_cases}
use Rattle.order.specs.declared.board.Link.{Link}
use Rattle.order.specs.declared.keeping.Misfit.{Misfit}
use Rattle.order.specs.declared.keeping.Misfit.TheVariants.{HalfLink, TooMany}
use Rattle.order.specs.declared.keeping.TheConstants.{MOST}
use Rattle.order.specs.Lists.{every}
use Rattle.order.specs.Board.{keeps}
use Rattle.order.specs.Kept.{before, links_of, first_broken, kept_reply, Taken, Breaks, KeptJust, BrokenJust, RefusedJust}

none_kept : (row : List ℕ) (ls : List Link) (i : ℕ) → first_broken row ls i ≡ None → keeps row ls ≡ true
unfolding first_broken before every
none_kept row [] i e = refl
none_kept row (l ∷ ls) i e = let ih = none_kept row ls (i + 1) in grind arith

kept_none : (row : List ℕ) (ls : List Link) (i : ℕ) → keeps row ls ≡ true → first_broken row ls i ≡ None
unfolding first_broken before every
kept_none row [] i e = refl
kept_none row (l ∷ ls) i e = let ih = kept_none row ls (i + 1) in grind arith

some_breaks : (row : List ℕ) (ls : List Link) (i j : ℕ) → first_broken row ls i ≡ Some j → (k : ℕ) × (j ≡ i + k) × Breaks row ls k
unfolding first_broken before every
some_breaks row [] i j e = let z : ◌≡◌ {A = ℕ} 0 1 = cc in absurd (omega arith)
some_breaks row (l ∷ ls) i j e = elim (cases_Bool (before row l.from l.to)) [
  | inl t ↦
      let w = some_breaks row ls (i + 1) j (rw t at e) in
      let b = w.2 in (
        suc w.0,
        omega arith,
        record {
          ahead = l ∷ b.ahead;
          link = b.link;
          behind = b.behind;
          parts = ap (λ ks. l ∷ ks) b.parts;
          number = ap suc b.number;
          kept = rw t b.kept;
          broken = b.broken;
        },
      )
  | inr f ↦ (
    0,
    (let s = rw f at e in grind arith),
    record {
      ahead = [];
      link = l;
      behind = ls;
      parts = refl;
      number = refl;
      kept = refl;
      broken = rw f refl;
    },
  )
]

breaks_some : (row : List ℕ) (ahead behind : List Link) (l : Link) (i : ℕ) → keeps row ahead ≡ true → keeps row (l ∷ []) ≡ false →
    first_broken row (ahead ++ l ∷ behind) i ≡ Some (i + length ahead)
unfolding first_broken before every
breaks_some row [] behind l i k b = grind arith
breaks_some row (a ∷ ahead) behind l i k b = let ih = breaks_some row ahead behind l (i + 1) in grind arith

taken_reply : (row ns : List ℕ) → Taken row ns → kept_reply row ns ≡ Ok (first_broken row (links_of ns) 0)
taken_reply row ns t = grind (arith, nat_tests)

pub kept_just : KeptJust
kept_just row ns t =
    let o = first_broken row (links_of ns) 0 in (
      (λ e. none_kept row (links_of ns) 0 (let n : o ≡ None = let a = taken_reply row ns t in cc in n)),
      (λ k. taken_reply row ns t ∙ ap Ok (kept_none row (links_of ns) 0 k)),
    )

breaks_reply : (row : List ℕ) (ls : List Link) (i : ℕ) → Breaks row ls i → first_broken row ls 0 ≡ Some i
breaks_reply row ls i b =
    ap (λ (ks : List Link). first_broken row ks 0) b.parts
    ∙ breaks_some row b.ahead b.behind b.link 0 b.kept b.broken
    ∙ ap Some (omega (arith, b.number))

pub broken_just : BrokenJust
broken_just row ns i t =
    let o = first_broken row (links_of ns) 0 in (
      (λ e.
          let w = some_breaks row (links_of ns) 0 i (let n : o ≡ Some i = let a = taken_reply row ns t in cc in n) in
          subst (λ (k : ℕ). Breaks row (links_of ns) k) (let n : w.0 ≡ i = omega arith in n) w.2),
      (λ b. taken_reply row ns t ∙ ap Ok (breaks_reply row (links_of ns) i b)),
    )

refused_by : (odd many : Bool) (o : Option ℕ) (e : Misfit) → cond odd (Err HalfLink) (cond many (Err TooMany) (Ok o)) ≡ Err e →
    ((e ≡ HalfLink) × (odd ≡ true)) ⊎ ((e ≡ TooMany) × (many ≡ true))
refused_by true many o e r = inl ((let n : e ≡ HalfLink = cc in n), refl)
refused_by false true o e r = inr ((let n : e ≡ TooMany = cc in n), refl)
refused_by false false o e r = let z : ◌≡◌ {A = ℕ} 0 1 = cc in absurd (omega arith)

pub refused_just : RefusedJust
refused_just row ns e r = elim (refused_by (eqb (length ns % 2) 1) (ltb MOST (length row) || ltb MOST (length ns / 2)) (first_broken row (links_of ns) 0) e r) [
  | inl w ↦ inl (w.0, eqb-true (length ns % 2) 1 w.1)
  | inr w ↦ inr (
    w.0,
    elim (or_cases (ltb MOST (length row)) (ltb MOST (length ns / 2)) w.1) [
      | inl m ↦ inl (ltb-true MOST (length row) m)
      | inr m ↦ inr (ltb-true MOST (length ns / 2) m)
    ],
  )
]

-- Writing to the front of a list, one after the other.
use Rattle.std.proofs.Common.{◌≡◌, ℕ, ◌+◌, ◌<◌, ◌≤◌, List, [], ◌∷◌, ◌++◌, map, length, get_or, take, drop, set, sym, ap, ◌∙◌, append_assoc, arith}
use lib.ListN.{length-map}
use Rattle.std.proofs.lemmas.List.{drop_more, set_at, map_more, length-take-le, take_all}

pub front_more : (f : ℕ → ℕ) (ys out xs : List ℕ) (i : ℕ) → i < length ys → length ys ≤ length out → xs ≡ map f (take i ys) ++ drop i out →
    set xs i (f (get_or ys i 0)) ≡ map f (take (i + 1) ys) ++ drop (i + 1) out
front_more f ys out xs i h l e =
    let n : length (map f (take i ys)) ≡ i = length-map (take i ys) f ∙ length-take-le i ys (omega arith) in
    ap (λ (zs : List ℕ). set zs i (f (get_or ys i 0))) (e ∙ ap (λ (zs : List ℕ). map f (take i ys) ++ zs) (drop_more out i 0 (omega arith)))
    ∙ set_at (map f (take i ys)) (get_or out i 0) (drop (i + 1) out) (f (get_or ys i 0)) i n
    ∙ sym (ap (λ (zs : List ℕ). zs ++ drop (i + 1) out) (map_more f ys i 0 h) ∙ append_assoc (map f (take i ys)) (f (get_or ys i 0) ∷ []) (drop (i + 1) out))

pub front_all : (f : ℕ → ℕ) (ys out xs : List ℕ) (i : ℕ) → length ys ≤ i → i ≤ length ys → xs ≡ map f (take i ys) ++ drop i out →
    xs ≡ map f ys ++ drop (length ys) out
front_all f ys out xs i h l e =
    let n : i ≡ length ys = omega arith in
    e ∙ ap (λ (zs : List ℕ). map f zs ++ drop i out) (take_all i ys h) ∙ ap (λ (k : ℕ). map f ys ++ drop k out) n

-- What is put at the front of the output.
use Rattle.std.proofs.Common.{◌≡◌, ℕ, ◌≤◌, ◌++◌, List, length, take, drop, sym, ap, ◌∙◌, arith}
use Rattle.std.proofs.lemmas.List.{append_assoc, take-append-drop, drop-append-le, length-take-le}
pub use Rattle.keeper.proofs.OwnSize.{Few, few_answer}

-- what is put at the front of a part stands at the front of the whole
pub front_stands : (n : ℕ) (ks out : List ℕ) → length ks ≤ n → n ≤ length out →
    (ks ++ drop (length ks) (take n out)) ++ drop n out ≡ ks ++ drop (length ks) out
front_stands n ks out l u =
    append_assoc ks (drop (length ks) (take n out)) (drop n out)
    ∙ ap (λ (xs : List ℕ). ks ++ xs)
    (sym (drop-append-le (length ks) (take n out) (drop n out) (omega (arith, length-take-le n out u)))
    ∙ ap (λ (xs : List ℕ). drop (length ks) xs) (take-append-drop n out))

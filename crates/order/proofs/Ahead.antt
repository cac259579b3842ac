-- Which of two numbers stands first, in two lists one behind the other.
use Rattle.std.proofs.Common.{◌≡◌, ℕ, ◌<◌, true, false, List, ◌++◌, arith}
use Rattle.order.specs.Lists.{has, place}
use Rattle.order.proofs.Places.{place_below, place_left, place_right}

pub first_before : (xs ys : List ℕ) (x y : ℕ) → has xs x ≡ true → has xs y ≡ false → place (xs ++ ys) x < place (xs ++ ys) y
first_before xs ys x y p q = rw (place_left xs ys x p, place_right xs ys y q) (omega (arith, place_below xs x p))

pub both_first : (xs ys : List ℕ) (x y : ℕ) → has xs x ≡ true → has xs y ≡ true → place xs x < place xs y → place (xs ++ ys) x < place (xs ++ ys) y
both_first xs ys x y p q l = rw (place_left xs ys x p, place_left xs ys y q) l

pub both_second : (xs ys : List ℕ) (x y : ℕ) → has xs x ≡ false → has xs y ≡ false → place ys x < place ys y → place (xs ++ ys) x < place (xs ++ ys) y
both_second xs ys x y p q l = rw (place_right xs ys x p, place_right xs ys y q) (omega arith)

-- another list behind the same front
pub before_behind : (A X X' : List ℕ) (x y : ℕ) → place (A ++ X) x < place (A ++ X) y →
    (has A x ≡ false → has A y ≡ false → place X x < place X y → place X' x < place X' y) → place (A ++ X') x < place (A ++ X') y
before_behind A X X' x y l k =
    let a = place_left A X x in let b = place_left A X y in let c = place_left A X' x in let d = place_left A X' y in
    let e = place_right A X x in let f = place_right A X y in let g = place_right A X' x in let h = place_right A X' y in
    grind (arith, k, place_below A x, place_below A y)

-- another list of the same numbers before the same rest
pub before_ahead : (M M' P : List ℕ) (x y : ℕ) → ((k : ℕ) → has M' k ≡ has M k) → place (M ++ P) x < place (M ++ P) y →
    (has M x ≡ true → has M y ≡ true → place M x < place M y → place M' x < place M' y) → place (M' ++ P) x < place (M' ++ P) y
before_ahead M M' P x y h l k =
    let hx = h x in let hy = h y in
    let a = place_left M P x in let b = place_left M P y in let c = place_left M' P x in let d = place_left M' P y in
    let e = place_right M P x in let f = place_right M P y in let g = place_right M' P x in let i = place_right M' P y in
    grind (arith, k, place_below M y, place_below M' x)

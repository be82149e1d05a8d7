-- What stands in a list of numbers from a place on stands there part by part.
use Rattle.std.proofs.Common.{◌≡◌, ℕ, zero, suc, ◌+◌, ◌<◌, ℤ, ap, ◌∙◌, arith, refl, List, [], ◌∷◌, ◌++◌, length}
use Rattle.nml_tree.specs.Value.{number_at}
use Rattle.nml_widths.specs.Fitting.{StandAt}

at_left : (xs ys : List ℤ) (k : ℕ) → k < length xs → number_at (xs ++ ys) k ≡ number_at xs k
at_left [] ys k h = absurd (omega (arith, h))
at_left (x ∷ xs) ys zero h = refl
at_left (x ∷ xs) ys (suc k) h = at_left xs ys k (omega (arith, h))

at_right : (xs ys : List ℤ) (k : ℕ) → number_at (xs ++ ys) (length xs + k) ≡ number_at ys k
at_right [] ys k = let e : 0 + k ≡ k = omega arith in ap (number_at ys) e
at_right (x ∷ xs) ys k =
    let e : length (x ∷ xs) + k ≡ suc (length xs + k) = omega arith in
    ap (number_at (x ∷ (xs ++ ys))) e ∙ at_right xs ys k

longer : (xs ys : List ℤ) → length (xs ++ ys) ≡ length xs + length ys
longer [] ys = omega arith
longer (x ∷ xs) ys = omega (arith, longer xs ys)

pub stand_left : (zs : List ℤ) (n : ℕ) (xs ys : List ℤ) → StandAt zs n (xs ++ ys) → StandAt zs n xs
stand_left zs n xs ys h k low = h k (omega (arith, low, longer xs ys)) ∙ at_left xs ys k low

pub stand_right : (zs : List ℤ) (n : ℕ) (xs ys : List ℤ) → StandAt zs n (xs ++ ys) → StandAt zs (n + length xs) ys
stand_right zs n xs ys h k low =
    let e : n + length xs + k ≡ n + (length xs + k) = omega arith in
    ap (number_at zs) e ∙ (h (length xs + k) (omega (arith, low, longer xs ys)) ∙ at_right xs ys k)

pub stand_behind : (zs : List ℤ) (n : ℕ) (y : ℤ) (ys : List ℤ) → StandAt zs n (y ∷ ys) → StandAt zs (n + 1) ys
stand_behind zs n y ys h k low =
    let e : n + 1 + k ≡ n + suc k = omega arith in
    ap (number_at zs) e ∙ h (suc k) (omega (arith, low))

-- How many arguments there are.
use Rattle.std.proofs.Common.{◌≡◌, refl, arith, ℕ, List, [], ◌∷◌, map, length}
use Rattle.c_tree.specs.declared.expression.Expr.{Expr}
use Rattle.c_tree.specs.Formula.{formula, further}
use Rattle.c_tree.specs.Faults.{further_count}

pub count_is : (xs : List (ℕ × Expr)) → further_count (further (map (λ (comma, y). (comma, formula y)) xs)) ≡ length xs
count_is [] = refl
count_is (x ∷ xs) = let e = count_is xs in omega (arith, e)

-- The cells of the statements are as many as are counted.
use Rattle.std.proofs.Common.{◌≡◌, refl, ℕ, ◌+◌, List, [], ◌∷◌, length, cond, arith, Bool, true, false}
use Rattle.std.specs.Prelude.{filter}
use Rattle.c_tree.specs.Program.{Function, Program}
use Rattle.c_tree.specs.Code.{one_if}
use Rattle.c_tree.specs.Lowered.{cells_of_all, lowered}
use Rattle.c_tree.specs.Counts.{own_cells_of_all, data_of}

-- a function that gives a value is counted
given : (b : Bool) (f : Function) (fs : List Function) → length (cond b (f ∷ fs) fs) ≡ one_if b + length fs
given true f fs = omega arith
given false f fs = omega arith

-- the cells of functions: their own, those of results, and those of returns
functions_cells : (fs : List Function) → cells_of_all fs ≡ own_cells_of_all fs + length (filter (λ f. f.gives) fs) + length fs
functions_cells [] = refl
functions_cells (f ∷ fs) = let rest = functions_cells fs in let first = given f.gives f (filter (λ (f : Function). f.gives) fs) in omega (arith, rest, first)

-- the layout has as many cells as are counted
pub cells_are_data : (p : Program) (n : ℕ) → (lowered p n).cells ≡ data_of p n
cells_are_data p n = let functions = functions_cells p.functions in omega (arith, functions)

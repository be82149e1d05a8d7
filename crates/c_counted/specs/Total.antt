-- The cells of a program's lowering, counted on its terms and commands alone.
use Rattle.std.specs.Prelude.{ℕ, ◌+◌, max, ℤ, pos, negsuc, true, false, List, [], ◌∷◌, ◌++◌, map, length, filter, Option, Some, None, if◌then◌else◌}
use Rattle.ir_core.specs.Operator.{wrap}
use Rattle.c_tree.specs.Program.{Shape, Function, Program}
use Rattle.c_tree.specs.Meaning.{global_cells}
use Rattle.c_tree.specs.Code.{one_if}
use Rattle.c_tree.specs.Lowered.{main_cells, in_order}
use Rattle.c_tree.specs.Counts.{own_cells_of_all}
use Rattle.c_counted.specs.Counted.{command_largest, command_numbers, command_calls}

-- ---- functions

-- the end of a function other than `main` that gives a value puts 0 into its result cell, where the body's last statement is no `return`
abbrev pub end_largest : Function → ℕ
end_largest f = if f.returns then 0 else one_if f.gives

-- the nodes below the root of the largest statement
abbrev pub functions_largest : List Function → ℕ
functions_largest [] = 0
functions_largest (f ∷ fs) = max (max (command_largest false f.body) (end_largest f)) (functions_largest fs)

abbrev pub main_largest : Option Function → ℕ
main_largest None = 0
main_largest (Some f) = command_largest true f.body

-- the numbers in statements
abbrev pub functions_numbers : List Function → List ℕ
functions_numbers [] = []
functions_numbers (f ∷ fs) = command_numbers false f.body ++ functions_numbers fs

abbrev pub main_numbers : Option Function → List ℕ
main_numbers None = []
main_numbers (Some f) = command_numbers true f.body

-- the calls
abbrev pub functions_calls : List Function → ℕ
functions_calls [] = 0
functions_calls (f ∷ fs) = command_calls f.body + functions_calls fs

abbrev pub main_calls : Option Function → ℕ
main_calls None = 0
main_calls (Some f) = command_calls f.body

-- the lengths of the arrays among variables
abbrev pub array_lengths : List Shape → List ℕ
array_lengths [] = []
array_lengths (None ∷ vs) = array_lengths vs
array_lengths (Some n ∷ vs) = n ∷ array_lengths vs

abbrev pub functions_lengths : List Function → List ℕ
functions_lengths [] = []
functions_lengths (f ∷ fs) = array_lengths f.variables ++ functions_lengths fs

abbrev pub main_lengths : Option Function → List ℕ
main_lengths None = []
main_lengths (Some f) = array_lengths f.variables

-- ---- programs

abbrev pub program_largest : Program → ℕ
program_largest p = max (main_largest p.main) (functions_largest p.functions)

abbrev pub program_numbers : Program → List ℕ
program_numbers p = main_numbers p.main ++ functions_numbers p.functions

abbrev pub program_calls : Program → ℕ
program_calls p = main_calls p.main + functions_calls p.functions

abbrev pub program_lengths : Program → List ℕ
program_lengths p = array_lengths (map (λ v. v.shape) p.globals) ++ main_lengths p.main ++ functions_lengths p.functions

-- -1, 0, 1, and each array's length and each number of the text that stands in a statement, wrapped
abbrev pub gathered : Program → ℕ → List ℤ
gathered p n = negsuc 0 ∷ pos 0 ∷ pos 1 ∷ map (λ z. wrap n (pos z)) (program_lengths p ++ program_numbers p)

-- the cells: of variables and steps; of results and returns; one for each different number, for each array and for each call; and the temporaries
abbrev pub counted : Program → ℕ → ℕ
counted p n =
    global_cells p + main_cells p.main + own_cells_of_all p.functions + length (filter (λ f. f.gives) p.functions) + length p.functions
    + length (in_order (gathered p n)) + length (program_lengths p) + program_calls p + (8 + program_largest p)

-- What is counted of the parts of a program.
use Rattle.std.specs.Prelude.{ℕ, ◌+◌, max, List, length, filter, Option}
use Rattle.c_tree.specs.Program.{Function, Program}
use Rattle.c_tree.specs.Lowered.{main_cells, in_order}
use Rattle.c_tree.specs.Counts.{own_cells_of_all}
use Rattle.c_counted.specs.Total.{main_calls, main_largest, functions_calls, functions_largest, program_lengths, gathered}
use Rattle.c_data.specs.declared.functions.Total.{Total}
use Rattle.c_data.specs.declared.constants.Constants.{Constants}

-- of `main`
abbrev pub main_total : Option Function → Total
main_total m = record { cells = main_cells m; calls = main_calls m; largest = main_largest m }

-- of the other functions, each with a cell for its result, where it gives one, and a cell for its return
abbrev pub functions_total : List Function → Total
functions_total fs = record {
  cells = own_cells_of_all fs + length (filter (λ f. f.gives) fs) + length fs;
  calls = functions_calls fs;
  largest = functions_largest fs;
}

-- of two parts together
abbrev pub joined : Total → Total → Total
joined x y = record { cells = x.cells + y.cells; calls = x.calls + y.calls; largest = max x.largest y.largest }

-- the different numbers and the arrays
abbrev pub constants_of : Program → ℕ → Constants
constants_of p n = record { different = length (in_order (gathered p n)); arrays = length (program_lengths p) }

-- all cells, by those of global variables and what is counted of `main`, of the other functions and of constants
abbrev pub together : ℕ → Total → Total → Constants → ℕ
together globals main others constants =
    globals + main.cells + others.cells + constants.different + constants.arrays + (main.calls + others.calls) + (8 + max main.largest others.largest)

-- What is counted of a program with numbers of n bits: trees, jumps and halts, operations, cells, a bound on words.
use Rattle.std.specs.Prelude.{ℕ, ◌+◌, ◌*◌, ◌==◌, Bool, ◌||◌, List, [], ◌∷◌, length, filter, flat_map, if◌then◌else◌}
use Rattle.std.specs.List.{range_with_len}
use Rattle.ir_run.specs.Entry.{Entry}
use Rattle.ir_run.specs.Node.{Node, Const, Base, Label, Cell, In, Load, Unary, Shifted, Binary}
use Rattle.ir_run.specs.Size.{is_tree, is_control, uses, trees_of, Operation, Taking, Loading, First, By, operation_number, root_operations}
use Rattle.c_tree.specs.Program.{Function, Program}
use Rattle.c_tree.specs.Meaning.{global_cells}
use Rattle.c_tree.specs.Lowered.{program_entries, own_cells, main_cells, constants, arrays, return_labels, temporaries}

-- the statements with trees, in order
abbrev pub trees : Program → ℕ → List Entry
trees p n = filter is_tree (program_entries p n)

-- how many jumps and halts there are
abbrev pub control : Program → ℕ → ℕ
control p n = length (filter is_control (program_entries p n))

-- the numbers of the operations that are used, from copy to halt; every program uses these two
abbrev pub ops : Program → ℕ → List ℕ
ops p n = filter (λ op. (op == 0) || (op == 23) || uses (program_entries p n) op) (range_with_len 0 24)

-- the parameters, locals and step cells of functions
abbrev pub own_cells_of_all : List Function → ℕ
own_cells_of_all [] = 0
own_cells_of_all (f ∷ fs) = own_cells f + own_cells_of_all fs

-- the cells: of variables and steps; one for the result of each other function that gives a value, and one for its return; one for each constant,
-- for each array's base and for each call's return word; and the temporaries
abbrev pub data_of : Program → ℕ → ℕ
data_of p n =
    global_cells p + main_cells p.main + own_cells_of_all p.functions + length (filter (λ f. f.gives) p.functions) + length p.functions
    + length (constants p n) + length (arrays p) + length (return_labels p n) + temporaries p n

-- ---- a bound on words: 12 for each operation that a Cert does, 96 for each other, 12k for a shift by k

abbrev pub operation_bound : (ℕ → Bool) → Operation → ℕ
operation_bound has_cert op = if has_cert (operation_number op) then 12 else 96

abbrev pub node_bound : (ℕ → Bool) → Node → ℕ
node_bound has_cert (Const z) = 0
node_bound has_cert (Base c) = 0
node_bound has_cert (Label l) = 0
node_bound has_cert (Cell k) = 0
node_bound has_cert In = operation_bound has_cert Taking
node_bound has_cert (Load t) = operation_bound has_cert Loading + node_bound has_cert t
node_bound has_cert (Unary op t) = operation_bound has_cert (First op) + node_bound has_cert t
node_bound has_cert (Shifted op t k) = 12 * k + node_bound has_cert t
node_bound has_cert (Binary op t u) = operation_bound has_cert (By op) + node_bound has_cert t + node_bound has_cert u

-- the operations of roots, and of nodes
abbrev pub roots_bound : (ℕ → Bool) → List Operation → ℕ
roots_bound has_cert [] = 0
roots_bound has_cert (op ∷ ops) = operation_bound has_cert op + roots_bound has_cert ops

abbrev pub nodes_bound : (ℕ → Bool) → List Node → ℕ
nodes_bound has_cert [] = 0
nodes_bound has_cert (t ∷ ts) = node_bound has_cert t + nodes_bound has_cert ts

-- the bound of a program, for operations of which it is told whether they have a Cert
abbrev pub bound : (ℕ → Bool) → Program → ℕ → ℕ
bound has_cert p n =
    roots_bound has_cert (flat_map root_operations (program_entries p n)) + nodes_bound has_cert (flat_map trees_of (program_entries p n))

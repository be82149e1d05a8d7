-- Programs with their statements and cells for numbers of 16 bits, and what is counted of them, each by computation.
use Rattle.std.specs.Prelude.{◌≡◌, refl, ◌==◌, true, pos, negsuc, [], ◌∷◌, length}
use Rattle.ir_core.specs.declared.operator.Arith.TheVariants as operator
use Rattle.ir_run.specs.Node.{Const, Base, Label, Cell, In, Load}
use Rattle.ir_run.specs.Node as node
use Rattle.ir_run.specs.Entry.{Entry, Branch, JumpCell, Jump, Mark, Halt}
use Rattle.ir_run.specs.Entry as entry
use Rattle.ir_run.specs.Run as statements
use Rattle.ir_run.specs.Promise.{is_promised}
use Rattle.ir_core.specs.declared.relation.Rel.TheVariants as rel
use Rattle.nk_outside.specs.declared.stop.Stop.TheVariants as stops
use Rattle.c_tree.specs.Resolve.{resolved_items}
use Rattle.c_tree.specs.Meaning.{outcome}
use Rattle.c_tree.specs.Lowered.{program_entries, homes, start, lowered}
use Rattle.c_tree.specs.Counts.{trees, control, ops, data_of, bound}
use Rattle.c_tree.specs.Texts.{wrapped, array, filter, saved, short_cut, loops, one_tree, two_products, great, greater, demo_3, longest_array}

-- `if (x + 1 < 0) out(1); else out(0);` branches with the opposite relation past the first part; the cell of `in()` is the local's neighbour
condition : program_entries (resolved_items wrapped) 16 ≡
    Mark 0 ∷ entry.Set 1 In ∷ entry.Set 0 (Cell 1) ∷ Branch rel.Ge (node.Binary operator.Add (Cell 0) (Const (pos 1))) (Const (pos 0)) 1 ∷
    entry.Out (Const (pos 1)) ∷ Jump 2 ∷ Mark 1 ∷ entry.Out (Const (pos 0)) ∷ Mark 2 ∷ Halt 0 ∷ []
condition = refl

-- each index goes into a cell of its own and is tested twice before it is used, and the trap stands at the end
elements : program_entries (resolved_items array) 16 ≡
    Mark 0 ∷ entry.Out (Const (pos 7)) ∷ entry.Set 4 In ∷ entry.Set 3 (Cell 4) ∷ entry.Set 5 (Cell 3) ∷ Branch rel.Lt (Cell 5) (Const (pos
    0)) 1 ∷ Branch rel.Ge (Cell 5) (Const (pos 3)) 1 ∷ entry.Store (node.Binary operator.Add (Cell 5) (Base 0)) (Const (pos 5)) ∷ entry.Set
    6 (Cell 3) ∷ Branch rel.Lt (Cell 6) (Const (pos 0)) 1 ∷ Branch rel.Ge (Cell 6) (Const (pos 3)) 1 ∷ entry.Set 6 (Load (node.Binary
    operator.Add (Cell 6) (Base 0))) ∷ entry.Out (Cell 6) ∷ Halt 0 ∷ Mark 1 ∷ Halt 1 ∷ []
elements = refl

-- `g + f(1) * g`: the first g is saved before the call, the second is read behind it
saved_global : program_entries (resolved_items saved) 16 ≡
    Mark 0 ∷ entry.Set 1 (Cell 0) ∷ entry.Set 2 (Const (pos 1)) ∷ entry.Set 4 (Cell 2) ∷ entry.Set 6 (Label 1) ∷ Jump 2 ∷ Mark 1 ∷ entry.Set
    3 (Cell 5) ∷ entry.Out (node.Binary operator.Add (Cell 1) (node.Binary operator.Mul (Cell 3) (Cell 0))) ∷ Halt 0 ∷ Mark 2 ∷ entry.Set 0
    (node.Binary operator.Add (Cell 0) (Cell 4)) ∷ entry.Set 5 (Cell 0) ∷ JumpCell 6 ∷ []
saved_global = refl

-- a `for` always marks its `continue` and its end; a `do` marks its test
loops_entries : program_entries (resolved_items loops) 16 ≡
    Mark 0 ∷ entry.Set 0 (Const (pos 0)) ∷ Mark 1 ∷ Branch rel.Ge (Cell 0) (Const (pos 9)) 5 ∷ Branch rel.Ne (Cell 0) (Const (pos 2)) 2 ∷
    Jump 4 ∷ Mark 2 ∷ Branch rel.Ne (Cell 0) (Const (pos 4)) 3 ∷ Jump 5 ∷ Mark 3 ∷ entry.Out (Cell 0) ∷ Mark 4 ∷ entry.Set 0 (node.Binary
    operator.Add (Cell 0) (Const (pos 1))) ∷ Jump 1 ∷ Mark 5 ∷ Mark 6 ∷ entry.Set 0 (node.Binary operator.Sub (Cell 0) (Const (pos 1))) ∷
    Mark 7 ∷ Branch rel.Gt (Cell 0) (Const (pos 2)) 6 ∷ Mark 8 ∷ entry.Out (Cell 0) ∷ Halt 0 ∷ []
loops_entries = refl

-- `&&` and `||` as values: 1, and 0 where the condition doesn't go past that
conditions_as_values : program_entries (resolved_items short_cut) 16 ≡
    Mark 0 ∷ entry.Set 0 (Const (pos 1)) ∷ entry.Set 1 (Const (pos 0)) ∷ entry.Set 13 (Cell 1) ∷ entry.Set 15 (Label 1) ∷ Jump 10 ∷ Mark 1 ∷
    entry.Set 2 (Cell 14) ∷ Branch rel.Eq (Cell 2) (Const (pos 0)) 3 ∷ entry.Set 3 (Const (pos 1)) ∷ entry.Set 13 (Cell 3) ∷ entry.Set 15
    (Label 2) ∷ Jump 10 ∷ Mark 2 ∷ entry.Set 4 (Cell 14) ∷ Branch rel.Ne (Cell 4) (Const (pos 0)) 4 ∷ Mark 3 ∷ entry.Set 0 (Const (pos 0)) ∷
    Mark 4 ∷ entry.Out (Cell 0) ∷ entry.Set 5 (Const (pos 1)) ∷ entry.Set 6 (Const (pos 2)) ∷ entry.Set 13 (Cell 6) ∷ entry.Set 15 (Label 5)
    ∷ Jump 10 ∷ Mark 5 ∷ entry.Set 7 (Cell 14) ∷ Branch rel.Ne (Cell 7) (Const (pos 0)) 7 ∷ entry.Set 8 (Const (pos 3)) ∷ entry.Set 13 (Cell
    8) ∷ entry.Set 15 (Label 6) ∷ Jump 10 ∷ Mark 6 ∷ entry.Set 9 (Cell 14) ∷ Branch rel.Ne (Cell 9) (Const (pos 0)) 7 ∷ entry.Set 5 (Const
    (pos 0)) ∷ Mark 7 ∷ entry.Out (Cell 5) ∷ entry.Set 10 (Const (pos 1)) ∷ entry.Set 11 (Const (pos 0)) ∷ entry.Set 13 (Cell 11) ∷
    entry.Set 15 (Label 8) ∷ Jump 10 ∷ Mark 8 ∷ entry.Set 12 (Cell 14) ∷ Branch rel.Eq (Cell 12) (Const (pos 0)) 9 ∷ entry.Set 10 (Const
    (pos 0)) ∷ Mark 9 ∷ entry.Out (Cell 10) ∷ Halt 0 ∷ Mark 10 ∷ entry.Out (Cell 13) ∷ entry.Set 14 (Cell 13) ∷ JumpCell 15 ∷ []
conditions_as_values = refl

-- the cells of the array, of the local and of the steps, the constants in rising order, the base, no return word, and 8 temporaries and 4 for the
-- largest tree
array_cells : homes (resolved_items array) 16 ≡ record { consts = ((7, (negsuc 0)) ∷ (8, (pos 0)) ∷ (9, (pos 1)) ∷ (10, (pos 3)) ∷ (11, (pos 5)) ∷ (12, (pos 7)) ∷ []); bases = ((13, 0) ∷ []); labels = []; temps = 14 }
array_cells = refl

array_start : start (resolved_items array) 16 ≡ ((7, (negsuc 0)) ∷ (8, (pos 0)) ∷ (9, (pos 1)) ∷ (10, (pos 3)) ∷ (11, (pos 5)) ∷ (12, (pos 7)) ∷ (13, (pos 0)) ∷ [])
array_start = refl

array_data : data_of (resolved_items array) 16 ≡ 26
array_data = refl

-- one tree: three reads and two operators, so 5 nodes below the root
one_tree_trees : length (trees (resolved_items one_tree) 16) ≡ 1
one_tree_trees = refl

one_tree_data : data_of (resolved_items one_tree) 16 ≡ 19
one_tree_data = refl

two_products_trees : length (trees (resolved_items two_products) 16) ≡ 1
two_products_trees = refl

two_products_data : data_of (resolved_items two_products) 16 ≡ 22
two_products_data = refl

-- 1,024 cells
great_trees : length (trees (resolved_items great) 16) ≡ 4
great_trees = refl

great_data : data_of (resolved_items great) 16 ≡ 1024
great_data = refl

-- and one more
greater_data : data_of (resolved_items greater) 16 ≡ 1025
greater_data = refl

-- three functions that are called: three trees for each and its call, one before, one behind
demo_3_trees : length (trees (resolved_items demo_3) 16) ≡ 11
demo_3_trees = refl

demo_3_data : data_of (resolved_items demo_3) 16 ≡ 27
demo_3_data = refl

-- the filter
filter_data : data_of (resolved_items filter) 16 ≡ 62
filter_data = refl

demo_3_control : control (resolved_items demo_3) 16 ≡ 4
demo_3_control = refl

-- copy, out, add, mul, jump, jumpcell, halt
demo_3_ops : ops (resolved_items demo_3) 16 ≡ (0 ∷ 4 ∷ 5 ∷ 7 ∷ 21 ∷ 22 ∷ 23 ∷ [])
demo_3_ops = refl

-- 21 operations; with a Cert for copy alone, seven copies and fourteen others
demo_3_bound : bound (λ op. true) (resolved_items demo_3) 16 ≡ 252
demo_3_bound = refl

demo_3_bound_by_copy : bound (λ op. op == 0) (resolved_items demo_3) 16 ≡ 1428
demo_3_bound_by_copy = refl

-- what is promised of each statement and of the cells
array_promised : is_promised 1 (lowered (resolved_items array) 16) 16 ≡ true
array_promised = refl

calls_promised : is_promised 1 (lowered (resolved_items short_cut) 16) 16 ≡ true
calls_promised = refl

-- both sides print the same
demo_3_means : outcome (resolved_items demo_3) 16 [] 100 ≡ record { out = ((pos 913) ∷ []); stop = stops.Ended }
demo_3_means = refl

demo_3_runs : statements.outcome (lowered (resolved_items demo_3) 16) 16 [] 100 ≡ record { out = ((pos 913) ∷ []); stop = stops.Ended }
demo_3_runs = refl

wrapped_runs : statements.outcome (lowered (resolved_items wrapped) 16) 16 (pos 32767 ∷ []) 100 ≡ record { out = pos 1 ∷ []; stop = stops.Ended }
wrapped_runs = refl

wrapped_goes_on : statements.outcome (lowered (resolved_items wrapped) 16) 16 (pos 32767 ∷ []) 1 ≡ record { out = []; stop = stops.Running }
wrapped_goes_on = refl

-- an array of more than 2^(N-1)-1 elements: no index outgrows it, and the second test is the first once more
no_index_outgrows : program_entries (resolved_items longest_array) 16 ≡
    Mark 0 ∷ entry.Set 40000 In ∷ entry.Set 40001 (Cell 40000) ∷ Branch rel.Lt (Cell 40001) (Const (pos 0)) 1 ∷ Branch rel.Lt (Cell 40001)
    (Const (pos 0)) 1 ∷ entry.Set 40001 (Load (node.Binary operator.Add (Cell 40001) (Base 0))) ∷ entry.Out (Cell 40001) ∷ Halt 0 ∷ Mark 1 ∷
    Halt 1 ∷ []
no_index_outgrows = refl

-- The statements of a program, and its cells.
use Rattle.std.specs.Prelude.{ℕ, ◌+◌, ◌==◌, ℤ, pos, negsuc, int_lt, Bool, true, false, not, List, [], ◌∷◌, ◌++◌, map, length, filter, flat_map, Option, Some, None, if◌then◌else◌}
use Rattle.std.specs.List.{list_any}
use Rattle.ir_core.specs.Operator.{wrap}
use Rattle.ir_run.specs.Node.{Node, Const, Label, Cell, In, Load, Binary}
use Rattle.ir_run.specs.Entry.{Entry, Branch, JumpCell, Jump, Mark, Halt, Homes, Listing}
use Rattle.ir_run.specs.Entry as entry
use Rattle.ir_run.specs.Value.{label_value}
use Rattle.ir_run.specs.Size.{most_nodes, constants_of_all}
use Rattle.c_tree.specs.Program.{Term, Command, Skip, Seq, Turn, Set, Store, Change, Print, Take, Invoke, If, IfElse, While, Do, For, Break, Continue, Return, Shape, size, sizes, Function, GlobalVariable, Program}
use Rattle.c_tree.specs.Meaning.{global_cells}
use Rattle.c_tree.specs.Code.{Aim, Value, When, Unless, AsValue, IfHolds, IfFails, one_if, cells, argument_cells, marks, argument_marks, Frame, Layout, cell_of, element_address, index_steps, call_steps, piece, passing}

-- ---- statements

-- how many cells the steps of a statement have
abbrev pub condition_cells : Option Term → ℕ
condition_cells None = 0
condition_cells (Some e) = cells false false e

abbrev pub value_cells : Option Term → ℕ
value_cells None = 0
value_cells (Some e) = cells false true e

abbrev pub command_cells : Command → ℕ
command_cells Skip = 0
command_cells (Seq x y) = command_cells x + command_cells y
command_cells (Turn x) = command_cells x
command_cells (Set p e) = cells false true e
command_cells (Store p n i e) = cells false true i + 1 + cells false true e
command_cells (Change p n i op e) = cells false true i + 2 + cells false true e
command_cells (Print e) = cells false true e
command_cells Take = 1
command_cells (Invoke f xs) = argument_cells false xs
command_cells (If e x) = cells false false e + command_cells x
command_cells (IfElse e x y) = cells false false e + command_cells x + command_cells y
command_cells (While e x) = cells false false e + command_cells x
command_cells (Do x e) = command_cells x + cells false false e
command_cells (For e step x) = condition_cells e + command_cells x + command_cells step
command_cells Break = 0
command_cells Continue = 0
command_cells (Return e) = value_cells e

-- how many labels it marks
abbrev pub condition_marks : Option Term → ℕ
condition_marks None = 0
condition_marks (Some e) = marks IfFails e

abbrev pub value_marks : Option Term → ℕ
value_marks None = 0
value_marks (Some e) = marks AsValue e

abbrev pub command_marks : Command → ℕ
command_marks Skip = 0
command_marks (Seq x y) = command_marks x + command_marks y
command_marks (Turn x) = command_marks x
command_marks (Set p e) = marks AsValue e
command_marks (Store p n i e) = marks AsValue i + marks AsValue e
command_marks (Change p n i op e) = marks AsValue i + marks AsValue e
command_marks (Print e) = marks AsValue e
command_marks Take = 0
command_marks (Invoke f xs) = argument_marks xs + 1
command_marks (If e x) = marks IfFails e + command_marks x + 1
command_marks (IfElse e x y) = marks IfFails e + command_marks x + 1 + command_marks y + 1
command_marks (While e x) = 1 + marks IfFails e + command_marks x + 1
command_marks (Do x e) = 1 + command_marks x + 1 + marks IfHolds e + 1
command_marks (For e step x) = 1 + condition_marks e + command_marks x + 1 + command_marks step + 1
command_marks Break = 0
command_marks Continue = 0
command_marks (Return e) = value_marks e

-- how a function is left: `main` halts, another puts its value into its result cell and goes where its return cell says
pub data Leaving : Type 0 where
  Halts : Leaving
  Returns : (result ret : ℕ) → Leaving

abbrev pub leave : Leaving → List Entry
leave Halts = Halt 0 ∷ []
leave (Returns result ret) = JumpCell ret ∷ []

abbrev pub leave_with : Leaving → Node → List Entry
leave_with Halts e = Halt 0 ∷ []
leave_with (Returns result ret) e = entry.Set result e ∷ JumpCell ret ∷ []

-- where `break` and `continue` go to
pub record Ends : Type 0 where
  pub broke : ℕ
  pub continued : ℕ

-- an absent condition gives nothing
abbrev pub condition_steps : Layout → (k l : ℕ) → Aim → Option Term → List Entry
condition_steps t k l aim None = []
condition_steps t k l aim (Some e) = (piece t k l false aim e).steps

abbrev pub return_steps : Layout → Leaving → (k l : ℕ) → Option Term → List Entry
return_steps t leaving k l None = leave leaving
return_steps t leaving k l (Some e) = let a = piece t k l false Value e in a.steps ++ leave_with leaving a.tree

-- The statements of a statement whose first step has cell k and whose first mark has label l. Labels are numbered in the order of their marks.
abbrev pub statements : Layout → Leaving → Ends → (k l : ℕ) → Command → List Entry
statements t leaving ends k l Skip = []
statements t leaving ends k l (Seq x y) =
    statements t leaving ends k l x ++ statements t leaving ends (k + command_cells x) (l + command_marks x) y
statements t leaving ends k l (Turn x) = statements t leaving ends k l x
statements t leaving ends k l (Set p e) =
    let a = piece t k l false Value e in a.steps ++ entry.Set (cell_of t p) a.tree ∷ []
statements t leaving ends k l (Store p n i e) =
    let s = k + cells false true i in
    let a = piece t (s + 1) (l + marks AsValue i) false Value e in
    index_steps t n (piece t k l false Value i) s ++ a.steps ++ entry.Store (element_address t p s) a.tree ∷ []
statements t leaving ends k l (Change p n i op e) =
    let s = k + cells false true i in
    let r = s + 1 in
    let a = piece t (r + 1) (l + marks AsValue i) false Value e in
    index_steps t n (piece t k l false Value i) s ++ entry.Set r (Load (element_address t p s)) ∷ a.steps
    ++ entry.Store (element_address t p s) (Binary op (Cell r) a.tree) ∷ []
statements t leaving ends k l (Print e) = let a = piece t k l false Value e in a.steps ++ entry.Out a.tree ∷ []
statements t leaving ends k l Take = entry.Set k In ∷ []
statements t leaving ends k l (Invoke f xs) = call_steps t f (passing t k l false xs) (l + argument_marks xs)
statements t leaving ends k l (If e x) =
    let inside = l + marks IfFails e in
    let past = inside + command_marks x in
    (piece t k l false (Unless past) e).steps ++ statements t leaving ends (k + cells false false e) inside x ++ Mark past ∷ []
statements t leaving ends k l (IfElse e x y) =
    let inside = l + marks IfFails e in
    let other = inside + command_marks x in
    let past = other + 1 + command_marks y in
    (piece t k l false (Unless other) e).steps ++ statements t leaving ends (k + cells false false e) inside x
    ++ Jump past ∷ Mark other ∷ statements t leaving ends (k + cells false false e + command_cells x) (other + 1) y ++ Mark past ∷ []
statements t leaving ends k l (While e x) =
    let inside = l + 1 + marks IfFails e in
    let past = inside + command_marks x in
    Mark l ∷ (piece t k (l + 1) false (Unless past) e).steps
    ++ statements t leaving (record { broke = past; continued = l }) (k + cells false false e) inside x ++ Jump l ∷ Mark past ∷ []
statements t leaving ends k l (Do x e) =
    let test = l + 1 + command_marks x in
    let past = test + 1 + marks IfHolds e in
    Mark l ∷ statements t leaving (record { broke = past; continued = test }) k (l + 1) x
    ++ Mark test ∷ (piece t (k + command_cells x) (test + 1) false (When l) e).steps ++ Mark past ∷ []
statements t leaving ends k l (For e step x) =
    let inside = l + 1 + condition_marks e in
    let next = inside + command_marks x in
    let past = next + 1 + command_marks step in
    Mark l ∷ condition_steps t k (l + 1) (Unless past) e
    ++ statements t leaving (record { broke = past; continued = next }) (k + condition_cells e) inside x
    ++ Mark next ∷ statements t leaving ends (k + condition_cells e + command_cells x) (next + 1) step ++ Jump l ∷ Mark past ∷ []
statements t leaving ends k l Break = Jump ends.broke ∷ []
statements t leaving ends k l Continue = Jump ends.continued ∷ []
statements t leaving ends k l (Return e) = return_steps t leaving k l e

-- ---- functions

-- the end of a body whose last statement is no `return`: as one, with 0 in a function that gives a value
abbrev pub end_steps : Function → Leaving → List Entry
end_steps f leaving = if f.returns then [] else if f.gives then leave_with leaving (Const (pos 0)) else leave leaving

-- a function's statements, from the cell of its first step and its label
abbrev pub function_steps : Layout → Leaving → Function → (k label : ℕ) → List Entry
function_steps t leaving f k label =
    Mark label ∷ statements t leaving (record { broke = 0; continued = 0 }) k (label + 1) f.body ++ end_steps f leaving

-- how many labels a function marks
abbrev pub function_marks : Function → ℕ
function_marks f = 1 + command_marks f.body

-- a function's parameters, locals and step cells
abbrev pub own_cells : Function → ℕ
own_cells f = sizes f.variables + command_cells f.body

-- with its result cell, where it gives a value, and its return cell
abbrev pub all_cells : Function → ℕ
all_cells f = own_cells f + one_if f.gives + 1

-- the frame of a function whose cells and labels begin here
abbrev pub frame : ℕ → ℕ → Function → Frame
frame cell label f = record { first = cell; result = cell + own_cells f; ret = cell + own_cells f + one_if f.gives; label = label }

abbrev pub frames : ℕ → ℕ → List Function → List Frame
frames cell label [] = []
frames cell label (f ∷ fs) = frame cell label f ∷ frames (cell + all_cells f) (label + function_marks f) fs

abbrev pub cells_of_all : List Function → ℕ
cells_of_all [] = 0
cells_of_all (f ∷ fs) = all_cells f + cells_of_all fs

abbrev pub marks_of_all : List Function → ℕ
marks_of_all [] = 0
marks_of_all (f ∷ fs) = function_marks f + marks_of_all fs

-- `main` has the first cells behind the globals' and the first labels
abbrev pub main_cells : Option Function → ℕ
main_cells None = 0
main_cells (Some f) = own_cells f

abbrev pub main_marks : Option Function → ℕ
main_marks None = 0
main_marks (Some f) = function_marks f

abbrev pub program_frames : Program → List Frame
program_frames p = frames (global_cells p + main_cells p.main) (main_marks p.main) p.functions

-- the trap's label is the last
abbrev pub trap_label : Program → ℕ
trap_label p = main_marks p.main + marks_of_all p.functions

-- the layout of a function whose cells begin here
abbrev pub layout : Program → ℕ → ℕ → Layout
layout p n base = record { bits = n; base = base; frames = program_frames p; trap = trap_label p }

abbrev pub main_steps : Program → ℕ → Option Function → List Entry
main_steps p n None = []
main_steps p n (Some f) = function_steps (layout p n (global_cells p)) Halts f (global_cells p + sizes f.variables) 0

abbrev pub other_steps : Program → ℕ → List Function → List Frame → List Entry
other_steps p n (f ∷ fs) (g ∷ gs) =
    function_steps (layout p n g.first) (Returns g.result g.ret) f (g.first + sizes f.variables) g.label ++ other_steps p n fs gs
other_steps p n _ _ = []

-- `main` comes first, then the other functions in the text's order
abbrev pub all_steps : Program → ℕ → List Entry
all_steps p n = main_steps p n p.main ++ other_steps p n p.functions (program_frames p)

-- the trap stands behind them where an index is tested
abbrev pub goes_to : ℕ → Entry → Bool
goes_to label (Branch r x y l) = l == label
goes_to label _ = false

abbrev pub trap_steps : Program → ℕ → List Entry
trap_steps p n =
    if list_any (goes_to (trap_label p)) (all_steps p n) then Mark (trap_label p) ∷ Halt 1 ∷ [] else []

abbrev pub program_entries : Program → ℕ → List Entry
program_entries p n = all_steps p n ++ trap_steps p n

-- ---- cells

-- a number among others in rising order, each once
abbrev pub inserted : ℤ → List ℤ → List ℤ
inserted z [] = z ∷ []
inserted z (y ∷ ys) = if int_lt z y then z ∷ y ∷ ys else if int_lt y z then y ∷ inserted z ys else y ∷ ys

abbrev pub in_order : List ℤ → List ℤ
in_order [] = []
in_order (z ∷ zs) = inserted z (in_order zs)

-- the arrays among variables whose cells begin here, by their first cells and lengths
abbrev pub arrays_among : ℕ → List Shape → List (ℕ × ℕ)
arrays_among cell [] = []
arrays_among cell (None ∷ vs) = arrays_among (cell + 1) vs
arrays_among cell (Some n ∷ vs) = (cell, n) ∷ arrays_among (cell + n) vs

abbrev pub arrays_of_functions : List Function → List Frame → List (ℕ × ℕ)
arrays_of_functions (f ∷ fs) (g ∷ gs) = arrays_among g.first f.variables ++ arrays_of_functions fs gs
arrays_of_functions _ _ = []

abbrev pub arrays_of_main : ℕ → Option Function → List (ℕ × ℕ)
arrays_of_main cell None = []
arrays_of_main cell (Some f) = arrays_among cell f.variables

abbrev pub arrays : Program → List (ℕ × ℕ)
arrays p =
    arrays_among 0 (map (λ v. v.shape) p.globals) ++ arrays_of_main (global_cells p) p.main ++ arrays_of_functions p.functions (program_frames p)

-- -1, 0, 1, each array's length and each number in a tree, wrapped, each once
abbrev pub constants : Program → ℕ → List ℤ
constants p n =
    in_order (negsuc 0 ∷ pos 0 ∷ pos 1 ∷ map (λ (cell, length). wrap n (pos length)) (arrays p) ++ constants_of_all (program_entries p n))

-- the labels that calls return to, in the order of their statements
abbrev pub returned_label : Entry → List ℕ
returned_label (entry.Set k (Label l)) = l ∷ []
returned_label _ = []

abbrev pub return_labels : Program → ℕ → List ℕ
return_labels p n = flat_map returned_label (program_entries p n)

-- each of these in a cell of its own, from here on
abbrev pub numbered : {X : Type 0} → ℕ → List X → List (ℕ × X)
numbered cell [] = []
numbered cell (x ∷ xs) = (cell, x) ∷ numbered (cell + 1) xs

-- where the constants, the bases, the return words and the temporaries begin
abbrev pub first_constant : Program → ℕ
first_constant p = global_cells p + main_cells p.main + cells_of_all p.functions

abbrev pub first_base : Program → ℕ → ℕ
first_base p n = first_constant p + length (constants p n)

abbrev pub first_return : Program → ℕ → ℕ
first_return p n = first_base p n + length (arrays p)

abbrev pub first_temporary : Program → ℕ → ℕ
first_temporary p n = first_return p n + length (return_labels p n)

abbrev pub homes : Program → ℕ → Homes
homes p n = record {
  consts = numbered (first_constant p) (constants p n);
  bases = numbered (first_base p n) (map (λ (cell, length). cell) (arrays p));
  labels = numbered (first_return p n) (return_labels p n);
  temps = first_temporary p n;
}

-- the initial values of the globals, those that are 0 left out
abbrev pub is_zero : ℤ → Bool
is_zero (pos z) = z == 0
is_zero (negsuc z) = false

abbrev pub initial_among : ℕ → List GlobalVariable → List (ℕ × ℤ)
initial_among cell [] = []
initial_among cell (v ∷ vs) = filter (λ (k, z). not (is_zero z)) (numbered cell v.initial) ++ initial_among (cell + size v.shape) vs

abbrev pub start : Program → ℕ → List (ℕ × ℤ)
start p n =
    map (λ (k, z). (k, wrap n z)) (initial_among 0 p.globals) ++ (homes p n).consts ++ map (λ (k, c). (k, wrap n (pos c))) (homes p n).bases
    ++ map (λ (k, l). (k, label_value l)) (homes p n).labels

-- eight temporaries, and one for each node of the largest tree
abbrev pub temporaries : Program → ℕ → ℕ
temporaries p n = 8 + most_nodes (program_entries p n)

abbrev pub lowered : Program → ℕ → Listing
lowered p n = record {
  entries = program_entries p n;
  cells = first_temporary p n + temporaries p n;
  start = start p n;
  arrays = arrays p;
  homes = homes p n;
}

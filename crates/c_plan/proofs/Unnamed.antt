-- The names of functions, and the numbers of their parameters, have no part in a program's statements and cells.
use Rattle.std.proofs.Common.{◌≡◌, refl, ap, ap₂, ◌∙◌, ℕ, suc, ◌+◌, max, ℤ, pos, negsuc, Bool, true, false, List, [], ◌∷◌, ◌++◌, map, length, filter, flat_map, Option, Some, None, option_map, arith, if◌then◌else◌}
use Rattle.std.specs.List.{list_any}
use Rattle.ir_core.specs.Operator.{wrap}
use Rattle.ir_run.specs.Entry.{Entry, Mark, Halt, Listing}
use Rattle.ir_run.specs.Value.{label_value}
use Rattle.ir_run.specs.Size.{most_nodes, constants_of_all}
use Rattle.c_tree.specs.Program.{sizes, Function, Program}
use Rattle.c_tree.specs.Meaning.{global_cells}
use Rattle.c_tree.specs.Code.{Frame, Layout}
use Rattle.c_tree.specs.Lowered.{Halts, Returns, function_steps, function_marks, all_cells, frame, frames, cells_of_all, marks_of_all, main_cells, main_marks, program_frames, trap_label, layout, main_steps, other_steps, all_steps, goes_to, trap_steps, program_entries, in_order, arrays_among, arrays_of_functions, arrays_of_main, arrays, constants, returned_label, return_labels, numbered, first_constant, initial_among, temporaries, lowered}
use Rattle.c_tree.specs.Counts.{own_cells_of_all, data_of}
use Rattle.c_counted.specs.Total.{functions_largest, main_largest, functions_numbers, main_numbers, functions_calls, main_calls, array_lengths, functions_lengths, main_lengths, program_largest, program_numbers, program_calls, program_lengths, gathered, counted}
use Rattle.c_plan.specs.Plan.{unnamed, unnamed_program}

-- ---- `main`

main_cells_unnamed : (m : Option Function) → main_cells (option_map unnamed m) ≡ main_cells m
main_cells_unnamed None = refl
main_cells_unnamed (Some f) = refl

main_marks_unnamed : (m : Option Function) → main_marks (option_map unnamed m) ≡ main_marks m
main_marks_unnamed None = refl
main_marks_unnamed (Some f) = refl

arrays_of_main_unnamed : (cell : ℕ) (m : Option Function) → arrays_of_main cell (option_map unnamed m) ≡ arrays_of_main cell m
arrays_of_main_unnamed cell None = refl
arrays_of_main_unnamed cell (Some f) = refl

main_largest_unnamed : (m : Option Function) → main_largest (option_map unnamed m) ≡ main_largest m
main_largest_unnamed None = refl
main_largest_unnamed (Some f) = refl

main_numbers_unnamed : (m : Option Function) → main_numbers (option_map unnamed m) ≡ main_numbers m
main_numbers_unnamed None = refl
main_numbers_unnamed (Some f) = refl

main_calls_unnamed : (m : Option Function) → main_calls (option_map unnamed m) ≡ main_calls m
main_calls_unnamed None = refl
main_calls_unnamed (Some f) = refl

main_lengths_unnamed : (m : Option Function) → main_lengths (option_map unnamed m) ≡ main_lengths m
main_lengths_unnamed None = refl
main_lengths_unnamed (Some f) = refl

-- ---- the other functions

frames_unnamed : (cell label : ℕ) (fs : List Function) → frames cell label (map unnamed fs) ≡ frames cell label fs
frames_unnamed cell label [] = refl
frames_unnamed cell label (f ∷ fs) = ap (λ gs. frame cell label f ∷ gs) (frames_unnamed (cell + all_cells f) (label + function_marks f) fs)

cells_unnamed : (fs : List Function) → cells_of_all (map unnamed fs) ≡ cells_of_all fs
cells_unnamed [] = refl
cells_unnamed (f ∷ fs) = ap (λ k. all_cells f + k) (cells_unnamed fs)

marks_unnamed : (fs : List Function) → marks_of_all (map unnamed fs) ≡ marks_of_all fs
marks_unnamed [] = refl
marks_unnamed (f ∷ fs) = ap (λ k. function_marks f + k) (marks_unnamed fs)

own_cells_unnamed : (fs : List Function) → own_cells_of_all (map unnamed fs) ≡ own_cells_of_all fs
own_cells_unnamed [] = refl
own_cells_unnamed (f ∷ fs) = rw (own_cells_unnamed fs) refl

length_unnamed : (fs : List Function) → length (map unnamed fs) ≡ length fs
length_unnamed [] = refl
length_unnamed (f ∷ fs) = ap suc (length_unnamed fs)

gives_step : (b : Bool) (x y : Function) (xs ys : List Function) → length xs ≡ length ys → length (if b then x ∷ xs else xs) ≡ length (if b then y ∷ ys else ys)
gives_step true x y xs ys is = ap suc is
gives_step false x y xs ys is = is

gives_unnamed : (fs : List Function) → length (filter (λ f. f.gives) (map unnamed fs)) ≡ length (filter (λ f. f.gives) fs)
gives_unnamed [] = refl
gives_unnamed (f ∷ fs) = gives_step f.gives (unnamed f) f (filter (λ g. g.gives) (map unnamed fs)) (filter (λ g. g.gives) fs) (gives_unnamed fs)

arrays_of_functions_unnamed : (fs : List Function) (gs : List Frame) → arrays_of_functions (map unnamed fs) gs ≡ arrays_of_functions fs gs
arrays_of_functions_unnamed [] gs = refl
arrays_of_functions_unnamed (f ∷ fs) [] = refl
arrays_of_functions_unnamed (f ∷ fs) (g ∷ gs) = ap (λ zs. arrays_among g.first f.variables ++ zs) (arrays_of_functions_unnamed fs gs)

largest_unnamed : (fs : List Function) → functions_largest (map unnamed fs) ≡ functions_largest fs
largest_unnamed [] = refl
largest_unnamed (f ∷ fs) = rw (largest_unnamed fs) refl

numbers_unnamed : (fs : List Function) → functions_numbers (map unnamed fs) ≡ functions_numbers fs
numbers_unnamed [] = refl
numbers_unnamed (f ∷ fs) = rw (numbers_unnamed fs) refl

calls_unnamed : (fs : List Function) → functions_calls (map unnamed fs) ≡ functions_calls fs
calls_unnamed [] = refl
calls_unnamed (f ∷ fs) = rw (calls_unnamed fs) refl

lengths_unnamed : (fs : List Function) → functions_lengths (map unnamed fs) ≡ functions_lengths fs
lengths_unnamed [] = refl
lengths_unnamed (f ∷ fs) = ap (λ zs. array_lengths f.variables ++ zs) (lengths_unnamed fs)

-- ---- statements

pub frames_are : (p : Program) → program_frames (unnamed_program p) ≡ program_frames p
frames_are p =
    frames_unnamed (global_cells p + main_cells (option_map unnamed p.main)) (main_marks (option_map unnamed p.main)) p.functions
    ∙ ap₂ (λ c l. frames (global_cells p + c) l p.functions) (main_cells_unnamed p.main) (main_marks_unnamed p.main)

pub trap_is : (p : Program) → trap_label (unnamed_program p) ≡ trap_label p
trap_is p = ap₂ (λ k l. k + l) (main_marks_unnamed p.main) (marks_unnamed p.functions)

pub layout_is : (p : Program) (n base : ℕ) → layout (unnamed_program p) n base ≡ layout p n base
layout_is p n base = ap₂ {A = List Frame} {B = ℕ} (λ fs t. record { bits = n; base = base; frames = fs; trap = t }) (frames_are p) (trap_is p)

main_steps_are : (p : Program) (n : ℕ) (m : Option Function) → main_steps (unnamed_program p) n (option_map unnamed m) ≡ main_steps p n m
main_steps_are p n None = refl
main_steps_are p n (Some f) = ap (λ t. function_steps t Halts f (global_cells p + sizes f.variables) 0) (layout_is p n (global_cells p))

other_steps_are : (p : Program) (n : ℕ) (fs : List Function) (gs : List Frame) → other_steps (unnamed_program p) n (map unnamed fs) gs ≡ other_steps p n fs gs
other_steps_are p n [] gs = refl
other_steps_are p n (f ∷ fs) [] = refl
other_steps_are p n (f ∷ fs) (g ∷ gs) =
    ap₂ {A = Layout} {B = List Entry}
    (λ t es. function_steps t (Returns g.result g.ret) f (g.first + sizes f.variables) g.label ++ es)
    (layout_is p n g.first)
    (other_steps_are p n fs gs)

all_steps_are : (p : Program) (n : ℕ) → all_steps (unnamed_program p) n ≡ all_steps p n
all_steps_are p n =
    ap₂ {A = List Entry} {B = List Entry} (λ es fs. es ++ fs)
    (main_steps_are p n p.main)
    (other_steps_are p n p.functions (program_frames (unnamed_program p)) ∙ ap (λ gs. other_steps p n p.functions gs) (frames_are p))

trap_steps_are : (p : Program) (n : ℕ) → trap_steps (unnamed_program p) n ≡ trap_steps p n
trap_steps_are p n =
    ap₂ {A = ℕ} {B = List Entry} (λ t es. if list_any (goes_to t) es then Mark t ∷ Halt 1 ∷ [] else []) (trap_is p) (all_steps_are p n)

pub entries_are : (p : Program) (n : ℕ) → program_entries (unnamed_program p) n ≡ program_entries p n
entries_are p n = ap₂ {A = List Entry} {B = List Entry} (λ es fs. es ++ fs) (all_steps_are p n) (trap_steps_are p n)

-- ---- cells

pub arrays_are : (p : Program) → arrays (unnamed_program p) ≡ arrays p
arrays_are p =
    ap₂ {A = List (ℕ × ℕ)} {B = List (ℕ × ℕ)} (λ bs cs. arrays_among 0 (map (λ v. v.shape) p.globals) ++ bs ++ cs)
    (arrays_of_main_unnamed (global_cells p) p.main)
    (arrays_of_functions_unnamed p.functions (program_frames (unnamed_program p)) ∙ ap (λ gs. arrays_of_functions p.functions gs) (frames_are p))

-- the constants, over the arrays and the statements
abbrev gathered_from : ℕ → List (ℕ × ℕ) → List Entry → List ℤ
gathered_from n xs es = in_order (negsuc 0 ∷ pos 0 ∷ pos 1 ∷ map (λ (cell, length). wrap n (pos length)) xs ++ constants_of_all es)

pub constants_are : (p : Program) (n : ℕ) → constants (unnamed_program p) n ≡ constants p n
constants_are p n = ap₂ {A = List (ℕ × ℕ)} {B = List Entry} (λ xs es. gathered_from n xs es) (arrays_are p) (entries_are p n)

pub first_constant_is : (p : Program) → first_constant (unnamed_program p) ≡ first_constant p
first_constant_is p = ap₂ (λ m c. global_cells p + m + c) (main_cells_unnamed p.main) (cells_unnamed p.functions)

pub return_labels_are : (p : Program) (n : ℕ) → return_labels (unnamed_program p) n ≡ return_labels p n
return_labels_are p n = ap (λ es. flat_map returned_label es) (entries_are p n)

pub temporaries_are : (p : Program) (n : ℕ) → temporaries (unnamed_program p) n ≡ temporaries p n
temporaries_are p n = ap (λ es. 8 + most_nodes es) (entries_are p n)

-- what is made of the statements, the arrays and the first cell behind the functions'
abbrev listing : Program → ℕ → (es : List Entry) (xs : List (ℕ × ℕ)) (cs : List ℤ) (first : ℕ) → Listing
listing p n es xs cs first =
    let ls = flat_map returned_label es in
    let consts = numbered first cs in
    let bases = numbered (first + length cs) (map (λ (cell, length). cell) xs) in
    let labels = numbered (first + length cs + length xs) ls in
    let temps = first + length cs + length xs + length ls in
    record {
      entries = es;
      cells = temps + (8 + most_nodes es);
      start =
          map (λ (k, z). (k, wrap n z)) (initial_among 0 p.globals) ++ consts ++ map (λ (k, c). (k, wrap n (pos c))) bases ++ map (λ (k, l). (k, label_value l)) labels;
      arrays = xs;
      homes = record { consts = consts; bases = bases; labels = labels; temps = temps };
    }

pub lowered_unnamed : (p : Program) (n : ℕ) → lowered (unnamed_program p) n ≡ lowered p n
lowered_unnamed p n =
    let q = unnamed_program p in
    let a : listing p n (program_entries q n) (arrays q) (constants q n) (first_constant q) ≡ listing p n (program_entries p n) (arrays q) (constants q n) (first_constant q) =
    ap (λ es. listing p n es (arrays q) (constants q n) (first_constant q)) (entries_are p n) in
    let b : listing p n (program_entries p n) (arrays q) (constants q n) (first_constant q) ≡ listing p n (program_entries p n) (arrays p) (constants q n) (first_constant q) =
    ap (λ xs. listing p n (program_entries p n) xs (constants q n) (first_constant q)) (arrays_are p) in
    let c : listing p n (program_entries p n) (arrays p) (constants q n) (first_constant q) ≡ listing p n (program_entries p n) (arrays p) (constants p n) (first_constant p) =
    ap₂ {A = List ℤ} {B = ℕ} (λ cs k. listing p n (program_entries p n) (arrays p) cs k) (constants_are p n) (first_constant_is p) in
    a ∙ b ∙ c

pub data_unnamed : (p : Program) (n : ℕ) → data_of (unnamed_program p) n ≡ data_of p n
data_unnamed p n =
    let q = unnamed_program p in
    let constants_long : length (constants q n) ≡ length (constants p n) = ap (λ zs. length zs) (constants_are p n) in
    let arrays_long : length (arrays q) ≡ length (arrays p) = ap (λ xs. length xs) (arrays_are p) in
    let labels_long : length (return_labels q n) ≡ length (return_labels p n) = ap (λ ls. length ls) (return_labels_are p n) in
    let globals : global_cells q ≡ global_cells p = refl in
    omega (arith, globals, main_cells_unnamed p.main, own_cells_unnamed p.functions, gives_unnamed p.functions, length_unnamed p.functions, constants_long, arrays_long, labels_long, temporaries_are p n)

lengths_are : (p : Program) → program_lengths (unnamed_program p) ≡ program_lengths p
lengths_are p =
    ap₂ {A = List ℕ} {B = List ℕ} (λ ms fs. array_lengths (map (λ v. v.shape) p.globals) ++ ms ++ fs) (main_lengths_unnamed p.main) (lengths_unnamed p.functions)

numbers_are : (p : Program) → program_numbers (unnamed_program p) ≡ program_numbers p
numbers_are p = ap₂ {A = List ℕ} {B = List ℕ} (λ ms fs. ms ++ fs) (main_numbers_unnamed p.main) (numbers_unnamed p.functions)

calls_are : (p : Program) → program_calls (unnamed_program p) ≡ program_calls p
calls_are p = ap₂ (λ m k. m + k) (main_calls_unnamed p.main) (calls_unnamed p.functions)

largest_is : (p : Program) → program_largest (unnamed_program p) ≡ program_largest p
largest_is p = ap₂ (λ m k. max m k) (main_largest_unnamed p.main) (largest_unnamed p.functions)

gathered_are : (p : Program) (n : ℕ) → gathered (unnamed_program p) n ≡ gathered p n
gathered_are p n =
    ap₂ {A = List ℕ} {B = List ℕ} (λ ks zs. negsuc 0 ∷ pos 0 ∷ pos 1 ∷ map (λ z. wrap n (pos z)) (ks ++ zs)) (lengths_are p) (numbers_are p)

pub counted_unnamed : (p : Program) (n : ℕ) → counted (unnamed_program p) n ≡ counted p n
counted_unnamed p n =
    let q = unnamed_program p in
    let constants_long : length (in_order (gathered q n)) ≡ length (in_order (gathered p n)) = ap (λ zs. length (in_order zs)) (gathered_are p n) in
    let arrays_long : length (program_lengths q) ≡ length (program_lengths p) = ap (λ zs. length zs) (lengths_are p) in
    let globals : global_cells q ≡ global_cells p = refl in
    omega (arith, globals, main_cells_unnamed p.main, own_cells_unnamed p.functions, gives_unnamed p.functions, length_unnamed p.functions, constants_long, arrays_long, calls_are p, largest_is p)

-- What is laid out stands for a program's functions, and the machine begins as the program does.
use Rattle.std.proofs.Common.{◌≡◌, refl, sym, ap, ◌∙◌, subst, ℕ, zero, suc, ◌+◌, ◌-◌, arith, ℤ, pos, Bool, true, false, not, List, [], ◌∷◌, ◌++◌, length, map, take, drop, replicate, get_or, length-append, Option, Some, None}
use Rattle.std.specs.Prelude.{slice_get, if◌then◌else◌, cond}
use Rattle.std.specs.List.{filter, flat_map}
use Rattle.std.proofs.lemmas.List.{length-take, length-replicate}
use Rattle.c_tree.specs.Program.{Function, GlobalVariable, Program, size, sizes}
use Rattle.c_tree.specs.Resolve.{named_main, first_of_all}
use Rattle.c_tree.specs.Meaning.{initial_cells, function_cells, main_functions, all_functions, global_cells, main_base, main_body, base_of}
use Rattle.c_flat.specs.declared.node.Node.{Node}
use Rattle.c_flat.specs.declared.function.Body.{Body}
use Rattle.c_flat.specs.Written.{OfCommand, as_command, written}
use Rattle.c_flat.specs.Listing.{outline, body_shown}
use Rattle.c_machine.specs.declared.code.Code.{Code}
use Rattle.c_machine.specs.declared.code.Entry.{Entry}
use Rattle.c_frames.specs.Frames.{Work, Run}
use Rattle.c_frames.specs.Steps.{begin}
use Rattle.c_machine.specs.declared.task.Pending.{Pending}
use Rattle.c_machine.specs.Stands.{frames_of, work_of, StandsFor, IsCode}
use Rattle.c_flat.specs.Sorts.{command_at}
use Rattle.std.proofs.lemmas.Grind.{flat_map-append}
use Rattle.c_tree.specs.declared.program.Global.{Global}
use Rattle.c_tree.specs.declared.program.Global.TheVariants as global
use Rattle.c_tree.specs.Items.{item}
use Rattle.c_tree.specs.Names.{gvar_shape, gvars}
use Rattle.c_tree.specs.Resolve.{global_variables, initials}
use Rattle.c_eval.specs.Laid.{entries_of, others_cells, main_of, main_cells, task_of, variable_cells, cells_of_global}

-- the functions other than `main`
abbrev pub others : List Function → List Function
others fs = filter (λ f. not (named_main f)) fs

abbrev pub first_main : List Function → Option Function
first_main fs = first_of_all (filter named_main fs)

-- these bodies were made of these functions
abbrev pub Same : List Node → List Body → List Function → Type 0
Same ns bs fs = map (body_shown ns) bs ≡ map outline fs

record Head (ns : List Node) (b : Body) (f : Function) : Type 0 where
  main : b.main ≡ named_main f
  body : written ns b.node ≡ OfCommand f.body
  cells : b.cells ≡ sizes f.variables

head_of : (ns : List Node) (b : Body) (f : Function) (bs : List Body) (fs : List Function) → Same ns (b ∷ bs) (f ∷ fs) → Head ns b f
head_of ns b f bs fs same =
    let h : body_shown ns b ≡ outline f = ap (λ xs. get_or xs 0 (outline f)) same in
    record { main = ap (λ o. o.0) h; body = ap (λ o. o.1.0) h; cells = ap (λ o. o.1.1) h }

tail_of : (ns : List Node) (b : Body) (f : Function) (bs : List Body) (fs : List Function) → Same ns (b ∷ bs) (f ∷ fs) → Same ns bs fs
tail_of ns b f bs fs same = ap (drop 1) same

-- ---- functions by their numbers

abbrev At : List Node → ℕ → Option Entry → Option Function → Type 0
At ns cell None None = Unit {0}
At ns cell (Some e) (Some f) = (command_at ns e.body ≡ f.body) × (cell ≡ e.base)
At ns cell None (Some f) = ⊥
At ns cell (Some e) None = ⊥

at_cell : (ns : List Node) (c d : ℕ) (e : Option Entry) (f : Option Function) → c ≡ d → At ns c e f → At ns d e f
at_cell ns c d e f is h = subst (λ k. At ns k e f) is h

abbrev Found : List Node → ℕ → List Entry → List Function → ℕ → Type 0
Found ns base es fs g = At ns (base + function_cells (take g fs)) (slice_get es g) (slice_get fs g)

pub entries_skip : (base : ℕ) (b : Body) (bs : List Body) → b.main ≡ true → entries_of base (b ∷ bs) ≡ entries_of base bs
entries_skip base b bs is = ap (λ m. if m then entries_of base bs else record { body = b.node; base = base } ∷ entries_of (base + b.cells) bs) is

pub entries_take : (base : ℕ) (b : Body) (bs : List Body) → b.main ≡ false → entries_of base (b ∷ bs) ≡ record { body = b.node; base = base } ∷ entries_of (base + b.cells) bs
entries_take base b bs is = ap (λ m. if m then entries_of base bs else record { body = b.node; base = base } ∷ entries_of (base + b.cells) bs) is

others_skip : (f : Function) (fs : List Function) → named_main f ≡ true → others (f ∷ fs) ≡ others fs
others_skip f fs is = ap (λ m. cond (not m) (f ∷ others fs) (others fs)) is

others_take : (f : Function) (fs : List Function) → named_main f ≡ false → others (f ∷ fs) ≡ f ∷ others fs
others_take f fs is = ap (λ m. cond (not m) (f ∷ others fs) (others fs)) is

found_first : (ns : List Node) (base : ℕ) (b : Body) (f : Function) (es : List Entry) (fs : List Function) → Head ns b f → ((g : ℕ) → Found ns (base + b.cells) es fs g) → (g : ℕ) → Found ns base (record { body = b.node; base = base } ∷ es) (f ∷ fs) g
found_first ns base b f es fs h rest zero = (ap as_command h.body, omega arith)
found_first ns base b f es fs h rest (suc g) = let c = h.cells in at_cell ns (base + b.cells + function_cells (take g fs)) (base + (sizes f.variables + function_cells (take g fs))) (slice_get es g) (slice_get fs g) (omega (arith, c)) (rest g)

found_by : (ns : List Node) (base : ℕ) (b : Body) (f : Function) (bs : List Body) (fs : List Function) → Head ns b f → ((base : ℕ) (g : ℕ) → Found ns base (entries_of base bs) (others fs) g) → (m : Bool) → b.main ≡ m → (g : ℕ) → Found ns base (entries_of base (b ∷ bs)) (others (f ∷ fs)) g
found_by ns base b f bs fs h rest true is g =
    subst (λ fs. Found ns base (entries_of base (b ∷ bs)) fs g) (sym (others_skip f fs (sym h.main ∙ is)))
    (subst (λ es. Found ns base es (others fs) g) (sym (entries_skip base b bs is)) (rest base g))
found_by ns base b f bs fs h rest false is g =
    subst (λ fs. Found ns base (entries_of base (b ∷ bs)) fs g) (sym (others_take f fs (sym h.main ∙ is)))
    (subst (λ es. Found ns base es (f ∷ others fs) g) (sym (entries_take base b bs is)) (found_first ns base b f (entries_of (base + b.cells) bs) (others fs) h (rest (base + b.cells)) g))

found : (ns : List Node) (bs : List Body) (fs : List Function) → Same ns bs fs → (base g : ℕ) → Found ns base (entries_of base bs) (others fs) g
found ns [] [] same base g = tt
found ns [] (f ∷ fs) same base g = absurd (cc)
found ns (b ∷ bs) [] same base g = absurd (cc)
found ns (b ∷ bs) (f ∷ fs) same base g = found_by ns base b f bs fs (head_of ns b f bs fs same) (found ns bs fs (tail_of ns b f bs fs same)) b.main refl g

stands : (ns : List Node) (p : Program) (g cell : ℕ) (e : Option Entry) (f : Option Function) → base_of p g ≡ cell → At ns cell e f → StandsFor ns p g e f
stands ns p g cell None None is h = tt
stands ns p g cell (Some e) (Some f) is h = (h.0, is ∙ h.1)
stands ns p g cell None (Some f) is h = absurd h
stands ns p g cell (Some e) None is h = absurd h

-- ---- `main`

abbrev pub Main : List Node → Option Body → Option Function → Type 0
Main ns None None = Unit {0}
Main ns (Some b) (Some f) = (written ns b.node ≡ OfCommand f.body) × (b.cells ≡ sizes f.variables)
Main ns None (Some f) = ⊥
Main ns (Some b) None = ⊥

main_by : (ns : List Node) (b : Body) (f : Function) (bs : List Body) (fs : List Function) → Head ns b f → Main ns (main_of bs) (first_main fs) → (m : Bool) → b.main ≡ m → Main ns (main_of (b ∷ bs)) (first_main (f ∷ fs))
main_by ns b f bs fs h rest true is =
    let one : main_of (b ∷ bs) ≡ Some b = ap (λ m. if m then Some b else main_of bs) is in
    let other : first_main (f ∷ fs) ≡ Some f = ap (λ m. first_of_all (cond m (f ∷ filter named_main fs) (filter named_main fs))) (sym h.main ∙ is) in
    subst (λ x. Main ns (main_of (b ∷ bs)) x) (sym other) (subst (λ x. Main ns x (Some f)) (sym one) (h.body, h.cells))
main_by ns b f bs fs h rest false is =
    let one : main_of (b ∷ bs) ≡ main_of bs = ap (λ m. if m then Some b else main_of bs) is in
    let other : first_main (f ∷ fs) ≡ first_main fs = ap (λ m. first_of_all (cond m (f ∷ filter named_main fs) (filter named_main fs))) (sym h.main ∙ is) in
    subst (λ x. Main ns (main_of (b ∷ bs)) x) (sym other) (subst (λ x. Main ns x (first_main fs)) (sym one) rest)

pub main_is : (ns : List Node) (bs : List Body) (fs : List Function) → Same ns bs fs → Main ns (main_of bs) (first_main fs)
main_is ns [] [] same = tt
main_is ns [] (f ∷ fs) same = absurd (cc)
main_is ns (b ∷ bs) [] same = absurd (cc)
main_is ns (b ∷ bs) (f ∷ fs) same = main_by ns b f bs fs (head_of ns b f bs fs same) (main_is ns bs fs (tail_of ns b f bs fs same)) b.main refl

pub main_cells_are : (ns : List Node) (b : Option Body) (f : Option Function) → Main ns b f → main_cells b ≡ function_cells (main_functions f)
main_cells_are ns None None h = refl
main_cells_are ns (Some b) (Some f) h = let e = h.1 in omega (arith, e)
main_cells_are ns None (Some f) h = absurd h
main_cells_are ns (Some b) None h = absurd h

-- ---- cells

others_by : (ns : List Node) (b : Body) (f : Function) (bs : List Body) (fs : List Function) → Head ns b f → others_cells bs ≡ function_cells (others fs) → (m : Bool) → b.main ≡ m → others_cells (b ∷ bs) ≡ function_cells (others (f ∷ fs))
others_by ns b f bs fs h rest true is =
    ap (λ m. if m then others_cells bs else b.cells + others_cells bs) is ∙ rest ∙ ap function_cells (sym (others_skip f fs (sym h.main ∙ is)))
others_by ns b f bs fs h rest false is =
    let c = h.cells in
    let e : b.cells + others_cells bs ≡ sizes f.variables + function_cells (others fs) = omega (arith, c, rest) in
    ap (λ m. if m then others_cells bs else b.cells + others_cells bs) is ∙ e ∙ ap function_cells (sym (others_take f fs (sym h.main ∙ is)))

pub others_are : (ns : List Node) (bs : List Body) (fs : List Function) → Same ns bs fs → others_cells bs ≡ function_cells (others fs)
others_are ns [] [] same = refl
others_are ns [] (f ∷ fs) same = absurd (cc)
others_are ns (b ∷ bs) [] same = absurd (cc)
others_are ns (b ∷ bs) (f ∷ fs) same = others_by ns b f bs fs (head_of ns b f bs fs same) (others_are ns bs fs (tail_of ns b f bs fs same)) b.main refl

pub cells_append : (fs gs : List Function) → function_cells (fs ++ gs) ≡ function_cells fs + function_cells gs
cells_append [] gs = omega arith
cells_append (f ∷ fs) gs = let e = cells_append fs gs in omega (arith, e)

cells_one : (v : GlobalVariable) → length (initial_cells v) ≡ size v.shape
cells_one v = omega (arith, length-take (size v.shape) (v.initial ++ replicate (size v.shape - length v.initial) (pos 0)), length-append v.initial (replicate (size v.shape - length v.initial) (pos 0)), length-replicate (size v.shape - length v.initial) (pos 0))

pub cells_all : (vs : List GlobalVariable) → length (flat_map initial_cells vs) ≡ sizes (map (λ v. v.shape) vs)
cells_all [] = refl
cells_all (v ∷ vs) = omega (arith, length-append (initial_cells v) (flat_map initial_cells vs), cells_one v, cells_all vs)

-- ---- the whole

pub code_is : (c : Code) (p : Program) (bs : List Body) (fs : List Function) (base : ℕ) → Same c.nodes.items bs fs → p.functions ≡ others fs → base ≡ global_cells p + function_cells (main_functions p.main) → c.functions.items ≡ entries_of base bs → IsCode c p
code_is c p bs fs base same functions at is = record {
  functions = λ g.
      let f : Found c.nodes.items base (entries_of base bs) p.functions g = subst (λ fs. Found c.nodes.items base (entries_of base bs) fs g) (sym functions) (found c.nodes.items bs fs same base g) in
      let h : Found c.nodes.items base c.functions.items p.functions g = subst (λ es. Found c.nodes.items base es p.functions g) (sym is) f in
      stands c.nodes.items p g (base + function_cells (take g p.functions)) (slice_get c.functions.items g) (slice_get p.functions g) (omega (arith, at)) h;
}

flat_map_map : {A B : Type 0} (f : B → List ℤ) (g : A → B) (xs : List A) → flat_map f (map g xs) ≡ flat_map (λ x. f (g x)) xs
flat_map_map f g [] = refl
flat_map_map f g (x ∷ xs) = ap (λ l. f (g x) ++ l) (flat_map_map f g xs)

-- the cells of the globals, as the program has them
pub cells_of_globals : (gs : List Global) → flat_map cells_of_global gs ≡ flat_map initial_cells (global_variables (map item gs))
cells_of_globals [] = refl
cells_of_globals (global.Vars v ∷ gs) =
    ap (λ l. flat_map variable_cells (gvars v) ++ l) (cells_of_globals gs)
    ∙ ap (λ l. l ++ flat_map initial_cells (global_variables (map item gs))) (sym (flat_map_map initial_cells (λ x. record { shape = gvar_shape x; initial = initials x }) (gvars v)))
    ∙ sym (flat_map-append initial_cells (map (λ x. record { shape = gvar_shape x; initial = initials x }) (gvars v)) (global_variables (map item gs)))
cells_of_globals (global.Function f ∷ gs) = cells_of_globals gs

pub work_is : (p : Program) (n : ℕ) (ns : List Node) (zs : List ℤ) (b : Option Body) (f : Option Function) → Main ns b f → work_of p n ns zs (task_of b) ≡ Run (main_body f)
work_is p n ns zs None None h = refl
work_is p n ns zs (Some b) (Some f) h = ap (λ w. Run (as_command w)) h.0
work_is p n ns zs None (Some f) h = absurd h
work_is p n ns zs (Some b) None h = absurd h

pub begins_so : (p : Program) (n : ℕ) (ns : List Node) (input : List ℤ) (work : Work p n) (base turns : ℕ) (frames : List Pending) (memory : List ℤ) → work ≡ Run (main_body p.main) → base ≡ main_base p → frames ≡ [] → memory ≡ flat_map initial_cells p.globals ++ replicate (function_cells (all_functions p)) (pos 0)
    → record { work = work; place = record { base = base; depth = turns }; frames = frames_of ns frames; state = record { memory = memory; input = input; out = []; turns = turns } } ≡ begin p n input turns
begins_so p n ns input work base turns frames memory w b k m =
    let x = Run (main_body p.main) in
    ap (λ v. record { work = v; place = record { base = base; depth = turns }; frames = frames_of ns frames; state = record { memory = memory; input = input; out = []; turns = turns } }) w
    ∙ ap (λ v. record { work = x; place = record { base = v; depth = turns }; frames = frames_of ns frames; state = record { memory = memory; input = input; out = []; turns = turns } }) b
    ∙ ap (λ v. record { work = x; place = record { base = main_base p; depth = turns }; frames = frames_of ns v; state = record { memory = memory; input = input; out = []; turns = turns } }) k
    ∙ ap (λ v. record { work = x; place = record { base = main_base p; depth = turns }; frames = []; state = record { memory = v; input = input; out = []; turns = turns } }) m

pub base_is : (gs : List Global) (base : ℕ) → base ≡ length (flat_map cells_of_global gs) → base ≡ sizes (map (λ v. v.shape) (global_variables (map item gs)))
base_is gs base is = is ∙ ap length (cells_of_globals gs) ∙ cells_all (global_variables (map item gs))

pub function_count : (ns : List Node) (bs : List Body) (fs : List Function) (base end : ℕ) → Same ns bs fs → end ≡ base + main_cells (main_of bs) + others_cells bs → end - base ≡ function_cells (main_functions (first_main fs) ++ others fs)
function_count ns bs fs base end same is =
    let a = main_cells_are ns (main_of bs) (first_main fs) (main_is ns bs fs same) in
    let b = others_are ns bs fs same in
    let c = cells_append (main_functions (first_main fs)) (others fs) in
    omega (arith, is, a, b, c)

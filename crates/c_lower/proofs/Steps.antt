-- The statements of a program are those of `main`, of the other functions, and the trap.
use Rattle.std.proofs.Common.{◌≡◌, refl, ap, ◌∙◌, ℕ, ◌+◌, List, [], ◌∷◌, ◌++◌, Option, Some, None}
use Rattle.std.specs.Prelude.{if◌then◌else◌}
use Rattle.std.specs.List.{list_any}
use Rattle.ir_run.specs.Entry.{Entry, Mark, Halt}
use Rattle.c_tree.specs.Program.{Function, Program, sizes}
use Rattle.c_tree.specs.Meaning.{global_cells}
use Rattle.c_tree.specs.Code.{Frame, Layout}
use Rattle.c_tree.specs.Lowered.{Returns, function_steps, layout, goes_to, main_steps, other_steps, all_steps, program_entries, program_frames, trap_label}
use Rattle.c_lower.specs.Steps.{steps_of_main, steps_of_others}

-- a layout by its parts
pub layout_is : (p : Program) (n globals trap : ℕ) (frames : List Frame) → globals ≡ global_cells p → frames ≡ program_frames p → trap ≡ trap_label p
    → record { bits = n; base = globals; frames = frames; trap = trap } ≡ layout p n (global_cells p)
layout_is p n globals trap frames base_is frames_are trap_is =
    ap (λ k. record { bits = n; base = k; frames = frames; trap = trap }) base_is
    ∙ ap (λ fs. record { bits = n; base = global_cells p; frames = fs; trap = trap }) frames_are
    ∙ ap (λ l. record { bits = n; base = global_cells p; frames = program_frames p; trap = l }) trap_is

main_is : (p : Program) (n : ℕ) (m : Option Function) → steps_of_main (layout p n (global_cells p)) m ≡ main_steps p n m
main_is p n None = refl
main_is p n (Some f) = refl

others_are : (p : Program) (n base : ℕ) (fs : List Function) (gs : List Frame) → steps_of_others (layout p n base) fs gs ≡ other_steps p n fs gs
others_are p n base [] gs = refl
others_are p n base (f ∷ fs) [] = refl
others_are p n base (f ∷ fs) (g ∷ gs) =
    ap (λ l. function_steps (layout p n g.first) (Returns g.result g.ret) f (g.first + sizes f.variables) g.label ++ l) (others_are p n base fs gs)

-- a statement goes to the trap, and it stands behind
abbrev with_trap : ℕ → List Entry → List Entry
with_trap trap es = es ++ (if list_any (goes_to trap) es then Mark trap ∷ Halt 1 ∷ [] else [])

-- `main`, the others and the trap make the whole
pub entries_are : (p : Program) (n : ℕ) (t : Layout) (first second whole : List Entry) → t ≡ layout p n (global_cells p)
    → first ≡ steps_of_main t p.main → second ≡ first ++ steps_of_others t p.functions t.frames
    → whole ≡ second ++ (if list_any (goes_to t.trap) second then Mark t.trap ∷ Halt 1 ∷ [] else []) → whole ≡ program_entries p n
entries_are p n t first second whole t_is first_is second_is whole_is =
    let main : first ≡ main_steps p n p.main = first_is ∙ ap (λ l. steps_of_main l p.main) t_is ∙ main_is p n p.main in
    let two : second ≡ all_steps p n =
    second_is ∙ ap (λ es. es ++ steps_of_others t p.functions t.frames) main
    ∙ ap (λ l. main_steps p n p.main ++ steps_of_others l p.functions l.frames) t_is
    ∙ ap (λ es. main_steps p n p.main ++ es) (others_are p n (global_cells p) p.functions (program_frames p)) in
    whole_is ∙ ap (λ es. with_trap t.trap es) two ∙ ap (λ l. with_trap l.trap (all_steps p n)) t_is

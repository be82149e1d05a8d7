-- The constants in the statements of a program, by weights.
use Rattle.std.proofs.Common.{◌≡◌, refl, sym, subst, ap₂, ◌∙◌, ℕ, suc, ◌+◌, max, ℤ, pos, Bool, true, false, List, [], ◌∷◌, ◌++◌, map, Some, slice_get, arith, if◌then◌else◌}
use Rattle.std.specs.List.{list_any}
use Rattle.ir_run.specs.Entry.{Mark, Halt}
use Rattle.ir_run.specs.Size.{constants_of_all}
use Rattle.c_lowered.specs.Sound.{SoundFunction, Sound, world}
use Rattle.c_tree.specs.Program.{sizes, Function, Program}
use Rattle.c_tree.specs.Meaning.{global_cells}
use Rattle.c_tree.specs.Lowered.{Leaving, Halts, Returns, layout, function_steps, main_steps, frame, frames, other_steps, all_cells, function_marks, goes_to, trap_label, all_steps, trap_steps, program_frames, program_entries}
use Rattle.c_counted.specs.Counted.{command_numbers}
use Rattle.c_counted.specs.Total.{array_lengths, functions_lengths, main_lengths, program_lengths, main_numbers, functions_numbers, program_numbers}
use Rattle.c_counted.proofs.Calls.{halts}
use Rattle.c_counted.proofs.Weights.{greatest, greatest_append, worth, weigh, weigh_is, weigh_append}
use Rattle.c_counted.proofs.Numbers.{function_weight}
use Rattle.c_counted.proofs.Lengths.{seen_light}

module _ (w : ℤ → ℕ) (zero_light : w (pos 0) ≡ 0) (one_light : w (pos 1) ≡ 0) (p : Program) (n : ℕ) (globals_light : greatest (worth w n) (array_lengths (map (λ v. v.shape) p.globals)) ≡ 0) (rank : ℕ → ℕ) where
  body_weight : (f : Function) (own : ℕ) (is_main : Bool) → SoundFunction (world p n rank own is_main f) f → greatest (worth w n) (array_lengths f.variables) ≡ 0 → (base : ℕ) (leaving : Leaving) (k label : ℕ) → weigh w (function_steps (layout p n base) leaving f k label) ≡ greatest (worth w n) (command_numbers (halts leaving) f.body)
  body_weight f own is_main sound light base leaving k label =
      function_weight w (layout p n base) zero_light one_light (world p n rank own is_main f) (seen_light w p n rank own is_main f globals_light light) f sound leaving k label

  main_weight : (f : Function) (own : ℕ) → SoundFunction (world p n rank own true f) f → greatest (worth w n) (array_lengths f.variables) ≡ 0 → weigh w (main_steps p n (Some f)) ≡ greatest (worth w n) (main_numbers (Some f))
  main_weight f own sound light = body_weight f own true sound light (global_cells p) Halts (global_cells p + sizes f.variables) 0

  others_weight : (fs : List Function) → ((g : ℕ) (f : Function) → slice_get fs g ≡ Some f → (own : ℕ) × SoundFunction (world p n rank own false f) f) → greatest (worth w n) (functions_lengths fs) ≡ 0 → (cell label : ℕ) → weigh w (other_steps p n fs (frames cell label fs)) ≡ greatest (worth w n) (functions_numbers fs)
  others_weight [] each light cell label = refl
  others_weight (f ∷ fs) each light cell label =
      let g = frame cell label f in
      let parts = greatest_append (worth w n) (array_lengths f.variables) (functions_lengths fs) in
      let sound = each 0 f refl in
      weigh_append w (function_steps (layout p n g.first) (Returns g.result g.ret) f (g.first + sizes f.variables) g.label) (other_steps p n fs (frames (cell + all_cells f) (label + function_marks f) fs))
      ∙ ap₂ max
      (body_weight f sound.0 false sound.1 (omega (arith, parts, light)) g.first (Returns g.result g.ret) (g.first + sizes f.variables) g.label)
      (others_weight fs (λ i h is. each (suc i) h is) (omega (arith, parts, light)) (cell + all_cells f) (label + function_marks f))
      ∙ sym (greatest_append (worth w n) (command_numbers false f.body) (functions_numbers fs))

trap_weight : (w : ℤ → ℕ) (p : Program) (n : ℕ) → weigh w (trap_steps p n) ≡ 0
trap_weight w p n = by (list_any (goes_to (trap_label p)) (all_steps p n))
  where
    by : (b : Bool) → weigh w (if b then Mark (trap_label p) ∷ Halt 1 ∷ [] else []) ≡ 0
    by true = refl
    by false = refl

-- where neither 0, 1 nor any array's length weighs anything, the heaviest constant of the statements weighs as much as the heaviest number that is
-- gathered from the text
pub program_weight : (w : ℤ → ℕ) (p : Program) (n : ℕ) → Sound p n → w (pos 0) ≡ 0 → w (pos 1) ≡ 0 → greatest (worth w n) (program_lengths p) ≡ 0 → greatest w (constants_of_all (program_entries p n)) ≡ greatest (worth w n) (program_numbers p)
program_weight w p n s zero_light one_light light =
    let globals = array_lengths (map (λ v. v.shape) p.globals) in
    let first = greatest_append (worth w n) (globals ++ main_lengths p.main) (functions_lengths p.functions) in
    let second = greatest_append (worth w n) globals (main_lengths p.main) in
    let globals_light : greatest (worth w n) globals ≡ 0 = omega (arith, light, first, second) in
    let main_light : greatest (worth w n) (main_lengths p.main) ≡ 0 = omega (arith, light, first, second) in
    let others_light : greatest (worth w n) (functions_lengths p.functions) ≡ 0 = omega (arith, light, first, second) in
    let own_light : greatest (worth w n) (array_lengths s.main.variables) ≡ 0 = subst (λ m. greatest (worth w n) (main_lengths m) ≡ 0) s.main_is main_light in
    let main : weigh w (main_steps p n p.main) ≡ greatest (worth w n) (main_numbers p.main) =
    subst (λ m. weigh w (main_steps p n m) ≡ greatest (worth w n) (main_numbers m)) (sym s.main_is)
    (main_weight w zero_light one_light p n globals_light s.rank s.main s.top s.main_sound own_light) in
    let others : weigh w (other_steps p n p.functions (program_frames p)) ≡ greatest (worth w n) (functions_numbers p.functions) =
    others_weight w zero_light one_light p n globals_light s.rank p.functions (λ g f is. (s.rank g, s.sound g f is)) others_light _ _ in
    let all = weigh_append w (all_steps p n) (trap_steps p n) in
    let steps = weigh_append w (main_steps p n p.main) (other_steps p n p.functions (program_frames p)) in
    let numbers = greatest_append (worth w n) (main_numbers p.main) (functions_numbers p.functions) in
    weigh_is w (program_entries p n) ∙ omega (arith, all, steps, main, others, trap_weight w p n, numbers)

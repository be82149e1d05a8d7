-- Global variables without faults are sound.
use Rattle.std.proofs.Common.{◌≡◌, refl, ap, ◌∙◌, subst, ℕ, zero, suc, ◌-◌, ◌^◌, ◌≤◌, arith, true, List, [], ◌∷◌, ◌++◌, Some, None, length, map, drop, ℤ, pos, neg_ℤ, ◌≤ℤ◌, ◌<ℤ◌}
use Rattle.std.specs.Prelude.{◌&&◌, int_le, int_lt, flat_map}
use Rattle.std.specs.List.{AllByRecursion}
use Rattle.std.proofs.lemmas.Int.{ints}
use Rattle.std.proofs.lemmas.List.Elements.{All-from_recursion}
use Rattle.ir_core.specs.Inputs.{IsNumber}
use Rattle.ir_run.specs.Shifts.{IsCellWidth}
use Rattle.c_tree.specs.declared.program.SNum.{SNum}
use Rattle.c_tree.specs.declared.program.GVar.{GVar}
use Rattle.c_tree.specs.declared.program.GVar.TheVariants as gvar
use Rattle.c_tree.specs.Items.{Item, Variables, Defines}
use Rattle.c_tree.specs.Names.{Names, gvar_shape, gvars, behind_gvar, behind_global}
use Rattle.c_tree.specs.Faults.{BadNumber, value_place, initial_faults, too_many_faults, initials_faults, declared_faults, length_faults, gvar_faults, gvars_faults, global_faults, globals_faults}
use Rattle.c_tree.specs.Resolve.{initial, initials, global_variables}
use Rattle.c_tree.specs.Program.{Shape, GlobalVariable}
use Rattle.c_lowered.specs.Sound.{IsShape, SoundGlobal}
use Rattle.c_lowered.proofs.Numbers.{range_number}
use Rattle.c_sound.proofs.Lists.{no_left, no_right, kept, and_left, and_right, each_of_both}
use Rattle.c_sound.proofs.Bodies.{length_fits}

-- a global variable with its initial values
abbrev pub resolved_global : GVar → GlobalVariable
resolved_global x = record { shape = gvar_shape x; initial = initials x }

-- the shapes of global variables, in the text's order
abbrev pub global_shapes : List Item → List Shape
global_shapes [] = []
global_shapes (Variables v ∷ gs) = map gvar_shape (gvars v) ++ global_shapes gs
global_shapes (Defines f ∷ gs) = global_shapes gs

shapes_of_some : (vs : List GVar) (rest : List GlobalVariable) → map (λ v. v.shape) (map resolved_global vs ++ rest) ≡ map gvar_shape vs ++ map (λ v. v.shape) rest
shapes_of_some [] rest = refl
shapes_of_some (v ∷ vs) rest = ap (λ t. gvar_shape v ∷ t) (shapes_of_some vs rest)

-- they are those of the resolved ones
pub shapes_of_all : (gs : List Item) → map (λ v. v.shape) (global_variables gs) ≡ global_shapes gs
shapes_of_all [] = refl
shapes_of_all (Variables v ∷ gs) = shapes_of_some (gvars v) (global_variables gs) ∙ ap (λ t. map gvar_shape (gvars v) ++ t) (shapes_of_all gs)
shapes_of_all (Defines f ∷ gs) = shapes_of_all gs

below : (x y : ℤ) → int_lt x y ≡ true → x <ℤ y
below x y h = omega (arith, ints, h)

no_more : (x y : ℤ) → int_le x y ≡ true → x ≤ℤ y
no_more x y h = omega (arith, ints, h)

-- an initial value
initial_number : (n : ℕ) (z : SNum) → IsCellWidth n → initial_faults n z ≡ [] → IsNumber n (initial z)
initial_number n z wide h =
    let low = int_le (neg_ℤ (pos (2 ^ (n - 1)))) (initial z) in
    let high = int_lt (initial z) (pos (2 ^ (n - 1))) in
    let both = kept (low && high) (BadNumber (value_place z.minus z.number)) h in
    range_number n (initial z) wide (no_more (neg_ℤ (pos (2 ^ (n - 1)))) (initial z) (and_left low high both)) (below (initial z) (pos (2 ^ (n - 1))) (and_right low high both))

further_numbers : (n : ℕ) (ys : List (ℕ × SNum)) → IsCellWidth n → flat_map (initial_faults n) (map (λ (comma, v). v) ys) ≡ [] → AllByRecursion (IsNumber n) (map (λ (comma, x). initial x) ys)
further_numbers n [] wide h = tt
further_numbers n (y ∷ ys) wide h = (
  initial_number n y.1 wide (no_left (initial_faults n y.1) (flat_map (initial_faults n) (map (λ (comma, v). v) ys)) h),
  further_numbers n ys wide (no_right (initial_faults n y.1) (flat_map (initial_faults n) (map (λ (comma, v). v) ys)) h),
)

room_for : (k : ℕ) (zs : List SNum) → too_many_faults (drop k zs) ≡ [] → length zs ≤ k
room_for zero [] h = omega arith
room_for zero (z ∷ zs) h = absurd cc
room_for (suc k) [] h = omega arith
room_for (suc k) (z ∷ zs) h = let r = room_for k zs h in omega (arith, r)

same_length : (ys : List (ℕ × SNum)) → length (map (λ (comma, x). initial x) ys) ≡ length (map (λ (comma, v). v) ys)
same_length [] = refl
same_length (y ∷ ys) = ap suc (same_length ys)

-- a global variable without faults
pub gvar_sound : (n : ℕ) (s : Names) (v : GVar) → IsCellWidth n → gvar_faults n s v ≡ [] → SoundGlobal n (resolved_global v)
gvar_sound n s (gvar.Scalar x None) wide h = record { shape = tt; room = omega arith; numbers = All-from_recursion (IsNumber n) [] tt }
gvar_sound n s (gvar.Scalar x (Some (at, z))) wide h =
    let number = initial_number n z wide (no_right (declared_faults s x) (initial_faults n z) h) in
    record { shape = tt; room = omega arith; numbers = All-from_recursion (IsNumber n) (initial z ∷ []) (number, tt) }
gvar_sound n s (gvar.Array x p z q None) wide h =
    record { shape = length_fits z (no_right (declared_faults s x) (length_faults z) h); room = omega arith; numbers = All-from_recursion (IsNumber n) [] tt }
gvar_sound n s (gvar.Array x p z q (Some (at, l, y, ys, r))) wide h =
    let zs = y ∷ map (λ (comma, v). v) ys in
    let front = no_left (declared_faults s x ++ length_faults z) (initials_faults n z.value zs) h in
    let back = no_right (declared_faults s x ++ length_faults z) (initials_faults n z.value zs) h in
    let values = no_left (flat_map (initial_faults n) zs) (too_many_faults (drop z.value zs)) back in
    let fits = room_for z.value zs (no_right (flat_map (initial_faults n) zs) (too_many_faults (drop z.value zs)) back) in
    let same = same_length ys in
    let rest = flat_map (initial_faults n) (map (λ (comma, v). v) ys) in
    record {
      shape = length_fits z (no_right (declared_faults s x) (length_faults z) front);
      room = omega (arith, fits, same);
      numbers =
          All-from_recursion (IsNumber n) (initial y ∷ map (λ (comma, x). initial x) ys)
          (initial_number n y wide (no_left (initial_faults n y) rest values), further_numbers n ys wide (no_right (initial_faults n y) rest values));
    }

gvars_sound : (n : ℕ) (s : Names) (vs : List GVar) → IsCellWidth n → gvars_faults n s vs ≡ [] → AllByRecursion (SoundGlobal n) (map resolved_global vs)
gvars_sound n s [] wide h = tt
gvars_sound n s (v ∷ vs) wide h = (
  gvar_sound n s v wide (no_left (gvar_faults n s v) (gvars_faults n (behind_gvar s v) vs) h),
  gvars_sound n (behind_gvar s v) vs wide (no_right (gvar_faults n s v) (gvars_faults n (behind_gvar s v) vs) h),
)

-- all global variables
pub globals_sound : (n : ℕ) (s : Names) (gs : List Item) → IsCellWidth n → globals_faults n s gs ≡ [] → AllByRecursion (SoundGlobal n) (global_variables gs)
globals_sound n s [] wide h = tt
globals_sound n s (Variables v ∷ gs) wide h =
    let front = global_faults n s (Variables v) in
    let back = globals_faults n (behind_global s (Variables v)) gs in
    each_of_both (SoundGlobal n) (map resolved_global (gvars v)) (global_variables gs) (gvars_sound n s (gvars v) wide (no_left front back h))
    (globals_sound n (behind_global s (Variables v)) gs wide (no_right front back h))
globals_sound n s (Defines f ∷ gs) wide h =
    globals_sound n (behind_global s (Defines f)) gs wide (no_right (global_faults n s (Defines f)) (globals_faults n (behind_global s (Defines f)) gs) h)

shapes_fit : (n : ℕ) (vs : List GlobalVariable) → AllByRecursion (SoundGlobal n) vs → AllByRecursion IsShape (map (λ v. v.shape) vs)
shapes_fit n [] h = tt
shapes_fit n (v ∷ vs) h = (h.0.shape, shapes_fit n vs h.1)

-- and their shapes
pub global_shapes_fit : (n : ℕ) (s : Names) (gs : List Item) → IsCellWidth n → globals_faults n s gs ≡ [] → AllByRecursion IsShape (global_shapes gs)
global_shapes_fit n s gs wide h = subst (AllByRecursion IsShape) (shapes_of_all gs) (shapes_fit n (global_variables gs) (globals_sound n s gs wide h))

-- The lengths of a program's arrays are those of its variables, and an array that is seen has one of them.
use Rattle.std.proofs.Common.{◌≡◌, refl, sym, ap, ap₂, ◌∙◌, ℕ, ◌+◌, ◌≤◌, nat_eq, ℤ, pos, Bool, true, false, List, [], ◌∷◌, ◌++◌, map, length, Option, Some, None, arith, if◌then◌else◌}
use Rattle.std.proofs.lemmas.List.{length-map, map-append}
use Rattle.ir_core.specs.Operator.{wrap}
use Rattle.c_lowered.specs.Sound.{shape_at, IsArray, world}
use Rattle.c_tree.specs.declared.meaning.Place.{Place}
use Rattle.c_tree.specs.declared.meaning.Place.TheVariants as places
use Rattle.c_tree.specs.Program.{Shape, size, Function, Program}
use Rattle.c_tree.specs.Lowered.{arrays_among, arrays_of_functions, arrays_of_main, arrays, frames, program_frames, all_cells, function_marks}
use Rattle.c_tree.specs.Lowered as lowered
use Rattle.c_tree.specs.Meaning.{global_cells}
use Rattle.c_counted.specs.Total.{array_lengths, functions_lengths, main_lengths, program_lengths}
use Rattle.c_counted.proofs.Weights.{greatest, worth}

-- ---- the list of arrays

module _ {X : Type 0} (f : ℕ → X) where
  -- what is made of each array's length
  abbrev made : List (ℕ × ℕ) → List X
  made arrays = map (λ (cell, length). f length) arrays

  among_made : (vs : List Shape) (cell : ℕ) → made (arrays_among cell vs) ≡ map f (array_lengths vs)
  among_made [] cell = refl
  among_made (None ∷ vs) cell = among_made vs (cell + 1)
  among_made (Some n ∷ vs) cell = ap (λ ys. f n ∷ ys) (among_made vs (cell + n))

  functions_made : (fs : List Function) (cell label : ℕ) → made (arrays_of_functions fs (frames cell label fs)) ≡ map f (functions_lengths fs)
  functions_made [] cell label = refl
  functions_made (g ∷ fs) cell label =
      map-append (λ (cell, length). f length) (arrays_among cell g.variables) (arrays_of_functions fs (frames (cell + all_cells g) (label + function_marks g) fs))
      ∙ ap₂ (λ xs ys. xs ++ ys) (among_made g.variables cell) (functions_made fs (cell + all_cells g) (label + function_marks g))
      ∙ sym (map-append f (array_lengths g.variables) (functions_lengths fs))

  main_made : (m : Option Function) (cell : ℕ) → made (arrays_of_main cell m) ≡ map f (main_lengths m)
  main_made None cell = refl
  main_made (Some g) cell = among_made g.variables cell

  -- the lengths of the arrays are those that the variables' shapes give
  pub lengths_made : (p : Program) → map (λ (cell, length). f length) (arrays p) ≡ map f (program_lengths p)
  lengths_made p =
      let globals = arrays_among 0 (map (λ v. v.shape) p.globals) in
      let main = arrays_of_main (global_cells p) p.main in
      let others = arrays_of_functions p.functions (program_frames p) in
      map-append (λ (cell, length). f length) (globals ++ main) others
      ∙ ap₂ (λ xs ys. xs ++ ys)
      (map-append (λ (cell, length). f length) globals main
      ∙ ap₂ (λ xs ys. xs ++ ys) (among_made (map (λ v. v.shape) p.globals) 0) (main_made p.main (global_cells p))
      ∙ sym (map-append f (array_lengths (map (λ v. v.shape) p.globals)) (main_lengths p.main)))
      (functions_made p.functions (global_cells p + lowered.main_cells p.main) (lowered.main_marks p.main))
      ∙ sym (map-append f (array_lengths (map (λ v. v.shape) p.globals) ++ main_lengths p.main) (functions_lengths p.functions))

pub arrays_counted : (p : Program) → length (arrays p) ≡ length (program_lengths p)
arrays_counted p = simp length-map at (ap length (lengths_made (λ n. n) p))

-- ---- arrays that are seen

-- the array whose first cell is k is one of those among the variables
listed : (u : ℕ → ℕ) (vs : List Shape) (cell k n : ℕ) → shape_at cell vs k ≡ Some (Some n) → u n ≤ greatest u (array_lengths vs)
listed u [] cell k n is = absurd cc
listed u (v ∷ vs) cell k n is = by v (nat_eq cell k) (λ c e. listed u vs c k n e) is
  where
    by : (v : Shape) (b : Bool) → ((c : ℕ) → shape_at c vs k ≡ Some (Some n) → u n ≤ greatest u (array_lengths vs)) → (if b then Some v else shape_at (cell + size v) vs k) ≡ Some (Some n) → u n ≤ greatest u (array_lengths (v ∷ vs))
    by None true rest is = absurd cc
    by (Some m) true rest is = let e : m ≡ n = cc in let same = ap u e in omega (arith, same)
    by None false rest is = rest (cell + 1) is
    by (Some m) false rest is = let more = rest (cell + m) is in omega (arith, more)

-- where no length weighs anything, none of an array that is seen does
pub seen_light : (w : ℤ → ℕ) (p : Program) (n : ℕ) (rank : ℕ → ℕ) (own : ℕ) (is_main : Bool) (f : Function) → greatest (worth w n) (array_lengths (map (λ v. v.shape) p.globals)) ≡ 0 → greatest (worth w n) (array_lengths f.variables) ≡ 0 → (q : Place) (m : ℕ) → IsArray (world p n rank own is_main f) q m → w (wrap n (pos m)) ≡ 0
seen_light w p n rank own is_main f globals locals (places.Global k) m is =
    let below = listed (worth w n) (map (λ v. v.shape) p.globals) 0 k m is in omega (arith, below, globals)
seen_light w p n rank own is_main f globals locals (places.Local k) m is = let below = listed (worth w n) f.variables 0 k m is in omega (arith, below, locals)

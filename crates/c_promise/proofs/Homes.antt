-- The homes of a program have cells from the first constant's on, and its arrays lie before them.
use Rattle.std.proofs.Common.{◌≡◌, refl, ◌∙◌, ℕ, ◌+◌, ◌<◌, ◌≤◌, List, [], ◌∷◌, ◌++◌, map, arith, Bool, true, false, not, ◌&&◌, Option, Some, None, inl, inr}
use Rattle.std.specs.Prelude.{nat_lt, nat_le, ◌==◌}
use Rattle.std.specs.List.{list_all, list_any}
use Rattle.std.proofs.lemmas.Bool.{and_from, and_right, or_from, not_from_false, ne_eqb, lt-ltb, le-ltb, le-leb}
use Rattle.std.proofs.lemmas.List.Folds.{list_all-append, list_any-append}
use Rattle.ir_run.specs.Strict.{is_inside}
use Rattle.ir_run.specs.Promise.{home_cells, is_free, arrays_fit}
use Rattle.c_tree.specs.Program.{Shape, sizes, Function, Program}
use Rattle.c_tree.specs.Meaning.{global_cells}
use Rattle.c_tree.specs.Lowered.{all_cells, cells_of_all, main_cells, function_marks, main_marks, frames, program_frames, arrays_among, arrays_of_functions, arrays_of_main, arrays, constants, return_labels, numbered, first_constant, first_base, first_return, first_temporary, homes, lowered}
use Rattle.c_promise.proofs.Behind.{Among}

-- ---- cells in a row

-- a test that each cell from the limit on passes
row_passes : {X : Type 0} (test : ℕ → Bool) (limit cell : ℕ) (xs : List X) → ((k : ℕ) → limit ≤ k → test k ≡ true) → limit ≤ cell → list_all test (map (λ (k, x). k) (numbered cell xs)) ≡ true
row_passes test limit cell [] h from = refl
row_passes test limit cell (x ∷ xs) h from =
    and_from (test cell) (list_all test (map (λ (k, x). k) (numbered (cell + 1) xs))) (h cell from) (row_passes test limit (cell + 1) xs h (omega (arith, from)))

-- a cell before a row isn't among it
before_row : {X : Type 0} (k cell : ℕ) (xs : List X) → k < cell → list_any (λ home. home == k) (map (λ (k, x). k) (numbered cell xs)) ≡ false
before_row k cell [] lt = refl
before_row k cell (x ∷ xs) lt =
    or_from (cell == k) (list_any (λ home. home == k) (map (λ (k, x). k) (numbered (cell + 1) xs))) (ne_eqb cell k (λ e. omega (arith, e, lt))) (before_row k (cell + 1) xs (omega (arith, lt)))

-- a test of what stands in a row
pub row_holds : (test : ℕ → Bool) (cell : ℕ) (xs : List ℕ) → ((x : ℕ) → Among xs x → test x ≡ true) → list_all (λ (k, x). test x) (numbered cell xs) ≡ true
row_holds test cell [] h = refl
row_holds test cell (x ∷ xs) h = and_from (test x) (list_all (λ (k, x). test x) (numbered (cell + 1) xs)) (h x (inl refl)) (row_holds test (cell + 1) xs (λ y i. h y (inr i)))

-- ---- arrays

-- arrays whose cells lie below a limit
abbrev Below : (limit : ℕ) → List (ℕ × ℕ) → Type 0
Below limit [] = Unit {0}
Below limit (a ∷ xs) = (a.0 + a.1 ≤ limit) × Below limit xs

below_both : (limit : ℕ) (xs ys : List (ℕ × ℕ)) → Below limit xs → Below limit ys → Below limit (xs ++ ys)
below_both limit [] ys h i = i
below_both limit (a ∷ xs) ys h i = (h.0, below_both limit xs ys h.1 i)

among_below : (limit cell : ℕ) (vs : List Shape) → cell + sizes vs ≤ limit → Below limit (arrays_among cell vs)
among_below limit cell [] room = tt
among_below limit cell (None ∷ vs) room = among_below limit (cell + 1) vs (omega (arith, room))
among_below limit cell (Some n ∷ vs) room = (omega (arith, room), among_below limit (cell + n) vs (omega (arith, room)))

main_below : (limit cell : ℕ) (m : Option Function) → cell + main_cells m ≤ limit → Below limit (arrays_of_main cell m)
main_below limit cell None room = tt
main_below limit cell (Some f) room = among_below limit cell f.variables (omega (arith, room))

functions_below : (limit cell label : ℕ) (fs : List Function) → cell + cells_of_all fs ≤ limit → Below limit (arrays_of_functions fs (frames cell label fs))
functions_below limit cell label [] room = tt
functions_below limit cell label (f ∷ fs) room =
    below_both limit (arrays_among cell f.variables) (arrays_of_functions fs (frames (cell + all_cells f) (label + function_marks f) fs))
    (among_below limit cell f.variables (omega (arith, room)))
    (functions_below limit (cell + all_cells f) (label + function_marks f) fs (omega (arith, room)))

arrays_below : (p : Program) → Below (first_constant p) (arrays p)
arrays_below p =
    let globals = map (λ v. v.shape) p.globals in
    let limit = first_constant p in
    below_both limit (arrays_among 0 globals ++ arrays_of_main (global_cells p) p.main) (arrays_of_functions p.functions (program_frames p))
    (below_both limit (arrays_among 0 globals) (arrays_of_main (global_cells p) p.main) (among_below limit 0 globals (omega arith)) (main_below limit (global_cells p) p.main (omega arith)))
    (functions_below limit (global_cells p + main_cells p.main) (main_marks p.main) p.functions (omega arith))

before_temporaries : (limit temporary : ℕ) (xs : List (ℕ × ℕ)) → limit ≤ temporary → Below limit xs → list_all (λ (first, length). nat_le (first + length) temporary) xs ≡ true
before_temporaries limit temporary [] le h = refl
before_temporaries limit temporary (a ∷ xs) le h =
    and_from (nat_le (a.0 + a.1) temporary) (list_all (λ (first, length). nat_le (first + length) temporary) xs) (le-leb (a.0 + a.1) temporary (omega (arith, h.0, le))) (before_temporaries limit temporary xs le h.1)

outside : (limit k : ℕ) (xs : List (ℕ × ℕ)) → limit ≤ k → Below limit xs → is_inside xs k ≡ false
outside limit k [] le h = refl
outside limit k (a ∷ xs) le h =
    or_from (nat_le a.0 k && nat_lt k (a.0 + a.1)) (is_inside xs k) (and_right (nat_le a.0 k) (nat_lt k (a.0 + a.1)) (le-ltb k (a.0 + a.1) (omega (arith, h.0, le)))) (outside limit k xs le h.1)

-- ---- a program's homes

-- a test that the cells from the first constant's on pass
homes_pass : (p : Program) (n : ℕ) (test : ℕ → Bool) → ((k : ℕ) → first_constant p ≤ k → test k ≡ true) → list_all test (home_cells (homes p n)) ≡ true
homes_pass p n test h =
    let a = numbered (first_constant p) (constants p n) in
    let b = numbered (first_base p n) (map (λ (cell, length). cell) (arrays p)) in
    let c = numbered (first_return p n) (return_labels p n) in
    let xs : List ℕ = map (λ (k, z). k) a in
    let ys : List ℕ = map (λ (k, c). k) b in
    let zs : List ℕ = map (λ (k, l). k) c in
    list_all-append test (xs ++ ys) zs ∙ and_from (list_all test (xs ++ ys)) (list_all test zs)
    (list_all-append test xs ys ∙ and_from (list_all test xs) (list_all test ys)
    (row_passes test (first_constant p) (first_constant p) (constants p n) h (omega arith))
    (row_passes test (first_constant p) (first_base p n) (map (λ (cell, length). cell) (arrays p)) h (omega arith)))
    (row_passes test (first_constant p) (first_return p n) (return_labels p n) h (omega arith))

-- a cell before the first constant's is no home and no temporary
pub free : (p : Program) (n k : ℕ) → k < first_constant p → is_free (homes p n) k ≡ true
free p n k lt =
    let test : ℕ → Bool = λ home. home == k in
    let xs : List ℕ = map (λ (k, z). k) (numbered (first_constant p) (constants p n)) in
    let ys : List ℕ = map (λ (k, c). k) (numbered (first_base p n) (map (λ (cell, length). cell) (arrays p))) in
    let zs : List ℕ = map (λ (k, l). k) (numbered (first_return p n) (return_labels p n)) in
    let none : list_any test (xs ++ ys ++ zs) ≡ false =
    list_any-append test (xs ++ ys) zs ∙ or_from (list_any test (xs ++ ys)) (list_any test zs)
    (list_any-append test xs ys ∙ or_from (list_any test xs) (list_any test ys)
    (before_row k (first_constant p) (constants p n) lt)
    (before_row k (first_base p n) (map (λ (cell, length). cell) (arrays p)) (omega (arith, lt))))
    (before_row k (first_return p n) (return_labels p n) (omega (arith, lt))) in
    and_from (nat_lt k (first_temporary p n)) (not (list_any test (home_cells (homes p n)))) (lt-ltb k (first_temporary p n) (omega (arith, lt))) (not_from_false (list_any test (home_cells (homes p n))) none)

-- no array has a home or a temporary
pub arrays_pass : (p : Program) (n : ℕ) → arrays_fit (lowered p n) ≡ true
arrays_pass p n =
    let below = arrays_below p in
    and_from (list_all (λ (first, length). nat_le (first + length) (first_temporary p n)) (arrays p)) (list_all (λ k. not (is_inside (arrays p) k)) (home_cells (homes p n)))
    (before_temporaries (first_constant p) (first_temporary p n) (arrays p) (omega arith) below)
    (homes_pass p n (λ k. not (is_inside (arrays p) k)) (λ k le. not_from_false (is_inside (arrays p) k) (outside (first_constant p) k (arrays p) le below)))

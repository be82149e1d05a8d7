-- What is counted on terms and commands is what is counted of the statements.
use Rattle.std.proofs.Common.{◌≡◌, refl, sym, ap, ◌∙◌, ℕ, zero, suc, ◌≤◌, ℤ, pos, negsuc, List, ◌∷◌, ◌++◌, map, length, arith}
use Rattle.std.proofs.lemmas.List.{map-append}
use Rattle.ir_core.specs.Operator.{wrap}
use Rattle.ir_run.specs.Size.{constants_of_all}
use Rattle.c_lowered.specs.Sound.{Sound}
use Rattle.c_tree.specs.Program.{Program}
use Rattle.c_tree.specs.Lowered.{in_order, constants, program_entries}
use Rattle.c_tree.specs.Counts.{data_of}
use Rattle.c_counted.specs.Total.{program_lengths, program_numbers, gathered, counted}
use Rattle.c_counted.proofs.Small.{numbers_unwrapped}
use Rattle.c_counted.proofs.Calls.{calls_are_counted}
use Rattle.c_counted.proofs.Nodes.{largest_is_counted}
use Rattle.c_counted.proofs.Lengths.{lengths_made, arrays_counted}
use Rattle.c_counted.proofs.Weights.{greatest, greatest_append, greatest_map}
use Rattle.c_counted.proofs.Programs.{program_weight}
use Rattle.c_counted.proofs.Members.{Within, same_in_order}
use Rattle.c_counted.proofs.Tally.{tally, tallied, found}

-- the constants that always count
abbrev pub always : Program → ℕ → List ℤ
always p n = negsuc 0 ∷ pos 0 ∷ pos 1 ∷ map (λ z. wrap n (pos z)) (program_lengths p)

-- the numbers of the text that stand in statements
abbrev texts : Program → ℕ → List ℤ
texts p n = map (λ z. wrap n (pos z)) (program_numbers p)

-- a number that doesn't always count is a constant of the statements where it is gathered from the text
alike : (p : Program) (n : ℕ) → Sound p n → (z : ℤ) → greatest (tally z) (always p n) ≡ 0 → greatest (tally z) (constants_of_all (program_entries p n)) ≡ greatest (tally z) (texts p n)
alike p n s z h =
    let lengths = greatest_map (tally z) (λ m. wrap n (pos m)) (program_lengths p) in
    let numbers = greatest_map (tally z) (λ m. wrap n (pos m)) (program_numbers p) in
    program_weight (tally z) p n s (omega (arith, h)) (omega (arith, h)) (omega (arith, h, lengths)) ∙ sym numbers

-- lists whose other members are alike for each number that isn't among these have the same members
within : (always xs ys : List ℤ) → ((z : ℤ) → greatest (tally z) always ≡ 0 → greatest (tally z) xs ≡ greatest (tally z) ys) → Within (always ++ xs) (always ++ ys)
within always xs ys same z h = found z (always ++ ys) (by (greatest (tally z) always) refl)
  where
    by : (m : ℕ) → greatest (tally z) always ≡ m → 1 ≤ greatest (tally z) (always ++ ys)
    by zero is =
        omega (arith, same z is, tallied z (always ++ xs) h, greatest_append (tally z) always xs, greatest_append (tally z) always ys)
    by (suc m) is = omega (arith, is, greatest_append (tally z) always ys)

gathered_is : (p : Program) (n : ℕ) → gathered p n ≡ always p n ++ texts p n
gathered_is p n = ap (λ xs. negsuc 0 ∷ pos 0 ∷ pos 1 ∷ xs) (map-append (λ z. wrap n (pos z)) (program_lengths p) (program_numbers p))

constants_are : (p : Program) (n : ℕ) → constants p n ≡ in_order (always p n ++ constants_of_all (program_entries p n))
constants_are p n =
    ap (λ xs. in_order ((negsuc 0 ∷ pos 0 ∷ pos 1 ∷ xs) ++ constants_of_all (program_entries p n))) (lengths_made (λ z. wrap n (pos z)) p)

-- the constants that have cells are the numbers gathered from the text, in order
pub constants_are_gathered : (p : Program) (n : ℕ) → Sound p n → in_order (gathered p n) ≡ constants p n
constants_are_gathered p n s =
    ap in_order (gathered_is p n)
    ∙ same_in_order (always p n ++ texts p n) (always p n ++ constants_of_all (program_entries p n))
    (within (always p n) (texts p n) (constants_of_all (program_entries p n)) (λ z h. sym (alike p n s z h)))
    (within (always p n) (constants_of_all (program_entries p n)) (texts p n) (alike p n s))
    ∙ sym (constants_are p n)

-- the same where the numbers of the text, which n bits hold, stand there without being wrapped
pub constants_are_gathered_unwrapped : (p : Program) (n : ℕ) → Sound p n → in_order (always p n ++ map pos (program_numbers p)) ≡ constants p n
constants_are_gathered_unwrapped p n s =
    ap (λ xs. in_order (always p n ++ xs)) (sym (numbers_unwrapped p n s)) ∙ sym (ap in_order (gathered_is p n)) ∙ constants_are_gathered p n s

-- the cells are as many as are counted of the statements
pub counted_is : (p : Program) (n : ℕ) → Sound p n → counted p n ≡ data_of p n
counted_is p n s =
    let numbers = ap length (constants_are_gathered p n s) in
    omega (arith, numbers, arrays_counted p, calls_are_counted p n, largest_is_counted p n)

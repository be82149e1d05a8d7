-- What stands beside a program's statements is what is found from the statements, the arrays and the globals' values.
use Rattle.std.proofs.Common.{◌≡◌, refl, ℕ}
use Rattle.c_tree.specs.Program.{Program}
use Rattle.c_tree.specs.Lowered.{arrays, program_entries, first_constant, homes, initial_among, start}
use Rattle.c_homes.specs.Places.{homes_from, start_from}

pub homes_are : (p : Program) (n : ℕ) → homes_from (first_constant p) (arrays p) (program_entries p n) n ≡ homes p n
homes_are p n = refl

pub start_is : (p : Program) (n : ℕ) → start_from (initial_among 0 p.globals) (homes p n) n ≡ start p n
start_is p n = refl

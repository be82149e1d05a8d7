-- Which programs are accepted, and why others are refused: of several faults the lowest number, and of one number the least place.
use Rattle.std.specs.Prelude.{◌≡◌, ℕ, ◌≤◌, ◌<◌, ◌⊎◌, List, [], length, Some, None}
use Rattle.c_tree.specs.declared.program.CTree.{CTree}
use Rattle.c_tree.specs.declared.fault.CFault.{CFault}
use Rattle.c_tree.specs.declared.fault.CFault.TheVariants as fault
use Rattle.c_tree.specs.Items.{Definition, Item, items}
use Rattle.c_tree.specs.Names.{functions_in, parameters}
use Rattle.c_tree.specs.Faults.{faults, bad_names, bad_kinds, bad_numbers, bad_shifts}
use Rattle.c_tree.specs.Recursion.{Among, IsAcyclic, calls_of, main_of, IsFirstRecursive}

abbrev pub IsLeast : List ℕ → ℕ → Type 0
IsLeast places at = Among places at × ((b : ℕ) → Among places b → at ≤ b)

-- no function is called `main`, or it has parameters
abbrev pub HasNoMain : List Item → Type 0
HasNoMain gs =
    (main_of (functions_in gs) ≡ None)
    ⊎ ((f : Definition) × (main_of (functions_in gs) ≡ Some f) × (0 < length (parameters f.params)))

-- a program with numbers of n bits that has none of the faults
pub record IsAccepted (gs : List Item) (n : ℕ) : Type 0 where
  pub faultless : faults gs n ≡ []
  pub acyclic : IsAcyclic (calls_of gs)
  pub main : (f : Definition) × (main_of (functions_in gs) ≡ Some f) × (length (parameters f.params) ≡ 0)

-- a fault that checking the program with numbers of n bits has; want of memory is free
abbrev pub IsFaultOf : List Item → ℕ → CFault → Type 0
IsFaultOf gs n (fault.Lex at) = ⊥
IsFaultOf gs n (fault.Syntax at) = ⊥
IsFaultOf gs n (fault.Outside at) = ⊥
IsFaultOf gs n (fault.Name at) = IsLeast (bad_names gs n) at
IsFaultOf gs n (fault.Kind at) = (bad_names gs n ≡ []) × IsLeast (bad_kinds gs n) at
IsFaultOf gs n (fault.Literal at) = (bad_names gs n ≡ []) × (bad_kinds gs n ≡ []) × IsLeast (bad_numbers gs n) at
IsFaultOf gs n (fault.Shift at) = (bad_names gs n ≡ []) × (bad_kinds gs n ≡ []) × (bad_numbers gs n ≡ []) × IsLeast (bad_shifts gs n) at
IsFaultOf gs n (fault.Recursion name) = (faults gs n ≡ []) × IsFirstRecursive gs name
IsFaultOf gs n fault.Main = (faults gs n ≡ []) × IsAcyclic (calls_of gs) × HasNoMain gs
IsFaultOf gs n fault.Memory = Unit {0}

-- the same of a tree
abbrev pub IsAcceptedTree : CTree → ℕ → Type 0
IsAcceptedTree c n = IsAccepted (items c) n

abbrev pub IsTreeFaultOf : CTree → ℕ → CFault → Type 0
IsTreeFaultOf c n f = IsFaultOf (items c) n f

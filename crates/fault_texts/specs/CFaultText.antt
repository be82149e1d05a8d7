-- How a fault of a C program is told: its number and name, and its fields, each after one blank.
use Rattle.std.specs.Prelude.{ℕ, List, [], ◌++◌, codes, Bool, true, false}
use Rattle.std.specs.Fmt.{decimal}
use Rattle.c_tree.specs.declared.fault.CFault.{CFault}
use Rattle.c_tree.specs.declared.fault.CFault.TheVariants as faults

-- memory was wanted, which is no fault of a program
abbrev pub is_c_memory : CFault → Bool
is_c_memory faults.Memory = true
is_c_memory _ = false

-- want of memory isn't told so
abbrev pub c_fault_text : CFault → List ℕ
c_fault_text (faults.Lex at) = codes "C1 Lex " ++ decimal at
c_fault_text (faults.Syntax at) = codes "C2 Syntax " ++ decimal at
c_fault_text (faults.Outside at) = codes "C3 Outside " ++ decimal at
c_fault_text (faults.Name at) = codes "C4 Name " ++ decimal at
c_fault_text (faults.Kind at) = codes "C5 Kind " ++ decimal at
c_fault_text (faults.Literal at) = codes "C6 Literal " ++ decimal at
c_fault_text (faults.Shift at) = codes "C7 Shift " ++ decimal at
c_fault_text (faults.Recursion name) = codes "C8 Recursion " ++ name
c_fault_text faults.Main = codes "C9 Main"
c_fault_text faults.Memory = []

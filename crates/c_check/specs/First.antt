-- The first of the faults that were met.
use Rattle.std.specs.Prelude.{◌≡◌, ℕ, List, Option, Some, None}
use Rattle.c_tree.specs.declared.fault.CFault.{CFault}
use Rattle.c_tree.specs.declared.fault.CFault.TheVariants as fault
use Rattle.c_tree.specs.Items.{Definition}
use Rattle.c_check.specs.declared.note.Found.{Found}

-- the lowest number that was met, at its least place
abbrev pub IsFirst : Found → CFault → Type 0
IsFirst w (fault.Name at) = w.names ≡ Some at
IsFirst w (fault.Kind at) = (w.names ≡ None) × (w.kinds ≡ Some at)
IsFirst w (fault.Literal at) = (w.names ≡ None) × (w.kinds ≡ None) × (w.numbers ≡ Some at)
IsFirst w (fault.Shift at) = (w.names ≡ None) × (w.kinds ≡ None) × (w.numbers ≡ None) × (w.shifts ≡ Some at)
IsFirst w _ = ⊥

-- it is a function of this name
abbrev pub IsNamed : Option Definition → List ℕ → Type 0
IsNamed o name = (f : Definition) × (o ≡ Some f) × (f.name.text ≡ name)

-- the fault of a function of this name that reaches itself; where it has none, anything may be answered, and want of memory is
abbrev pub recursion_of : Option (List ℕ) → CFault
recursion_of None = fault.Memory
recursion_of (Some name) = fault.Recursion name

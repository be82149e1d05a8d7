-- The faults that a description's tree may have.
use Rattle.nml_tree.specs.declared.tree.Desc.{Desc}
use Rattle.nml_tree.specs.declared.fault.DescFault.{DescFault}
use Rattle.nml_tree.specs.declared.fault.DescFault.TheVariants as fault
use Rattle.nml_tree.specs.Refused.{IsRefused}

-- The tree is refused for this fault, one of N4 to N14. Want of memory is no fault of it.
abbrev pub IsTreeFault : Desc → DescFault → Type 0
IsTreeFault d fault.Memory = ⊥
IsTreeFault d f = IsRefused d f

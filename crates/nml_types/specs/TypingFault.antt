-- The faults that a description's tree may have.
use Rattle.std.specs.Prelude.{ℕ}
use Rattle.nml_tree.specs.declared.tree.Desc.{Desc}
use Rattle.nml_tree.specs.declared.fault.DescFault.{DescFault}
use Rattle.nml_tree.specs.declared.fault.DescFault.TheVariants as fault
use Rattle.nml_tree.specs.Refused.{IsUntyped}

-- The tree is refused for this fault of names, cycles, kinds, widths, mentions, words, edges or the root. Want of memory is no fault of it.
abbrev pub IsTypingFault : Desc → DescFault → Type 0
IsTypingFault d fault.Memory = ⊥
IsTypingFault d f = IsUntyped d f

-- What an operator may be given so that 128 bits hold what it makes.
use Rattle.std.specs.Prelude.{◌-◌, ◌≤◌, ℤ, FitsSigned}
use Rattle.std.specs.Int.{w128}
use Rattle.nk_base.specs.Number.{IsWidth}
use Rattle.nml_tree.specs.declared.operator.Un.{Un}
use Rattle.nml_tree.specs.declared.operator.Un.TheVariants as un
use Rattle.nml_tree.specs.Value.{unary}

-- a width is 1 to 64 bits, a run of bits has at most 64 and ends at bit 126 or below it, and the negative of a number fits
abbrev pub MayHave : Un → ℤ → Type 0
MayHave un.Neg z = FitsSigned w128 (unary un.Neg z)
MayHave un.Inv z = Unit {0}
MayHave un.Not z = Unit {0}
MayHave (un.Int n) z = IsWidth n
MayHave (un.Card n) z = IsWidth n
MayHave (un.Sat n) z = IsWidth n
MayHave (un.Bits hi lo) z = (lo ≤ hi) × (hi ≤ 126) × (hi - lo ≤ 63)

-- For private contracts: initial values that 64 bits hold with a sign.
use Rattle.std.specs.Prelude.{◌<◌, ◌^◌, List, [], ◌∷◌, map, Some, None}
use Rattle.c_tree.specs.declared.program.SNum.{SNum}
use Rattle.c_tree.specs.declared.program.GVar.{GVar}
use Rattle.c_tree.specs.declared.program.GVar.TheVariants as gvar
use Rattle.c_tree.specs.declared.program.Global.{Global}
use Rattle.c_tree.specs.declared.program.Global.TheVariants as global
use Rattle.c_tree.specs.Names.{gvars}

abbrev pub IsSmallValue : SNum → Type 0
IsSmallValue z = z.number.value < 2 ^ 63

abbrev pub AreSmallValues : List SNum → Type 0
AreSmallValues [] = Unit {0}
AreSmallValues (z ∷ zs) = IsSmallValue z × AreSmallValues zs

-- those of a global variable
abbrev pub HasSmallValues : GVar → Type 0
HasSmallValues (gvar.Scalar n None) = Unit {0}
HasSmallValues (gvar.Scalar n (Some (at, z))) = IsSmallValue z
HasSmallValues (gvar.Array n p z q None) = Unit {0}
HasSmallValues (gvar.Array n p z q (Some (at, l, y, ys, r))) = IsSmallValue y × AreSmallValues (map (λ (comma, x). x) ys)

abbrev pub HaveSmallValues : List GVar → Type 0
HaveSmallValues [] = Unit {0}
HaveSmallValues (v ∷ vs) = HasSmallValues v × HaveSmallValues vs

-- those of all that is declared
abbrev pub BeginSmall : List Global → Type 0
BeginSmall [] = Unit {0}
BeginSmall (global.Vars v ∷ gs) = HaveSmallValues (gvars v) × BeginSmall gs
BeginSmall (global.Function f ∷ gs) = BeginSmall gs

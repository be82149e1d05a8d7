-- The input of a description, and the numbers that it may give.
use Rattle.std.specs.Prelude.{ℤ, Bool, true, false, List, [], ◌∷◌, Option, Some, None}
use Rattle.nk_base.specs.declared.number.Ty.{Ty}
use Rattle.nml_tree.specs.Table.{Table, Declared}
use Rattle.attr_exec.specs.Ready.{NextFits}

-- the type of the input; there is one at most
abbrev pub input_type : Table → Option Ty
input_type [] = None
input_type ((name, Declared.Inp ty) ∷ t) = Some ty
input_type ((name, _) ∷ t) = input_type t

-- an `inp`
abbrev pub is_inp : Declared → Bool
is_inp (Declared.Inp ty) = true
is_inp _ = false

-- each number is one of the input's type
abbrev pub AllFit : Table → List ℤ → Type 0
AllFit t [] = Unit {0}
AllFit t (z ∷ zs) = NextFits t (Some z) × AllFit t zs

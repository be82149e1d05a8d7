-- That 128 bits hold what an expression is worth.
use Rattle.std.specs.Prelude.{◌≡◌, ℤ, Bool, FitsSigned}
use Rattle.std.specs.Int.{w128}
use Rattle.nml_tree.specs.Act.{Term, Number, Field, Cell, Trn, Inp, Out, Unary, Binary, Choose}
use Rattle.nml_tree.specs.Value.{View, value, takes, binary}
use Rattle.attr_eval.specs.Operand.{MayHave}

-- 128 bits hold the value of the expression and of each in it, and an operator of one operand may be given its operand
abbrev pub IsNarrow : View → Term → Type 0
IsNarrow v (Number z) = Unit {0}
IsNarrow v (Field n) = Unit {0}
IsNarrow v (Cell n i) = IsNarrow v i
IsNarrow v (Trn n) = Unit {0}
IsNarrow v Inp = Unit {0}
IsNarrow v Out = Unit {0}
IsNarrow v (Unary op x) = IsNarrow v x × MayHave op (value v x)
IsNarrow v (Binary op x y) = IsNarrow v x × (IsNarrow v y × FitsSigned w128 (binary op (value v x) (value v y)))
IsNarrow v (Choose c x y) = IsNarrow v c × (IsNarrow v x × IsNarrow v y)

-- the expression's value, and whether the input is read on the way to it
abbrev pub IsWorth : View → Term → ℤ → Bool → Type 0
IsWorth v x z took = (z ≡ value v x) × (took ≡ takes v x)

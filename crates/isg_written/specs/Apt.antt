-- Expressions whose values are read: the output is none, and sizes are as N6 has them.
use Rattle.std.specs.Prelude.{ℕ, ◌≤◌, ◌≢◌}
use Rattle.nml_tree.specs.declared.tree.Size.{Size}
use Rattle.nml_tree.specs.Formula.{Formula, Numeral, Truth, Named, Indexed, Paren, Fitted, Bits, Choose, Unary, Binary}
use Rattle.nml_tree.specs.Block.{Block}
use Rattle.nml_tree.specs.Table.{Table, size_or_none}
use Rattle.nml_tree.specs.Act.{Out}
use Rattle.nml_tree.specs.Written.{Scope, term}
use Rattle.nml_widths.specs.Fitting.{Everywhere, Each}

-- the size is no greater than one may be
abbrev pub IsSmall : Table → Size → Type 0
IsSmall t n = size_or_none t n ≤ 65536

-- written out, the expression isn't the output
abbrev pub IsValue : Table → Scope → Formula → Type 0
IsValue t s x = term t s x ≢ Out

-- an expression by itself: its operands have values, and its sizes are small
abbrev pub Apt : Table → Scope → Formula → Type 0
Apt t s (Indexed n p i q) = IsValue t s i
Apt t s (Fitted f at p n c x q) = IsSmall t n × IsValue t s x
Apt t s (Bits at p x c high d low q) = IsSmall t high × IsSmall t low × IsValue t s x
Apt t s (Choose at c b x f y end) = IsValue t s c × IsValue t s x × IsValue t s y
Apt t s (Unary op at x) = IsValue t s x
Apt t s (Binary op x at y) = IsValue t s x × IsValue t s y
Apt t s _ = Unit {0}

-- an expression that is read, and those in it
abbrev pub IsRead : Table → Scope → Formula → Type 0
IsRead t s x = IsValue t s x × Everywhere (Apt t s) x

-- the expressions of statements are read
abbrev pub AreRead : Table → Scope → Block → Type 0
AreRead t s b = Each (IsRead t s) b

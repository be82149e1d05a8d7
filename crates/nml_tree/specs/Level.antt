-- How tightly operators bind, and which trees are written without parentheses that they lack.
use Rattle.std.specs.Prelude.{ℕ, ◌≤◌, ◌<◌, Some, None}
use Rattle.nml_tree.specs.declared.tree.Item.{Item}
use Rattle.nml_tree.specs.declared.tree.Item.TheVariants as item
use Rattle.nml_tree.specs.declared.operator.Bin.{Bin}
use Rattle.nml_tree.specs.declared.operator.Bin.TheVariants as bin
use Rattle.nml_tree.specs.Formula.{Formula, formula, Numeral, Truth, Named, Indexed, Paren, Fitted, Bits, Choose, Unary, Binary}
use Rattle.nml_tree.specs.Block.{Block, Index, Done, Assign, Part, Halt, If, IfElse, action_block}

-- the level of an operator of two operands, 0 being the weakest
abbrev pub binary_level : Bin → ℕ
binary_level bin.OrElse = 0
binary_level bin.AndAlso = 1
binary_level bin.Or = 2
binary_level bin.Xor = 3
binary_level bin.And = 4
binary_level bin.Eq = 5
binary_level bin.Ne = 5
binary_level bin.Lt = 6
binary_level bin.Le = 6
binary_level bin.Gt = 6
binary_level bin.Ge = 6
binary_level bin.Shl = 7
binary_level bin.Shr = 7
binary_level bin.Add = 8
binary_level bin.Sub = 8
binary_level bin.Mul = 9

-- the level of the operators of one operand, above all of two
abbrev pub unary_level : ℕ
unary_level = 10

-- the level of all that has no operator outermost, the strongest
abbrev pub primary_level : ℕ
primary_level = 11

-- the level of what stands outermost in an expression
abbrev pub level : Formula → ℕ
level (Binary op x at y) = binary_level op
level (Unary op at x) = unary_level
level _ = primary_level

-- An operator of two operands has on its left its own level or a stronger one, on its right a stronger one; an operator
-- of one has before it no operator of two. Whatever else is written stands as a node: parentheses are one.
abbrev pub IsLeveled : Formula → Type 0
IsLeveled (Numeral n) = Unit {0}
IsLeveled (Truth at b) = Unit {0}
IsLeveled (Named n) = Unit {0}
IsLeveled (Indexed n p i q) = IsLeveled i
IsLeveled (Paren p x q) = IsLeveled x
IsLeveled (Fitted f at p n c x q) = IsLeveled x
IsLeveled (Bits at p x c high d low q) = IsLeveled x
IsLeveled (Choose at c t x f y end) = IsLeveled c × IsLeveled x × IsLeveled y
IsLeveled (Unary op at x) = IsLeveled x × (unary_level ≤ level x)
IsLeveled (Binary op x at y) = IsLeveled x × IsLeveled y × (binary_level op ≤ level x) × (binary_level op < level y)

-- so is the index, where there is one
abbrev pub IsLeveledIndex : Index → Type 0
IsLeveledIndex None = Unit {0}
IsLeveledIndex (Some (p, i, q)) = IsLeveled i

-- so are all expressions of the statements
abbrev pub IsLeveledBlock : Block → Type 0
IsLeveledBlock Done = Unit {0}
IsLeveledBlock (Assign n i at e semicolon rest) = IsLeveledIndex i × IsLeveled e × IsLeveledBlock rest
IsLeveledBlock (Part n dot at semicolon rest) = IsLeveledBlock rest
IsLeveledBlock (Halt at p e q semicolon rest) = IsLeveled e × IsLeveledBlock rest
IsLeveledBlock (If at c t xs end semicolon rest) = IsLeveled c × IsLeveledBlock xs × IsLeveledBlock rest
IsLeveledBlock (IfElse at c t xs f ys end semicolon rest) = IsLeveled c × IsLeveledBlock xs × IsLeveledBlock ys × IsLeveledBlock rest

-- so are all expressions of the item: those of an action, and the value of a mode
abbrev pub IsLeveledItem : Item → Type 0
IsLeveledItem (item.OpRule r) = IsLeveledBlock (action_block r.attrs.action)
IsLeveledItem (item.ModeRule r) = IsLeveled (formula r.value) × IsLeveledBlock (action_block r.attrs.action)
IsLeveledItem _ = Unit {0}

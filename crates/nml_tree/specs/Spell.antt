-- The spelling of expressions, statements and types: their symbols in the text's order.
use Rattle.std.specs.Prelude.{ℕ, Bool, true, false, List, [], ◌∷◌, ◌++◌, Some, None, codes}
use Rattle.nml_tree.specs.declared.names.Name.{Name}
use Rattle.nml_tree.specs.declared.names.Number.{Number}
use Rattle.nml_tree.specs.declared.names.Quoted.{Quoted}
use Rattle.nml_tree.specs.declared.operator.Bin.{Bin}
use Rattle.nml_tree.specs.declared.operator.Bin.TheVariants as bin
use Rattle.nml_tree.specs.declared.tree.Size.{Size}
use Rattle.nml_tree.specs.declared.tree.Size.TheVariants as size
use Rattle.nml_tree.specs.declared.tree.TypeExpr.{TypeExpr}
use Rattle.nml_tree.specs.declared.tree.TypeExpr.TheVariants as type_expr
use Rattle.nml_tree.specs.Symbol.{Symbol, fixed}
use Rattle.nml_tree.specs.Formula.{Prefix, Fit, Formula, Numeral, Truth, Named, Indexed, Paren, Fitted, Bits, Choose, Unary, Binary}
use Rattle.nml_tree.specs.Block.{Block, Index, Done, Assign, Part, Halt, If, IfElse}

-- the mark of an operator of one operand
abbrev pub prefix_mark : Prefix → List ℕ
prefix_mark Prefix.Neg = codes "-"
prefix_mark Prefix.Inv = codes "~"
prefix_mark Prefix.Not = codes "!"

-- the keyword of what fits a number into a type
abbrev pub fit_word : Fit → List ℕ
fit_word Fit.Int = codes "int"
fit_word Fit.Card = codes "card"
fit_word Fit.Sat = codes "sat"

-- the mark of an operator of two operands
abbrev pub binary_mark : Bin → List ℕ
binary_mark bin.OrElse = codes "||"
binary_mark bin.AndAlso = codes "&&"
binary_mark bin.Or = codes "|"
binary_mark bin.Xor = codes "^"
binary_mark bin.And = codes "&"
binary_mark bin.Eq = codes "=="
binary_mark bin.Ne = codes "!="
binary_mark bin.Lt = codes "<"
binary_mark bin.Le = codes "<="
binary_mark bin.Gt = codes ">"
binary_mark bin.Ge = codes ">="
binary_mark bin.Shl = codes "<<"
binary_mark bin.Shr = codes ">>"
binary_mark bin.Add = codes "+"
binary_mark bin.Sub = codes "-"
binary_mark bin.Mul = codes "*"

-- the keyword of a truth value
abbrev pub truth_word : Bool → List ℕ
truth_word true = codes "true"
truth_word false = codes "false"

-- a name alone
abbrev pub name_spelling : Name → List Symbol
name_spelling n = Symbol.Named n.at n.text ∷ []

-- a number alone
abbrev pub number_spelling : Number → List Symbol
number_spelling n = Symbol.Number n.at n.value ∷ []

-- a string alone
abbrev pub string_spelling : Quoted → List Symbol
string_spelling q = Symbol.Quoted q.at q.text ∷ []

-- NUM or NAME
abbrev pub size_spelling : Size → List Symbol
size_spelling (size.Number n) = number_spelling n
size_spelling (size.Name n) = name_spelling n

-- `bool`, `card(size)`, `int(size)`, `fix(size, size)`, `float(size, size)` or NAME
abbrev pub type_spelling : TypeExpr → List Symbol
type_spelling (type_expr.Bool at) = fixed at (codes "bool")
type_spelling (type_expr.Card at p n q) =
    fixed at (codes "card") ++ fixed p (codes "(") ++ size_spelling n ++ fixed q (codes ")")
type_spelling (type_expr.Int at p n q) =
    fixed at (codes "int") ++ fixed p (codes "(") ++ size_spelling n ++ fixed q (codes ")")
type_spelling (type_expr.Fix at p n c m q) =
    fixed at (codes "fix") ++ fixed p (codes "(") ++ size_spelling n ++ fixed c (codes ",") ++ size_spelling m ++ fixed q (codes ")")
type_spelling (type_expr.Float at p n c m q) =
    fixed at (codes "float") ++ fixed p (codes "(") ++ size_spelling n ++ fixed c (codes ",") ++ size_spelling m ++ fixed q (codes ")")
type_spelling (type_expr.Name n) = name_spelling n

-- an expression: NUM, `true`, `false`, NAME with an index or without, `(e)`, `int(size, e)` and the like,
-- `bits(e, size, size)`, `if e then e else e endif`, an operator before its operand or between its two
abbrev pub formula_spelling : Formula → List Symbol
formula_spelling (Numeral n) = number_spelling n
formula_spelling (Truth at b) = fixed at (truth_word b)
formula_spelling (Named n) = name_spelling n
formula_spelling (Indexed n p i q) = name_spelling n ++ fixed p (codes "[") ++ formula_spelling i ++ fixed q (codes "]")
formula_spelling (Paren p x q) = fixed p (codes "(") ++ formula_spelling x ++ fixed q (codes ")")
formula_spelling (Fitted f at p n c x q) =
    fixed at (fit_word f) ++ fixed p (codes "(") ++ size_spelling n ++ fixed c (codes ",") ++ formula_spelling x ++ fixed q (codes ")")
formula_spelling (Bits at p x c high d low q) =
    fixed at (codes "bits") ++ fixed p (codes "(") ++ formula_spelling x ++ fixed c (codes ",") ++ size_spelling high ++ fixed d (codes ",")
    ++ size_spelling low ++ fixed q (codes ")")
formula_spelling (Choose at c t x f y end) =
    fixed at (codes "if") ++ formula_spelling c ++ fixed t (codes "then") ++ formula_spelling x ++ fixed f (codes "else") ++ formula_spelling y
    ++ fixed end (codes "endif")
formula_spelling (Unary op at x) = fixed at (prefix_mark op) ++ formula_spelling x
formula_spelling (Binary op x at y) = formula_spelling x ++ fixed at (binary_mark op) ++ formula_spelling y

-- `[e]`, or nothing
abbrev pub index_spelling : Index → List Symbol
index_spelling None = []
index_spelling (Some (p, i, q)) = fixed p (codes "[") ++ formula_spelling i ++ fixed q (codes "]")

-- statements one after the other: `place = e;`, `NAME.action;`, `halt(e);`, `if e then stmts endif;`,
-- `if e then stmts else stmts endif;`
abbrev pub block_spelling : Block → List Symbol
block_spelling Done = []
block_spelling (Assign n i at e semicolon rest) =
    name_spelling n ++ index_spelling i ++ fixed at (codes "=") ++ formula_spelling e ++ fixed semicolon (codes ";") ++ block_spelling rest
block_spelling (Part n dot at semicolon rest) =
    name_spelling n ++ fixed dot (codes ".") ++ fixed at (codes "action") ++ fixed semicolon (codes ";") ++ block_spelling rest
block_spelling (Halt at p e q semicolon rest) =
    fixed at (codes "halt") ++ fixed p (codes "(") ++ formula_spelling e ++ fixed q (codes ")") ++ fixed semicolon (codes ";")
    ++ block_spelling rest
block_spelling (If at c t xs end semicolon rest) =
    fixed at (codes "if") ++ formula_spelling c ++ fixed t (codes "then") ++ block_spelling xs ++ fixed end (codes "endif")
    ++ fixed semicolon (codes ";") ++ block_spelling rest
block_spelling (IfElse at c t xs f ys end semicolon rest) =
    fixed at (codes "if") ++ formula_spelling c ++ fixed t (codes "then") ++ block_spelling xs ++ fixed f (codes "else") ++ block_spelling ys
    ++ fixed end (codes "endif") ++ fixed semicolon (codes ";") ++ block_spelling rest

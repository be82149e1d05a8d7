-- The depth of an item: the most nodes on a path from it down, itself counted. A node is a value of a left side of the
-- grammar: an item, its attributes, a text, an argument, a statement, a place, parameters, a type, a size; and in an
-- expression each operator, pair of parentheses, name, indexed name and number.
use Rattle.std.specs.Prelude.{ℕ, ◌+◌, max, [], ◌∷◌, List, Option, Some, None}
use Rattle.nml_tree.specs.declared.tree.TypeExpr.{TypeExpr}
use Rattle.nml_tree.specs.declared.tree.TypeExpr.TheVariants as type_expr
use Rattle.nml_tree.specs.declared.tree.Par.{Par}
use Rattle.nml_tree.specs.declared.tree.Pars.{Pars}
use Rattle.nml_tree.specs.declared.tree.Item.{Item}
use Rattle.nml_tree.specs.declared.tree.Item.TheVariants as item
use Rattle.nml_tree.specs.declared.attributes.Arg.{Arg}
use Rattle.nml_tree.specs.declared.attributes.Attrs.{Attrs}
use Rattle.nml_tree.specs.declared.attributes.Template.{Template}
use Rattle.nml_tree.specs.declared.attributes.Template.TheVariants as template
use Rattle.nml_tree.specs.Formula.{Formula, formula, Numeral, Truth, Named, Indexed, Paren, Fitted, Bits, Choose, Unary, Binary}
use Rattle.nml_tree.specs.Block.{Block, Index, Done, Assign, Part, Halt, If, IfElse, action_block}

-- a size has nothing below it
abbrev pub size_depth : ℕ
size_depth = 1

-- an expression
abbrev pub depth : Formula → ℕ
depth (Numeral n) = 1
depth (Truth at b) = 1
depth (Named n) = 1
depth (Indexed n p i q) = 1 + depth i
depth (Paren p x q) = 1 + depth x
depth (Fitted f at p n c x q) = 1 + max size_depth (depth x)
depth (Bits at p x c high d low q) = 1 + max (depth x) size_depth
depth (Choose at c t x f y end) = 1 + max (depth c) (max (depth x) (depth y))
depth (Unary op at x) = 1 + depth x
depth (Binary op x at y) = 1 + max (depth x) (depth y)

-- a place, which has the expression of its index below it
abbrev pub place_depth : Index → ℕ
place_depth None = 1
place_depth (Some (p, i, q)) = 1 + depth i

-- the deepest of the statements; one has below it its place, its expression and the statements within it
abbrev pub block_depth : Block → ℕ
block_depth Done = 0
block_depth (Assign n i at e semicolon rest) = max (1 + max (place_depth i) (depth e)) (block_depth rest)
block_depth (Part n dot at semicolon rest) = max 1 (block_depth rest)
block_depth (Halt at p e q semicolon rest) = max (1 + depth e) (block_depth rest)
block_depth (If at c t xs end semicolon rest) = max (1 + max (depth c) (block_depth xs)) (block_depth rest)
block_depth (IfElse at c t xs f ys end semicolon rest) = max (1 + max (depth c) (max (block_depth xs) (block_depth ys))) (block_depth rest)

-- the deepest of the arguments, which have nothing below them
abbrev pub args_depth : List (ℕ × Arg) → ℕ
args_depth [] = 0
args_depth (a ∷ args) = 1

-- a text
abbrev pub template_depth : Template → ℕ
template_depth (template.Plain q) = 1
template_depth (template.Part n dot a) = 1
template_depth (template.Format at p q args r) = 1 + args_depth args

-- the attributes, with both texts and the statements of the action below them
abbrev pub attrs_depth : Attrs → ℕ
attrs_depth a = 1 + max (template_depth a.syntax_text) (max (template_depth a.image_text) (block_depth (action_block a.action)))

-- a type
abbrev pub type_depth : TypeExpr → ℕ
type_depth (type_expr.Bool at) = 1
type_depth (type_expr.Card at p n q) = 1 + size_depth
type_depth (type_expr.Int at p n q) = 1 + size_depth
type_depth (type_expr.Fix at p n c m q) = 1 + size_depth
type_depth (type_expr.Float at p n c m q) = 1 + size_depth
type_depth (type_expr.Name n) = 1

-- the deepest type of further parameters
abbrev pub further_pars_depth : List (ℕ × Par) → ℕ
further_pars_depth [] = 0
further_pars_depth ((comma, p) ∷ ps) = max (type_depth p.ty) (further_pars_depth ps)

-- the parameters of a rule, with their types below them
abbrev pub pars_depth : Option Pars → ℕ
pars_depth None = 0
pars_depth (Some ps) = 1 + max (type_depth ps.first.ty) (further_pars_depth ps.rest)

-- an item, with its sizes, types, parameters, its value and its attributes below it
abbrev pub item_depth : Item → ℕ
item_depth (item.Let at n equals minus z) = 1
item_depth (item.Type at n equals t) = 1 + type_depth t
item_depth (item.Storage s) = 1 + max size_depth (type_depth s.ty)
item_depth (item.Port p) = 1 + type_depth p.ty
item_depth (item.OrRule r) = 1
item_depth (item.OpRule r) = 1 + max (pars_depth r.pars) (attrs_depth r.attrs)
item_depth (item.ModeRule r) = 1 + max (pars_depth r.pars) (max (depth (formula r.value)) (attrs_depth r.attrs))

-- how deep an item may be
abbrev pub depth_limit : ℕ
depth_limit = 200

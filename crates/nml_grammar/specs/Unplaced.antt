-- Symbols and descriptions without the places of their tokens: in place of each stands 0.
use Rattle.std.specs.Prelude.{◌≡◌, refl, ℕ, List, [], ◌∷◌, Option, Some, None, map, codes}
use Rattle.nml_tree.specs.declared.names.Name.{Name}
use Rattle.nml_tree.specs.declared.names.Number.{Number}
use Rattle.nml_tree.specs.declared.names.Quoted.{Quoted}
use Rattle.nml_tree.specs.declared.expression.Expr.{Expr}
use Rattle.nml_tree.specs.declared.statement.Stmt.{Stmt}
use Rattle.nml_tree.specs.declared.attributes.Attribute.{Attribute}
use Rattle.nml_tree.specs.declared.attributes.Arg.{Arg}
use Rattle.nml_tree.specs.declared.attributes.Template.{Template}
use Rattle.nml_tree.specs.declared.attributes.Action.{Action}
use Rattle.nml_tree.specs.declared.attributes.Attrs.{Attrs}
use Rattle.nml_tree.specs.declared.tree.Size.{Size}
use Rattle.nml_tree.specs.declared.tree.TypeExpr.{TypeExpr}
use Rattle.nml_tree.specs.declared.tree.Par.{Par}
use Rattle.nml_tree.specs.declared.tree.Pars.{Pars}
use Rattle.nml_tree.specs.declared.tree.StorageWord.{StorageWord}
use Rattle.nml_tree.specs.declared.tree.PortWord.{PortWord}
use Rattle.nml_tree.specs.declared.tree.RuleWord.{RuleWord}
use Rattle.nml_tree.specs.declared.tree.Item.{Item}
use Rattle.nml_tree.specs.declared.tree.Desc.{Desc}
use Rattle.readings.specs.Symbol.{Symbol}
use Rattle.nml_tree.specs.Formula.{Formula, Numeral, Truth, Named, Indexed, Paren, Fitted, Bits, Choose, Unary, Binary, formula}
use Rattle.nml_tree.specs.Block.{Block, Index, Done, Assign, Part, Halt, If, IfElse, block}
use Rattle.nml_tree.specs.Inverse.{expr_of, stmts_of}
use Rattle.nml_tree.specs.declared.attributes.Attribute.TheVariants as attribute
use Rattle.nml_tree.specs.declared.attributes.Template.TheVariants as template
use Rattle.nml_tree.specs.declared.tree.Size.TheVariants as size
use Rattle.nml_tree.specs.declared.tree.TypeExpr.TheVariants as type_expr
use Rattle.nml_tree.specs.declared.tree.StorageWord.TheVariants as storage_word
use Rattle.nml_tree.specs.declared.tree.PortWord.TheVariants as port_word
use Rattle.nml_tree.specs.declared.tree.RuleWord.TheVariants as rule_word
use Rattle.nml_tree.specs.declared.tree.Item.TheVariants as item

-- the same symbol, at place 0
abbrev pub unplaced_symbol : Symbol → Symbol
unplaced_symbol (Symbol.Fixed at text) = Symbol.Fixed 0 text
unplaced_symbol (Symbol.Named at text) = Symbol.Named 0 text
unplaced_symbol (Symbol.Number at value) = Symbol.Number 0 value
unplaced_symbol (Symbol.Quoted at text) = Symbol.Quoted 0 text

-- the same name, at place 0
abbrev pub unplaced_name : Name → Name
unplaced_name n = record { at = 0; text = n.text }

-- a number of the same value, at place 0
abbrev pub unplaced_number : Number → Number
unplaced_number n = record { at = 0; value = n.value }

-- a string of the same text, at place 0
abbrev pub unplaced_string : Quoted → Quoted
unplaced_string q = record { at = 0; text = q.text }

-- the same number or name as a size
abbrev pub unplaced_size : Size → Size
unplaced_size (size.Number n) = size.Number (unplaced_number n)
unplaced_size (size.Name n) = size.Name (unplaced_name n)

-- the same type
abbrev pub unplaced_type : TypeExpr → TypeExpr
unplaced_type (type_expr.Bool at) = type_expr.Bool 0
unplaced_type (type_expr.Card at p n q) = type_expr.Card 0 0 (unplaced_size n) 0
unplaced_type (type_expr.Int at p n q) = type_expr.Int 0 0 (unplaced_size n) 0
unplaced_type (type_expr.Fix at p n c m q) = type_expr.Fix 0 0 (unplaced_size n) 0 (unplaced_size m) 0
unplaced_type (type_expr.Float at p n c m q) = type_expr.Float 0 0 (unplaced_size n) 0 (unplaced_size m) 0
unplaced_type (type_expr.Name n) = type_expr.Name (unplaced_name n)

-- a formula of the same shape, names and numbers
abbrev pub unplaced_formula : Formula → Formula
unplaced_formula (Numeral n) = Numeral (unplaced_number n)
unplaced_formula (Truth at b) = Truth 0 b
unplaced_formula (Named n) = Named (unplaced_name n)
unplaced_formula (Indexed n p i q) = Indexed (unplaced_name n) 0 (unplaced_formula i) 0
unplaced_formula (Paren p x q) = Paren 0 (unplaced_formula x) 0
unplaced_formula (Fitted f at p n c x q) = Fitted f 0 0 (unplaced_size n) 0 (unplaced_formula x) 0
unplaced_formula (Bits at p x c high d low q) = Bits 0 0 (unplaced_formula x) 0 (unplaced_size high) 0 (unplaced_size low) 0
unplaced_formula (Choose at c t x f y end) = Choose 0 (unplaced_formula c) 0 (unplaced_formula x) 0 (unplaced_formula y) 0
unplaced_formula (Unary op at x) = Unary op 0 (unplaced_formula x)
unplaced_formula (Binary op x at y) = Binary op (unplaced_formula x) 0 (unplaced_formula y)

-- the same index, where there is one
abbrev pub unplaced_index : Index → Index
unplaced_index None = None
unplaced_index (Some (p, i, q)) = Some (0, unplaced_formula i, 0)

-- a block of the same statements
abbrev pub unplaced_block : Block → Block
unplaced_block Done = Done
unplaced_block (Assign n i at e semicolon rest) = Assign (unplaced_name n) (unplaced_index i) 0 (unplaced_formula e) 0 (unplaced_block rest)
unplaced_block (Part n dot at semicolon rest) = Part (unplaced_name n) 0 0 0 (unplaced_block rest)
unplaced_block (Halt at p e q semicolon rest) = Halt 0 0 (unplaced_formula e) 0 0 (unplaced_block rest)
unplaced_block (If at c t xs end semicolon rest) = If 0 (unplaced_formula c) 0 (unplaced_block xs) 0 0 (unplaced_block rest)
unplaced_block (IfElse at c t xs f ys end semicolon rest) =
    IfElse 0 (unplaced_formula c) 0 (unplaced_block xs) 0 (unplaced_block ys) 0 0 (unplaced_block rest)

-- the same expression, by its formula
abbrev pub unplaced_expression : Expr → Expr
unplaced_expression e = expr_of (unplaced_formula (formula e))

-- the same statements, by their block
abbrev pub unplaced_statements : List Stmt → List Stmt
unplaced_statements xs = stmts_of (unplaced_block (block xs))

-- the same attribute of a part
abbrev pub unplaced_attribute : Attribute → Attribute
unplaced_attribute (attribute.Syntax at) = attribute.Syntax 0
unplaced_attribute (attribute.Image at) = attribute.Image 0

-- the same attribute behind its dot, where there is one
abbrev pub unplaced_dotted : Option (ℕ × Attribute) → Option (ℕ × Attribute)
unplaced_dotted None = None
unplaced_dotted (Some (dot, a)) = Some (0, unplaced_attribute a)

-- the same argument and its comma
abbrev pub unplaced_arg : ℕ × Arg → ℕ × Arg
unplaced_arg (comma, a) = (0, record { name = unplaced_name a.name; attribute = unplaced_dotted a.attribute })

-- the same text of `syntax` or `image`
abbrev pub unplaced_template : Template → Template
unplaced_template (template.Plain q) = template.Plain (unplaced_string q)
unplaced_template (template.Part n dot a) = template.Part (unplaced_name n) 0 (unplaced_attribute a)
unplaced_template (template.Format at p q args r) = template.Format 0 0 (unplaced_string q) (map unplaced_arg args) 0

-- an action of the same statements, where there is one
abbrev pub unplaced_action : Option Action → Option Action
unplaced_action None = None
unplaced_action (Some a) = Some (record { action = 0; equals = 0; opening = 0; stmts = unplaced_statements a.stmts; closing = 0 })

-- the same texts and action
abbrev pub unplaced_attrs : Attrs → Attrs
unplaced_attrs a = record {
  syntax = 0;
  syntax_equals = 0;
  syntax_text = unplaced_template a.syntax_text;
  image = 0;
  image_equals = 0;
  image_text = unplaced_template a.image_text;
  action = unplaced_action a.action;
}

-- a parameter of the same name and type
abbrev pub unplaced_par : Par → Par
unplaced_par p = record { name = unplaced_name p.name; colon = 0; ty = unplaced_type p.ty }

-- the same further parameter and its comma
abbrev pub unplaced_further_par : ℕ × Par → ℕ × Par
unplaced_further_par (comma, p) = (0, unplaced_par p)

-- the same parameters, where there are some
abbrev pub unplaced_pars : Option Pars → Option Pars
unplaced_pars None = None
unplaced_pars (Some ps) = Some (record { first = unplaced_par ps.first; rest = map unplaced_further_par ps.rest })

-- the same further alternative and its bar
abbrev pub unplaced_further_name : ℕ × Name → ℕ × Name
unplaced_further_name (bar, n) = (0, unplaced_name n)

-- the same of `mem` and `reg`
abbrev pub unplaced_storage_word : StorageWord → StorageWord
unplaced_storage_word (storage_word.Mem at) = storage_word.Mem 0
unplaced_storage_word (storage_word.Reg at) = storage_word.Reg 0

-- the same of `trn`, `inp` and `out`
abbrev pub unplaced_port_word : PortWord → PortWord
unplaced_port_word (port_word.Trn at) = port_word.Trn 0
unplaced_port_word (port_word.Inp at) = port_word.Inp 0
unplaced_port_word (port_word.Out at) = port_word.Out 0

-- the same of `op` and `mode`
abbrev pub unplaced_rule_word : RuleWord → RuleWord
unplaced_rule_word (rule_word.Op at) = rule_word.Op 0
unplaced_rule_word (rule_word.Mode at) = rule_word.Mode 0

-- a minus where there is one
abbrev pub unplaced_minus : Option ℕ → Option ℕ
unplaced_minus None = None
unplaced_minus (Some at) = Some 0

-- the same item, part by part
abbrev pub unplaced_item : Item → Item
unplaced_item (item.Let at n equals minus z) = item.Let 0 (unplaced_name n) 0 (unplaced_minus minus) (unplaced_number z)
unplaced_item (item.Type at n equals t) = item.Type 0 (unplaced_name n) 0 (unplaced_type t)
unplaced_item (item.Storage s) = item.Storage (record {
  word = unplaced_storage_word s.word;
  name = unplaced_name s.name;
  opening = 0;
  size = unplaced_size s.size;
  comma = 0;
  ty = unplaced_type s.ty;
  closing = 0;
})
unplaced_item (item.Port p) = item.Port (record {
  word = unplaced_port_word p.word;
  name = unplaced_name p.name;
  opening = 0;
  ty = unplaced_type p.ty;
  closing = 0;
})
unplaced_item (item.OrRule r) = item.OrRule (record {
  word = unplaced_rule_word r.word;
  name = unplaced_name r.name;
  equals = 0;
  first = unplaced_name r.first;
  rest = map unplaced_further_name r.rest;
})
unplaced_item (item.OpRule r) = item.OpRule (record {
  op = 0;
  name = unplaced_name r.name;
  opening = 0;
  pars = unplaced_pars r.pars;
  closing = 0;
  attrs = unplaced_attrs r.attrs;
})
unplaced_item (item.ModeRule r) = item.ModeRule (record {
  mode = 0;
  name = unplaced_name r.name;
  opening = 0;
  pars = unplaced_pars r.pars;
  closing = 0;
  equals = 0;
  value = unplaced_expression r.value;
  attrs = unplaced_attrs r.attrs;
})

-- the same items in the same order
abbrev pub unplaced : Desc → Desc
unplaced d = record { items = map unplaced_item d.items }

-- `let A = 5` after seven bytes
pub constant : unplaced (record { items = item.Let 7 (record { at = 11; text = codes "A" }) 13 None (record { at = 15; value = 5 }) ∷ [] })
    ≡ record { items = item.Let 0 (record { at = 0; text = codes "A" }) 0 None (record { at = 0; value = 5 }) ∷ [] }
constant = refl

-- `card ( 4 )`, and its keyword
pub card_type : unplaced_type (type_expr.Card 10 14 (size.Number (record { at = 15; value = 4 })) 16)
    ≡ type_expr.Card 0 0 (size.Number (record { at = 0; value = 4 })) 0
card_type = refl

pub card_word : unplaced_symbol (Symbol.Fixed 10 (codes "card")) ≡ Symbol.Fixed 0 (codes "card")
card_word = refl

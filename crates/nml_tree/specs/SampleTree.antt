-- A small description as a tree, with the places that its symbols have in the text
--     let k = - 5 op f ( p : k ) syntax = "f" image = p . image action = { x = a - b * ( c ) ; }
-- and what some expressions come to. What speaks of an `Expr` or a `Desc` is worked out in proofs/SampleTrees.
use Rattle.std.specs.Prelude.{◌≡◌, refl, ℕ, zero, suc, true, List, [], ◌∷◌, Some, None, codes}
use Rattle.std.proofs.Common.{lit<, lit≤}
use Rattle.nml_tree.specs.declared.names.Name.{Name}
use Rattle.nml_tree.specs.declared.operator.Bin.TheVariants as bin
use Rattle.nml_tree.specs.declared.expression.Expr.{Expr}
use Rattle.nml_tree.specs.declared.expression.Expr.TheVariants as expr
use Rattle.nml_tree.specs.declared.statement.Stmt.{Stmt}
use Rattle.nml_tree.specs.declared.statement.Stmt.TheVariants as stmt
use Rattle.nml_tree.specs.declared.attributes.Attribute.TheVariants as attribute
use Rattle.nml_tree.specs.declared.attributes.Attrs.{Attrs}
use Rattle.nml_tree.specs.declared.attributes.Template.TheVariants as template
use Rattle.nml_tree.specs.declared.tree.Size.TheVariants as size
use Rattle.nml_tree.specs.declared.tree.TypeExpr.TheVariants as type_expr
use Rattle.nml_tree.specs.declared.tree.Item.{Item}
use Rattle.nml_tree.specs.declared.tree.Item.TheVariants as item
use Rattle.nml_tree.specs.declared.tree.Desc.{Desc}
use Rattle.nml_tree.specs.declared.tree.PortWord.TheVariants as port_word
use Rattle.nml_tree.specs.Symbol.{Symbol, Fixed, Named, Number, Quoted}
use Rattle.nml_tree.specs.Formula.{Formula}
use Rattle.nml_tree.specs.Formula as formula
use Rattle.nml_tree.specs.Block.{Block, Done, Assign, Halt, IfElse}
use Rattle.nml_tree.specs.Spell.{formula_spelling, block_spelling}
use Rattle.nml_tree.specs.Level.{IsLeveled}
use Rattle.nml_tree.specs.Depth.{depth, block_depth}
use Rattle.nml_tree.specs.Floats.{float_places}
use Rattle.nml_tree.specs.Joined.{joined}

-- a name, and its read as a formula and as an expression
abbrev pub name : ℕ → List ℕ → Name
name at text = record { at = at; text = text }

abbrev pub named : ℕ → List ℕ → Formula
named at text = formula.Named (name at text)

abbrev pub read : ℕ → List ℕ → Expr
read at text = expr.Name (name at text) None

-- `a - b * ( c )`
abbrev pub difference : Expr
difference = expr.Sub (read 73 (codes "a")) 75 (expr.Mul (read 77 (codes "b")) 79 (expr.Paren 81 (read 83 (codes "c")) 85))

abbrev pub difference_formula : Formula
difference_formula = formula.Binary bin.Sub (named 73 (codes "a")) 75 (formula.Binary bin.Mul (named 77 (codes "b")) 79 (formula.Paren 81 (named 83 (codes "c")) 85))

pub difference_spelled : formula_spelling difference_formula
    ≡ Named 73 (codes "a") ∷ Fixed 75 (codes "-") ∷ Named 77 (codes "b") ∷ Fixed 79 (codes "*") ∷ Fixed 81 (codes "(") ∷ Named 83 (codes "c")
    ∷ Fixed 85 (codes ")") ∷ []
difference_spelled = refl

pub difference_leveled : IsLeveled difference_formula
difference_leveled = (tt, (tt, tt, lit≤ tt, lit< tt), lit≤ tt, lit< tt)

-- three nodes below the `-`: the `*`, the parentheses and the name in them
pub difference_depth : depth difference_formula ≡ 4
difference_depth = refl

-- `a - b - c` is the one on the left; the one on the right would need parentheses (proofs/SampleTrees)
abbrev pub left_first : Formula
left_first = formula.Binary bin.Sub (formula.Binary bin.Sub (named 0 (codes "a")) 2 (named 4 (codes "b"))) 6 (named 8 (codes "c"))

abbrev pub right_first : Formula
right_first = formula.Binary bin.Sub (named 0 (codes "a")) 2 (formula.Binary bin.Sub (named 4 (codes "b")) 6 (named 8 (codes "c")))

pub one_spelling : formula_spelling left_first ≡ formula_spelling right_first
one_spelling = refl

pub left_first_leveled : IsLeveled left_first
left_first_leveled = ((tt, tt, lit≤ tt, lit< tt), tt, lit≤ tt, lit< tt)

-- `- a * b` is the product of `- a` and `b`; `- ( a * b )` has a node for the parentheses
pub negated_first : IsLeveled (formula.Binary bin.Mul (formula.Unary formula.Neg 0 (named 2 (codes "a"))) 4 (named 6 (codes "b")))
negated_first = ((tt, lit≤ tt), tt, lit≤ tt, lit< tt)

-- an `if` expression takes any expression within, and needs no parentheses beside an operator
abbrev pub choice : Formula
choice = formula.Binary bin.Mul
    (formula.Choose 0 (formula.Truth 3 true) 8 left_first 13 (formula.Numeral (record { at = 18; value = 1 })) 20)
    26
    (named 28 (codes "b"))

pub choice_leveled : IsLeveled choice
choice_leveled = ((tt, left_first_leveled, tt), tt, lit≤ tt, lit< tt)

-- `if true then halt ( k ) ; else x [ i ] = k ; endif ;`
abbrev pub branch : Block
branch = IfElse 0 (formula.Truth 3 true) 8
    (Halt 13 18 (named 20 (codes "k")) 22 24 Done)
    26
    (Assign (name 31 (codes "x")) (Some (33, named 35 (codes "i"), 37)) 39 (named 41 (codes "k")) 43 Done)
    45 51
    Done

pub branch_spelled : block_spelling branch
    ≡ Fixed 0 (codes "if") ∷ Fixed 3 (codes "true") ∷ Fixed 8 (codes "then")
    ∷ Fixed 13 (codes "halt") ∷ Fixed 18 (codes "(") ∷ Named 20 (codes "k") ∷ Fixed 22 (codes ")") ∷ Fixed 24 (codes ";")
    ∷ Fixed 26 (codes "else")
    ∷ Named 31 (codes "x") ∷ Fixed 33 (codes "[") ∷ Named 35 (codes "i") ∷ Fixed 37 (codes "]") ∷ Fixed 39 (codes "=") ∷ Named 41 (codes "k") ∷ Fixed 43 (codes ";")
    ∷ Fixed 45 (codes "endif") ∷ Fixed 51 (codes ";") ∷ []
branch_spelled = refl

pub branch_text : joined (block_spelling branch) ≡ codes "if true then halt ( k ) ; else x [ i ] = k ; endif ;"
branch_text = refl

-- the `if`, the assignment, its place, the index
pub branch_depth : block_depth branch ≡ 4
branch_depth = refl

-- the statements of the description's action
abbrev pub sample_stmts : List Stmt
sample_stmts = stmt.Assign (record { name = name 69 (codes "x"); index = None }) 71 difference 87 ∷ []

abbrev pub sample_block : Block
sample_block = Assign (name 69 (codes "x")) None 71 difference_formula 87 Done

-- attributes with these statements
abbrev pub attrs_of : List Stmt → Attrs
attrs_of stmts = record {
  syntax = 27;
  syntax_equals = 34;
  syntax_text = template.Plain (record { at = 36; text = codes "f" });
  image = 40;
  image_equals = 46;
  image_text = template.Part (name 48 (codes "p")) 50 (attribute.Image 52);
  action = Some (record { action = 58; equals = 65; opening = 67; stmts = stmts; closing = 89 });
}

-- the rule `f` with these statements
abbrev pub rule_of : List Stmt → Item
rule_of stmts = item.OpRule (record {
  op = 12;
  name = name 15 (codes "f");
  opening = 17;
  pars = Some (record { first = record { name = name 19 (codes "p"); colon = 21; ty = type_expr.Name (name 23 (codes "k")) }; rest = [] });
  closing = 25;
  attrs = attrs_of stmts;
})

abbrev pub sample : Desc
sample = record { items = item.Let 0 (name 4 (codes "k")) 6 (Some 8) (record { at = 10; value = 5 }) ∷ rule_of sample_stmts ∷ [] }

abbrev pub sample_symbols : List Symbol
sample_symbols =
    Fixed 0 (codes "let") ∷ Named 4 (codes "k") ∷ Fixed 6 (codes "=") ∷ Fixed 8 (codes "-") ∷ Number 10 5
    ∷ Fixed 12 (codes "op") ∷ Named 15 (codes "f") ∷ Fixed 17 (codes "(") ∷ Named 19 (codes "p") ∷ Fixed 21 (codes ":") ∷ Named 23 (codes "k") ∷ Fixed 25 (codes ")")
    ∷ Fixed 27 (codes "syntax") ∷ Fixed 34 (codes "=") ∷ Quoted 36 (codes "f")
    ∷ Fixed 40 (codes "image") ∷ Fixed 46 (codes "=") ∷ Named 48 (codes "p") ∷ Fixed 50 (codes ".") ∷ Fixed 52 (codes "image")
    ∷ Fixed 58 (codes "action") ∷ Fixed 65 (codes "=") ∷ Fixed 67 (codes "{") ∷ Named 69 (codes "x") ∷ Fixed 71 (codes "=")
    ∷ Named 73 (codes "a") ∷ Fixed 75 (codes "-") ∷ Named 77 (codes "b") ∷ Fixed 79 (codes "*") ∷ Fixed 81 (codes "(") ∷ Named 83 (codes "c") ∷ Fixed 85 (codes ")")
    ∷ Fixed 87 (codes ";") ∷ Fixed 89 (codes "}") ∷ []

-- a name in so many pairs of parentheses
abbrev pub parens : ℕ → Expr
parens zero = read 0 (codes "a")
parens (suc n) = expr.Paren 0 (parens n) 0

abbrev pub parens_formula : ℕ → Formula
parens_formula zero = named 0 (codes "a")
parens_formula (suc n) = formula.Paren 0 (parens_formula n) 0

-- the rule whose action assigns it
abbrev pub deep_stmts : ℕ → List Stmt
deep_stmts n = stmt.Assign (record { name = name 0 (codes "x"); index = None }) 0 (parens n) 0 ∷ []

-- `out f [ float ( 8 , 23 ) ]`
abbrev pub floating : Desc
floating = record {
  items = item.Port (record {
    word = port_word.Out 0;
    name = name 4 (codes "f");
    opening = 6;
    ty = type_expr.Float 8 14 (size.Number (record { at = 16; value = 8 })) 18 (size.Number (record { at = 20; value = 23 })) 23;
    closing = 25;
  })
      ∷ [];
}

pub float_at : float_places floating ≡ 8 ∷ []
float_at = refl

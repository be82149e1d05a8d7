-- What is read comes back from the tree that is made of it, and of expressions only calls are statements of a tree.
use Rattle.std.proofs.Common.{◌≡◌, refl, sym, subst, ℕ, List, [], ◌∷◌, Option, Some, None}
use Rattle.std.specs.Prelude.{map, option_map}
use Rattle.c_tree.specs.declared.operator.Bin.TheVariants as bin
use Rattle.c_tree.specs.declared.statement.Simple.{Simple}
use Rattle.c_tree.specs.declared.statement.Simple.TheVariants as simple
use Rattle.c_tree.specs.declared.statement.First.{First}
use Rattle.c_tree.specs.declared.statement.First.TheVariants as first
use Rattle.c_tree.specs.declared.statement.Block.{Block}
use Rattle.c_tree.specs.declared.statement.Part.{Part}
use Rattle.c_tree.specs.declared.statement.Stmt.{Stmt}
use Rattle.c_tree.specs.declared.statement.Part.TheOpen.{Part-F, Stmt-F, Block-F}
use Rattle.c_tree.specs.declared.statement.Part.TheFolds.{map-Part, map-Stmt, map-Block, ind-Block}
use Rattle.c_tree.specs.declared.statement.Part.TheViews.{roll-Part, roll-Stmt, roll-Block}
use Rattle.c_tree.specs.declared.program.Global.{Global}
use Rattle.c_tree.specs.declared.program.Global.TheVariants as global
use Rattle.c_tree.specs.declared.program.CTree.{CTree}
use Rattle.readings.specs.Whole.{Goods}
use Rattle.c_tree.specs.Formula.{Prefix, Formula, Further, Numeral, Named, Indexed, Called, CalledWith, Paren, Unary, Binary, NoMore, More, formula, further}
use Rattle.c_tree.specs.Statement.{Index, Act, Assign, Step, Invoke, Variable, Scalar, Initial, Array, Declaration, Opening, Acts, Declares, Statement, Braces, Empty, Simply, Break, Continue, Return, If, IfElse, While, Do, For, Body, Nothing, Declare, Then, Braced, index, act, variable, declaration, opening, part_step, statement_step, part, statement, block, chained}
use Rattle.c_tree.specs.Items.{Item, Variables, Defines, item, items}
use Rattle.c_tree.specs.Inverse.{expr_of, rest_of, index_of, simple_of, lvar_of, decl_of, first_of, stmt_of, parts_of, global_of, tree_of}
use Rattle.c_tree.proofs.FormulaLaws.{formula_laws}
use Rattle.c_tree.proofs.StatementLaws.{part_at, statement_at, block_at, statement_laws}
use Rattle.c_grammar.specs.Statements.{IsWritten, IsWrittenOpening, IsWrittenLast, IsWrittenStatement, IsWrittenBody}
use Rattle.c_grammar.specs.Programs.{IsWrittenItem}

-- ---- expressions

mutual
  formula_forth : (x : Formula) → formula (expr_of x) ≡ x
  formula_forth (Numeral n) = simp formula_laws refl
  formula_forth (Named n) = simp formula_laws refl
  formula_forth (Indexed n p i q) = simp (formula_laws, formula_forth i) refl
  formula_forth (Called n p q) = simp formula_laws refl
  formula_forth (CalledWith n p x xs q) = simp (formula_laws, formula_forth x, further_forth xs) refl
  formula_forth (Paren p x q) = simp (formula_laws, formula_forth x) refl
  formula_forth (Unary Prefix.Neg at x) = simp (formula_laws, formula_forth x) refl
  formula_forth (Unary Prefix.Inv at x) = simp (formula_laws, formula_forth x) refl
  formula_forth (Unary Prefix.Not at x) = simp (formula_laws, formula_forth x) refl
  formula_forth (Binary bin.OrElse x at y) = simp (formula_laws, formula_forth x, formula_forth y) refl
  formula_forth (Binary bin.AndAlso x at y) = simp (formula_laws, formula_forth x, formula_forth y) refl
  formula_forth (Binary bin.Or x at y) = simp (formula_laws, formula_forth x, formula_forth y) refl
  formula_forth (Binary bin.Xor x at y) = simp (formula_laws, formula_forth x, formula_forth y) refl
  formula_forth (Binary bin.And x at y) = simp (formula_laws, formula_forth x, formula_forth y) refl
  formula_forth (Binary bin.Eq x at y) = simp (formula_laws, formula_forth x, formula_forth y) refl
  formula_forth (Binary bin.Ne x at y) = simp (formula_laws, formula_forth x, formula_forth y) refl
  formula_forth (Binary bin.Lt x at y) = simp (formula_laws, formula_forth x, formula_forth y) refl
  formula_forth (Binary bin.Le x at y) = simp (formula_laws, formula_forth x, formula_forth y) refl
  formula_forth (Binary bin.Gt x at y) = simp (formula_laws, formula_forth x, formula_forth y) refl
  formula_forth (Binary bin.Ge x at y) = simp (formula_laws, formula_forth x, formula_forth y) refl
  formula_forth (Binary bin.Shl x at y) = simp (formula_laws, formula_forth x, formula_forth y) refl
  formula_forth (Binary bin.Shr x at y) = simp (formula_laws, formula_forth x, formula_forth y) refl
  formula_forth (Binary bin.Add x at y) = simp (formula_laws, formula_forth x, formula_forth y) refl
  formula_forth (Binary bin.Sub x at y) = simp (formula_laws, formula_forth x, formula_forth y) refl
  formula_forth (Binary bin.Mul x at y) = simp (formula_laws, formula_forth x, formula_forth y) refl

  further_forth : (xs : Further) → further (map (λ (comma, x). (comma, formula x)) (rest_of xs)) ≡ xs
  further_forth NoMore = refl
  further_forth (More comma x xs) = rw (formula_forth x, further_forth xs) refl

-- ---- parts of statements

index_forth : (i : Index) → index (index_of i) ≡ i
index_forth None = refl
index_forth (Some (p, i, q)) = rw (formula_forth i) refl

act_forth : (a : Act) → IsWritten a → act (simple_of a) ≡ a
act_forth (Assign n i s x) h = rw (index_forth i, formula_forth x) refl
act_forth (Step n i c) h = rw (index_forth i) refl
act_forth (Invoke (Called n p q)) h = refl
act_forth (Invoke (CalledWith n p x xs q)) h = rw (formula_forth x, further_forth xs) refl
act_forth (Invoke (Numeral n)) h = absurd h
act_forth (Invoke (Named n)) h = absurd h
act_forth (Invoke (Indexed n p i q)) h = absurd h
act_forth (Invoke (Paren p x q)) h = absurd h
act_forth (Invoke (Unary op at x)) h = absurd h
act_forth (Invoke (Binary op x at y)) h = absurd h

variable_forth : (v : Variable) → variable (lvar_of v) ≡ v
variable_forth (Scalar n) = refl
variable_forth (Initial n at x) = rw (formula_forth x) refl
variable_forth (Array n p z q) = refl

variables_forth : (vs : List (ℕ × Variable)) → map (λ (comma, v). (comma, variable v)) (map (λ (comma, v). (comma, lvar_of v)) vs) ≡ vs
variables_forth [] = refl
variables_forth ((comma, v) ∷ vs) = rw (variable_forth v, variables_forth vs) refl

declaration_forth : (d : Declaration) → declaration (decl_of d) ≡ d
declaration_forth d = rw (variable_forth d.first, variables_forth d.rest) refl

opening_forth : (f : Option Opening) → IsWrittenOpening f → option_map opening (option_map first_of f) ≡ f
opening_forth None h = refl
opening_forth (Some (Acts a)) h = rw (act_forth a h) refl
opening_forth (Some (Declares w v)) h = rw (variable_forth v) refl

value_forth : (x : Option Formula) → option_map formula (option_map expr_of x) ≡ x
value_forth None = refl
value_forth (Some x) = rw (formula_forth x) refl

last_forth : (a : Option Act) → IsWrittenLast a → option_map act (option_map simple_of a) ≡ a
last_forth None h = refl
last_forth (Some a) h = rw (act_forth a h) refl

-- ---- statements

mutual
  statement_forth : (s : Statement) → IsWrittenStatement s → statement (stmt_of s) ≡ s
  statement_forth (Braces p b q) h = simp (statement_laws, body_forth b h) refl
  statement_forth (Empty at) h = simp statement_laws refl
  statement_forth (Simply a at) h = simp (statement_laws, act_forth a h) refl
  statement_forth (Break at q) h = simp statement_laws refl
  statement_forth (Continue at q) h = simp statement_laws refl
  statement_forth (Return at x q) h = simp (statement_laws, value_forth x) refl
  statement_forth (If at p c q x) h = simp (statement_laws, formula_forth c, statement_forth x h) refl
  statement_forth (IfElse at p c q x f y) h = simp (statement_laws, formula_forth c, statement_forth x h.0, statement_forth y h.1) refl
  statement_forth (While at p c q x) h = simp (statement_laws, formula_forth c, statement_forth x h) refl
  statement_forth (Do at x w p c q z) h = simp (statement_laws, formula_forth c, statement_forth x h) refl
  statement_forth (For at p f a c b z q x) h = simp (statement_laws, opening_forth f h.0, value_forth c, last_forth z h.1, statement_forth x h.2) refl

  body_forth : (b : Body) → IsWrittenBody b → chained (map part (parts_of b)) ≡ b
  body_forth Nothing h = refl
  body_forth (Declare d rest) h = simp (statement_laws, declaration_forth d, body_forth rest h) refl
  body_forth (Then s rest) h = simp (statement_laws, statement_forth s h.0, body_forth rest h.1) refl

-- ---- programs

item_forth : (g : Item) → IsWrittenItem g → item (global_of g) ≡ g
item_forth (Variables v) h = refl
item_forth (Defines f) h = simp (statement_laws, body_forth f.braces.1 h) refl

-- what is written comes back from its tree
pub items_forth : (gs : List Item) → Goods IsWrittenItem gs → items (tree_of gs) ≡ gs
items_forth [] h = refl
items_forth (g ∷ gs) h = rw (item_forth g h.0, items_forth gs h.1) refl

-- ---- only calls are statements of a tree

act_written : (a : Simple) → IsWritten (act a)
act_written (simple.Assign t w x) = tt
act_written (simple.Step t w) = tt
act_written (simple.Call n p None q) = tt
act_written (simple.Call n p (Some (x, xs)) q) = tt

opening_written : (f : Option First) → IsWrittenOpening (option_map opening f)
opening_written None = tt
opening_written (Some (first.Simple a)) = act_written a
opening_written (Some (first.Var w v)) = tt

last_written : (a : Option Simple) → IsWrittenLast (option_map act a)
last_written None = tt
last_written (Some a) = act_written a

-- a part, a statement, a block whose statements are written so
abbrev PartKid : Type 0
PartKid = (x : Part) × ((rest : Body) → IsWrittenBody rest → IsWrittenBody (part x rest))

abbrev StmtKid : Type 0
StmtKid = (x : Stmt) × IsWrittenStatement (statement x)

abbrev BlockKid : Type 0
BlockKid = (x : Block) × IsWrittenBody (block x).1

abbrev plain_part : Part-F PartKid StmtKid BlockKid → Part-F Part Stmt Block
plain_part y = map-Part PartKid StmtKid BlockKid Part Stmt Block (λ x. x.0) (λ x. x.0) (λ x. x.0) y

abbrev plain_stmt : Stmt-F PartKid StmtKid BlockKid → Stmt-F Part Stmt Block
plain_stmt y = map-Stmt PartKid StmtKid BlockKid Part Stmt Block (λ x. x.0) (λ x. x.0) (λ x. x.0) y

abbrev plain_block : Block-F PartKid StmtKid BlockKid → Block-F Part Stmt Block
plain_block y = map-Block PartKid StmtKid BlockKid Part Stmt Block (λ x. x.0) (λ x. x.0) (λ x. x.0) y

part_written : (y : Part-F PartKid StmtKid BlockKid) (rest : Body) → IsWrittenBody rest
    → IsWrittenBody (part_step (map-Part Part Stmt Block (Body → Body) Statement Braced part statement block (plain_part y)) rest)
part_written (Part-F.Decl d) rest h = h
part_written (Part-F.Stmt x) rest h = (x.1, h)

stmt_written : (y : Stmt-F PartKid StmtKid BlockKid)
    → IsWrittenStatement (statement_step (map-Stmt Part Stmt Block (Body → Body) Statement Braced part statement block (plain_stmt y)))
stmt_written (Stmt-F.Block b) = b.1
stmt_written (Stmt-F.Empty at) = tt
stmt_written (Stmt-F.Simple a at) = act_written a
stmt_written (Stmt-F.Break at q) = tt
stmt_written (Stmt-F.Continue at q) = tt
stmt_written (Stmt-F.Return at x q) = tt
stmt_written (Stmt-F.If at p c q x None) = x.1
stmt_written (Stmt-F.If at p c q x (Some (f, y))) = (x.1, y.1)
stmt_written (Stmt-F.While at p c q x) = x.1
stmt_written (Stmt-F.Do at x w p c q z) = x.1
stmt_written (Stmt-F.For at p f a c b z q x) = (opening_written f, last_written z, x.1)

parts_written : (xs : List PartKid) → IsWrittenBody (chained (map part (map (λ (x : PartKid). x.0) xs)))
parts_written [] = tt
parts_written (x ∷ xs) = x.1 (chained (map part (map (λ (y : PartKid). y.0) xs))) (parts_written xs)

part_goes : (x : Part-F Part Stmt Block) (y : Part-F PartKid StmtKid BlockKid) → plain_part y ≡ x → (rest : Body) → IsWrittenBody rest → IsWrittenBody (part (roll-Part x) rest)
part_goes x y is =
    subst (λ z. (rest : Body) → IsWrittenBody rest → IsWrittenBody (part (roll-Part z) rest)) is
    (λ rest h. subst IsWrittenBody (sym (part_at (plain_part y) refl rest)) (part_written y rest h))

stmt_goes : (x : Stmt-F Part Stmt Block) (y : Stmt-F PartKid StmtKid BlockKid) → plain_stmt y ≡ x → IsWrittenStatement (statement (roll-Stmt x))
stmt_goes x y is =
    subst (λ z. IsWrittenStatement (statement (roll-Stmt z))) is (subst IsWrittenStatement (sym (statement_at (plain_stmt y) refl)) (stmt_written y))

block_goes : (x : Block-F Part Stmt Block) (y : Block-F PartKid StmtKid BlockKid) → plain_block y ≡ x → IsWrittenBody (block (roll-Block x)).1
block_goes x y is =
    subst (λ z. IsWrittenBody (block (roll-Block z)).1) is (subst (λ (b : Braced). IsWrittenBody b.1) (sym (block_at (plain_block y) refl)) (parts_written y.parts))

block_written : (x : Block) → IsWrittenBody (block x).1
block_written =
    ind-Block (λ x. (rest : Body) → IsWrittenBody rest → IsWrittenBody (part x rest)) (λ x. IsWrittenStatement (statement x)) (λ x. IsWrittenBody (block x).1)
    part_goes stmt_goes block_goes

item_written : (g : Global) → IsWrittenItem (item g)
item_written (global.Vars v) = tt
item_written (global.Function f) = block_written f.body

globals_written : (gs : List Global) → Goods IsWrittenItem (map item gs)
globals_written [] = tt
globals_written (g ∷ gs) = (item_written g, globals_written gs)

pub items_written : (c : CTree) → Goods IsWrittenItem (items c)
items_written c = globals_written c.globals

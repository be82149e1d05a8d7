-- The resolved program of a tree. A name that is used wrongly gives a 0 or nothing to do: an accepted program has none.
use Rattle.std.specs.Prelude.{ℕ, ℤ, pos, neg_ℤ, Bool, true, false, not, List, [], ◌∷◌, ◌++◌, length, map, filter, replicate, Option, Some, None, option_map, codes}
use Rattle.nk_base.specs.Text.{text_eq}
use Rattle.ir_core.specs.declared.operator.Prefix.TheVariants as prefix
use Rattle.ir_core.specs.declared.operator.Shift.TheVariants as shift
use Rattle.ir_core.specs.declared.operator.Arith.TheVariants as arith
use Rattle.ir_core.specs.declared.relation.Rel.TheVariants as rel
use Rattle.c_tree.specs.declared.operator.Bin.{Bin}
use Rattle.c_tree.specs.declared.operator.Bin.TheVariants as bin
use Rattle.c_tree.specs.declared.statement.AssignMark.{AssignMark}
use Rattle.c_tree.specs.declared.statement.AssignMark.TheVariants as store
use Rattle.c_tree.specs.declared.statement.StepMark.{StepMark}
use Rattle.c_tree.specs.declared.statement.StepMark.TheVariants as change
use Rattle.c_tree.specs.declared.program.SNum.{SNum}
use Rattle.c_tree.specs.declared.program.GVar.{GVar}
use Rattle.c_tree.specs.declared.program.GVar.TheVariants as gvar
use Rattle.c_tree.specs.declared.program.CTree.{CTree}
use Rattle.c_tree.specs.declared.meaning.Place.{Place}
use Rattle.c_tree.specs.declared.meaning.Meaning.{Meaning}
use Rattle.c_tree.specs.declared.meaning.Meaning.TheVariants.{OneCell, Cells, Callee, In, Out}
use Rattle.c_tree.specs.Formula.{Formula, Further, Numeral, Named, Indexed, Called, CalledWith, Paren, Binary}
use Rattle.c_tree.specs.Formula as formula
use Rattle.c_tree.specs.Statement.{Index, Act, Variable, Scalar, Initial, Array, Declaration, Opening, Acts, Declares, Statement, Body, Braced}
use Rattle.c_tree.specs.Items.{Definition, Item, Variables, Defines, items}
use Rattle.c_tree.specs.Statement as statement
use Rattle.c_tree.specs.Names.{Names, seen, callee, inner, declared_variables, behind_variable, behind_variables, behind_opening, behind_statement, body_shapes, parameters, gives_value, first_names, behind_global, before_body, gvars, gvar_shape}
use Rattle.c_tree.specs.Program.{Term, Terms, Number, Element, Input, Call, Unary, Shifted, Arithmetic, Compare, Not, AndAlso, OrElse, NoMore, More, Command, Skip, Seq, Turn, Set, Print, Take, Invoke, If, IfElse, While, Do, For, Break, Continue, Return, Shape, Program}
use Rattle.c_tree.specs.Program as program

-- ---- expressions

-- a variable's value
abbrev pub scalar : Option Meaning → Term
scalar (Some (OneCell p)) = program.Scalar p
scalar _ = Number 0

abbrev pub element : Option Meaning → Term → Term
element (Some (Cells p n)) i = Element p n i
element _ i = Number 0

abbrev pub called : Option Meaning → Terms → Term
called (Some (Callee f arity gives)) xs = Call f xs
called (Some In) xs = Input
called _ xs = Number 0

-- the number that a formula is, where it is written as one
abbrev pub written : Formula → ℕ
written (Numeral z) = z.value
written _ = 0

abbrev pub unary : formula.Prefix → Term → Term
unary formula.Neg x = Unary prefix.Neg x
unary formula.Inv x = Unary prefix.Not x
unary formula.Not x = Not x

-- the amount of a shift is a written number
abbrev pub binary : Bin → Term → Term → ℕ → Term
binary bin.OrElse x y k = OrElse x y
binary bin.AndAlso x y k = AndAlso x y
binary bin.Or x y k = Arithmetic arith.Or x y
binary bin.Xor x y k = Arithmetic arith.Xor x y
binary bin.And x y k = Arithmetic arith.And x y
binary bin.Eq x y k = Compare rel.Eq x y
binary bin.Ne x y k = Compare rel.Ne x y
binary bin.Lt x y k = Compare rel.Lt x y
binary bin.Le x y k = Compare rel.Le x y
binary bin.Gt x y k = Compare rel.Gt x y
binary bin.Ge x y k = Compare rel.Ge x y
binary bin.Shl x y k = Shifted shift.Shl x k
binary bin.Shr x y k = Shifted shift.Shr x k
binary bin.Add x y k = Arithmetic arith.Add x y
binary bin.Sub x y k = Arithmetic arith.Sub x y
binary bin.Mul x y k = Arithmetic arith.Mul x y

abbrev mutual
  pub term : Names → Formula → Term
  term s (Numeral z) = Number z.value
  term s (Named n) = scalar (seen s n.text)
  term s (Indexed n p i q) = element (seen s n.text) (term s i)
  term s (Called n p q) = called (callee s n.text) NoMore
  term s (CalledWith n p x xs q) = called (callee s n.text) (More (term s x) (terms s xs))
  term s (Paren p x q) = term s x
  term s (formula.Unary op at x) = unary op (term s x)
  term s (Binary op x at y) = binary op (term s x) (term s y) (written y)

  pub terms : Names → Further → Terms
  terms s formula.NoMore = NoMore
  terms s (formula.More comma x xs) = More (term s x) (terms s xs)

-- ---- simple statements

abbrev pub stored : AssignMark → Term → Term → Term
stored (store.Set at) x e = e
stored (store.Add at) x e = Arithmetic arith.Add x e
stored (store.Sub at) x e = Arithmetic arith.Sub x e

abbrev pub element_stored : AssignMark → Place → ℕ → Term → Term → Command
element_stored (store.Set at) p n i e = program.Store p n i e
element_stored (store.Add at) p n i e = program.Change p n i arith.Add e
element_stored (store.Sub at) p n i e = program.Change p n i arith.Sub e

-- `x = e` and the like
abbrev pub assigned : Option Meaning → Option Term → AssignMark → Term → Command
assigned (Some (OneCell p)) None s e = Set p (stored s (program.Scalar p) e)
assigned (Some (Cells p n)) (Some i) s e = element_stored s p n i e
assigned _ _ s e = Skip

-- `x++` is `x += 1`, `x--` is `x -= 1`
abbrev pub as_store : StepMark → AssignMark
as_store (change.Up at) = store.Add at
as_store (change.Down at) = store.Sub at

abbrev pub index_term : Names → Index → Option Term
index_term s = option_map (λ (p, i, q). term s i)

-- the first of the arguments
abbrev pub first_term : Terms → Term
first_term NoMore = Number 0
first_term (More x xs) = x

abbrev pub invoked : Option Meaning → Terms → Command
invoked (Some (Callee f arity gives)) xs = Invoke f xs
invoked (Some In) xs = Take
invoked (Some Out) xs = Print (first_term xs)
invoked _ xs = Skip

abbrev pub invocation : Names → Formula → Command
invocation s (Called n p q) = invoked (callee s n.text) NoMore
invocation s (CalledWith n p x xs q) = invoked (callee s n.text) (More (term s x) (terms s xs))
invocation s _ = Skip

abbrev pub act : Names → Act → Command
act s (statement.Assign n i store e) = assigned (seen s n.text) (index_term s i) store (term s e)
act s (statement.Step n i c) = assigned (seen s n.text) (index_term s i) (as_store c) (Number 1)
act s (statement.Invoke x) = invocation s x

-- ---- statements

-- a local variable with an initial value gets it, and it is seen from its own name on
abbrev pub variable : Names → Variable → Command
variable s (Scalar n) = Skip
variable s (Initial n at e) = let inside = behind_variable s (Initial n at e) in assigned (seen inside n.text) None (store.Set at) (term inside e)
variable s (Array n p z q) = Skip

abbrev pub variables : Names → List Variable → Command
variables s [] = Skip
variables s (v ∷ vs) = Seq (variable s v) (variables (behind_variable s v) vs)

abbrev pub opening : Names → Option Opening → Command
opening s None = Skip
opening s (Some (Acts a)) = act s a
opening s (Some (Declares w v)) = variable s v

abbrev pub last : Names → Option Act → Command
last s None = Skip
last s (Some a) = act s a

-- A turn is paid for each statement other than a block, and for each declaration; a test of a loop pays its own. The first part and the last of a
-- `for` pay none.
abbrev mutual
  pub command : Names → Statement → Command
  command s (statement.Braces p b q) = commands (inner s) b
  command s (statement.Empty semicolon) = Turn Skip
  command s (statement.Simply a semicolon) = Turn (act s a)
  command s (statement.Break at semicolon) = Turn Break
  command s (statement.Continue at semicolon) = Turn Continue
  command s (statement.Return at e semicolon) = Turn (Return (option_map (term s) e))
  command s (statement.If at p c q x) = Turn (If (term s c) (command s x))
  command s (statement.IfElse at p c q x f y) = Turn (IfElse (term s c) (command s x) (command (behind_statement s x) y))
  command s (statement.While at p c q x) = Turn (While (term s c) (command s x))
  command s (statement.Do at x w p c q semicolon) = Turn (Do (command s x) (term (behind_statement s x) c))
  command s (statement.For at p first a c b step q x) =
      Turn (Seq (opening (inner s) first)
      (For (option_map (term (behind_opening s first)) c) (last (behind_opening s first) step) (command (behind_opening s first) x)))

  pub commands : Names → Body → Command
  commands s statement.Nothing = Skip
  commands s (statement.Declare d rest) = Seq (Turn (variables s (declared_variables d))) (commands (behind_variables s (declared_variables d)) rest)
  commands s (statement.Then x rest) = Seq (command s x) (commands (behind_statement s x) rest)

-- ---- globals

-- the last thing in the body is a `return`
abbrev pub ends_with_return : Body → Bool
ends_with_return statement.Nothing = false
ends_with_return (statement.Declare d rest) = ends_with_return rest
ends_with_return (statement.Then (statement.Return at e semicolon) statement.Nothing) = true
ends_with_return (statement.Then x rest) = ends_with_return rest

abbrev pub body_of : Braced → Body
body_of (p, b, q) = b

abbrev pub function : Names → Definition → program.Function
function s f = record {
  name = f.name;
  arity = length (parameters f.params);
  gives = gives_value f.result;
  variables = replicate (length (parameters f.params)) None ++ body_shapes (body_of f.braces);
  body = commands (before_body s f) (body_of f.braces);
  returns = ends_with_return (body_of f.braces);
}

-- the functions of these globals
abbrev pub resolved_functions : Names → List Item → List program.Function
resolved_functions s [] = []
resolved_functions s (Variables v ∷ gs) = resolved_functions (behind_global s (Variables v)) gs
resolved_functions s (Defines f ∷ gs) = function s f ∷ resolved_functions (behind_global s (Defines f)) gs

abbrev pub signed : Option ℕ → ℕ → ℤ
signed None z = pos z
signed (Some at) z = neg_ℤ (pos z)

abbrev pub initial : SNum → ℤ
initial z = signed z.minus z.number.value

abbrev pub initials : GVar → List ℤ
initials (gvar.Scalar n None) = []
initials (gvar.Scalar n (Some (at, z))) = initial z ∷ []
initials (gvar.Array n p z q None) = []
initials (gvar.Array n p z q (Some (at, l, y, ys, r))) = initial y ∷ map (λ (comma, x). initial x) ys

abbrev pub global_variables : List Item → List program.GlobalVariable
global_variables [] = []
global_variables (Variables v ∷ gs) = map (λ x. record { shape = gvar_shape x; initial = initials x }) (gvars v) ++ global_variables gs
global_variables (Defines f ∷ gs) = global_variables gs

abbrev pub named_main : program.Function → Bool
named_main f = text_eq f.name.text (codes "main")

abbrev pub first_of_all : List program.Function → Option program.Function
first_of_all [] = None
first_of_all (f ∷ fs) = Some f

abbrev pub resolved_items : List Item → Program
resolved_items gs = record {
  globals = global_variables gs;
  main = first_of_all (filter named_main (resolved_functions (first_names gs) gs));
  functions = filter (λ f. not (named_main f)) (resolved_functions (first_names gs) gs);
}

abbrev pub resolved : CTree → Program
resolved c = resolved_items (items c)

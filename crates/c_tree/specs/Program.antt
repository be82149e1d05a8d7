-- A program whose names are resolved: what it means, how it is compiled and what is counted of it all go by this.
use Rattle.std.specs.Prelude.{ℕ, ◌+◌, ℤ, Bool, List, [], ◌∷◌, Option, Some, None}
use Rattle.ir_core.specs.declared.operator.Prefix.{Prefix}
use Rattle.ir_core.specs.declared.operator.Shift.{Shift}
use Rattle.ir_core.specs.declared.operator.Arith.{Arith}
use Rattle.ir_core.specs.declared.relation.Rel.{Rel}
use Rattle.c_tree.specs.declared.names.Name.{Name}
use Rattle.c_tree.specs.declared.meaning.Place.{Place}

-- an expression; parentheses give what stands in them
mutual
  pub data Term : Type 0 where
    Number : ℕ → Term
    Scalar : Place → Term  -- a variable's value
    Element : Place → (length : ℕ) → Term → Term  -- an array's element
    Input : Term  -- `in()`
    Call : (function : ℕ) → Terms → Term
    Unary : Prefix → Term → Term  -- `-` and `~`
    Shifted : Shift → Term → (by : ℕ) → Term
    Arithmetic : Arith → Term → Term → Term
    Compare : Rel → Term → Term → Term
    Not : Term → Term
    AndAlso : Term → Term → Term
    OrElse : Term → Term → Term

  -- the arguments of a call
  pub data Terms : Type 0 where
    NoMore : Terms
    More : Term → Terms → Terms

-- a statement, a declaration or several; what pays a turn stands under `Turn`
pub data Command : Type 0 where
  Skip : Command
  Seq : Command → Command → Command  -- one after the other
  Turn : Command → Command
  Set : Place → Term → Command  -- `x = e`
  Store : Place → (length : ℕ) → (index : Term) → Term → Command  -- `a[i] = e`
  Change : Place → (length : ℕ) → (index : Term) → Arith → Term → Command  -- `a[i] += e` and the like
  Print : Term → Command  -- `out(e)`
  Take : Command  -- `in()`
  Invoke : (function : ℕ) → Terms → Command
  If : Term → Command → Command
  IfElse : Term → Command → Command → Command
  While : Term → Command → Command
  Do : Command → Term → Command
  For : Option Term → (step : Command) → (body : Command) → Command
  Break : Command
  Continue : Command
  Return : Option Term → Command

-- a variable: a scalar, or an array of this length
abbrev pub Shape : Type 0
Shape = Option ℕ

-- how many cells a variable has
abbrev pub size : Shape → ℕ
size None = 1
size (Some length) = length

-- how many cells variables have together
abbrev pub sizes : List Shape → ℕ
sizes [] = 0
sizes (v ∷ vs) = size v + sizes vs

-- a function: how many parameters it has, whether it gives a value, its parameters and then its locals in the text's order, its body, and whether
-- the last thing in the body's braces is a `return`
pub record Function : Type 0 where
  pub name : Name
  pub arity : ℕ
  pub gives : Bool
  pub variables : List Shape
  pub body : Command
  pub returns : Bool

-- a global variable and its initial values
pub record GlobalVariable : Type 0 where
  pub shape : Shape
  pub initial : List ℤ

-- the globals, `main` and the other functions, in the text's order; a call names one of the others by its number from 0
pub record Program : Type 0 where
  pub globals : List GlobalVariable
  pub main : Option Function
  pub functions : List Function

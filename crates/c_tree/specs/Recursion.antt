-- Which functions reach which by calls. A function other than `main` goes by its number among those, in the text's order.
use Rattle.std.specs.Prelude.{◌≡◌, ℕ, zero, suc, ◌≤◌, List, [], ◌∷◌, ◌++◌, Option, Some, None, slice_get, ◌⊎◌, if◌then◌else◌}
use Rattle.c_tree.specs.declared.meaning.Meaning.{Meaning}
use Rattle.c_tree.specs.declared.meaning.Meaning.TheVariants.{Callee}
use Rattle.c_tree.specs.Formula.{Formula, Further, Numeral, Named, Indexed, Called, CalledWith, Paren, Unary, Binary, NoMore, More}
use Rattle.c_tree.specs.Statement.{Index, Act, Assign, Step, Invoke, Variable, Scalar, Initial, Array, Opening, Acts, Declares, Statement, Braces, Empty, Simply, Break, Continue, Return, If, IfElse, While, Do, For, Body, Nothing, Declare, Then}
use Rattle.c_tree.specs.Items.{Definition, Item, Variables, Defines}
use Rattle.c_tree.specs.Names.{Names, callee, inner, declared_variables, behind_variable, behind_variables, behind_opening, behind_statement, is_main, functions_in, first_names, behind_global, before_body}
use Rattle.c_tree.specs.Resolve.{body_of}

-- ---- the functions that are called, in the text's order

abbrev pub callee_of : Option Meaning → List ℕ
callee_of (Some (Callee g arity gives)) = g ∷ []
callee_of _ = []

abbrev mutual
  pub formula_callees : Names → Formula → List ℕ
  formula_callees s (Numeral z) = []
  formula_callees s (Named n) = []
  formula_callees s (Indexed n p i q) = formula_callees s i
  formula_callees s (Called n p q) = callee_of (callee s n.text)
  formula_callees s (CalledWith n p x xs q) = callee_of (callee s n.text) ++ formula_callees s x ++ further_callees s xs
  formula_callees s (Paren p x q) = formula_callees s x
  formula_callees s (Unary op at x) = formula_callees s x
  formula_callees s (Binary op x at y) = formula_callees s x ++ formula_callees s y

  pub further_callees : Names → Further → List ℕ
  further_callees s NoMore = []
  further_callees s (More comma x xs) = formula_callees s x ++ further_callees s xs

abbrev pub optional_callees : Names → Option Formula → List ℕ
optional_callees s None = []
optional_callees s (Some x) = formula_callees s x

abbrev pub index_callees : Names → Index → List ℕ
index_callees s None = []
index_callees s (Some (p, i, q)) = formula_callees s i

abbrev pub act_callees : Names → Act → List ℕ
act_callees s (Assign x i store e) = index_callees s i ++ formula_callees s e
act_callees s (Step x i c) = index_callees s i
act_callees s (Invoke x) = formula_callees s x

abbrev pub variable_callees : Names → Variable → List ℕ
variable_callees s (Scalar x) = []
variable_callees s (Initial x at e) = formula_callees (behind_variable s (Initial x at e)) e
variable_callees s (Array x p z q) = []

abbrev pub variables_callees : Names → List Variable → List ℕ
variables_callees s [] = []
variables_callees s (v ∷ vs) = variable_callees s v ++ variables_callees (behind_variable s v) vs

abbrev pub opening_callees : Names → Option Opening → List ℕ
opening_callees s None = []
opening_callees s (Some (Acts a)) = act_callees s a
opening_callees s (Some (Declares word v)) = variable_callees s v

abbrev pub last_callees : Names → Option Act → List ℕ
last_callees s None = []
last_callees s (Some a) = act_callees s a

abbrev mutual
  pub statement_callees : Names → Statement → List ℕ
  statement_callees s (Braces p b q) = body_callees (inner s) b
  statement_callees s (Empty semicolon) = []
  statement_callees s (Simply a semicolon) = act_callees s a
  statement_callees s (Break at semicolon) = []
  statement_callees s (Continue at semicolon) = []
  statement_callees s (Return at e semicolon) = optional_callees s e
  statement_callees s (If at p c q x) = formula_callees s c ++ statement_callees s x
  statement_callees s (IfElse at p c q x f y) = formula_callees s c ++ statement_callees s x ++ statement_callees (behind_statement s x) y
  statement_callees s (While at p c q x) = formula_callees s c ++ statement_callees s x
  statement_callees s (Do at x v p c q semicolon) = statement_callees s x ++ formula_callees (behind_statement s x) c
  statement_callees s (For at p first a c b step q x) =
      opening_callees (inner s) first ++ optional_callees (behind_opening s first) c ++ last_callees (behind_opening s first) step
      ++ statement_callees (behind_opening s first) x

  pub body_callees : Names → Body → List ℕ
  body_callees s Nothing = []
  body_callees s (Declare d rest) = variables_callees s (declared_variables d) ++ body_callees (behind_variables s (declared_variables d)) rest
  body_callees s (Then x rest) = statement_callees s x ++ body_callees (behind_statement s x) rest

-- ---- the graph of calls

-- a row for each function: the numbers of those that it calls
abbrev pub Graph : Type 0
Graph = List (List ℕ)

abbrev pub graph : Names → List Item → Graph
graph s [] = []
graph s (Variables v ∷ gs) = graph (behind_global s (Variables v)) gs
graph s (Defines f ∷ gs) =
    if is_main f then graph (behind_global s (Defines f)) gs
    else body_callees (before_body s f) (body_of f.braces) ∷ graph (behind_global s (Defines f)) gs

abbrev pub calls_of : List Item → Graph
calls_of gs = graph (first_names gs) gs

-- the numbers in a row
abbrev pub row : Graph → ℕ → List ℕ
row [] a = []
row (r ∷ g) zero = r
row (r ∷ g) (suc a) = row g a

-- the number stands in the list
abbrev pub Among : List ℕ → ℕ → Type 0
Among [] x = ⊥
Among (y ∷ ys) x = (y ≡ x) ⊎ Among ys x

-- a calls b
abbrev pub Edge : Graph → ℕ → ℕ → Type 0
Edge g a b = Among (row g a) b

-- the first calls the second, or one that reaches it
pub data Reaches (g : Graph) : ℕ → ℕ → Type 0 where
  at_once : {a b : ℕ} → Edge g a b → Reaches g a b
  over : {a b c : ℕ} → Edge g a b → Reaches g b c → Reaches g a c

-- no function reaches itself
abbrev pub IsAcyclic : Graph → Type 0
IsAcyclic g = (f : ℕ) → Reaches g f f → ⊥

-- ---- functions by their numbers

-- those other than `main`
abbrev pub others : List Definition → List Definition
others [] = []
others (f ∷ fs) = if is_main f then others fs else f ∷ others fs

-- the first that is `main`
abbrev pub main_of : List Definition → Option Definition
main_of [] = None
main_of (f ∷ fs) = if is_main f then Some f else main_of fs

-- the first function that reaches itself has this name
pub record IsFirstRecursive (gs : List Item) (name : List ℕ) : Type 0 where
  pub number : ℕ
  pub function : Definition
  pub is : slice_get (others (functions_in gs)) number ≡ Some function
  pub named : function.name.text ≡ name
  pub recursive : Reaches (calls_of gs) number number
  pub first : (f : ℕ) → Reaches (calls_of gs) f f → number ≤ f

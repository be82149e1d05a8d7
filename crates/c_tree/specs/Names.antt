-- What names mean at a place of the text.
use Rattle.std.specs.Prelude.{ℕ, ◌+◌, Bool, true, false, ◌||◌, List, [], ◌∷◌, ◌++◌, length, map, Option, Some, None, is_some, if◌then◌else◌, codes}
use Rattle.std.specs.Map.{lookup}
use Rattle.nk_base.specs.Text.{text_eq}
use Rattle.c_tree.specs.declared.names.Name.{Name}
use Rattle.c_tree.specs.declared.program.GVar.{GVar}
use Rattle.c_tree.specs.declared.program.GVar.TheVariants as gvar
use Rattle.c_tree.specs.declared.program.Vars.{Vars}
use Rattle.c_tree.specs.declared.program.ResultWord.{ResultWord}
use Rattle.c_tree.specs.declared.program.ResultWord.TheVariants as result_word
use Rattle.c_tree.specs.declared.program.Param.{Param}
use Rattle.c_tree.specs.declared.program.Params.{Params}
use Rattle.c_tree.specs.declared.program.Params.TheVariants as params
use Rattle.c_tree.specs.declared.meaning.Place.{Place}
use Rattle.c_tree.specs.declared.meaning.Place.TheVariants as places
use Rattle.c_tree.specs.declared.meaning.Meaning.{Meaning}
use Rattle.c_tree.specs.declared.meaning.Meaning.TheVariants.{OneCell, Cells, Callee, Main, In, Out}
use Rattle.c_tree.specs.Statement.{Variable, Scalar, Initial, Array, Declaration, Opening, Acts, Declares, Statement, Braces, If, IfElse, While, Do, For, Body, Nothing, Declare, Then}
use Rattle.c_tree.specs.Items.{Definition, Item, Variables, Defines}
use Rattle.c_tree.specs.Program.{Shape, size, sizes}

abbrev pub Meanings : Type 0
Meanings = List (List ℕ × Meaning)

-- What is declared in the block so far; what is seen of the blocks around it, the innermost first; the functions of the whole text, with `main` also
-- where the text has none; and the next free cell.
pub record Names : Type 0 where
  pub block : Meanings
  pub outer : List Meanings
  pub functions : Meanings
  pub next : ℕ

-- what a name means by a list
abbrev pub meaning_in : Meanings → List ℕ → Option Meaning
meaning_in ms name = lookup (text_eq name) ms

-- a name with its meaning: what the list said of it before is forgotten
abbrev pub with_meaning : Meanings → List ℕ → Meaning → Meanings
with_meaning [] name m = (name, m) ∷ []
with_meaning (e ∷ es) name m = if text_eq name e.0 then (e.0, m) ∷ es else e ∷ with_meaning es name m

abbrev pub or_else : Option Meaning → Option Meaning → Option Meaning
or_else None m = m
or_else (Some m) other = Some m

-- what a name means by blocks, the innermost first
abbrev pub meaning_through : List Meanings → List ℕ → Option Meaning
meaning_through [] name = None
meaning_through (ms ∷ outer) name = or_else (meaning_in ms name) (meaning_through outer name)

-- what a name means that was declared before
abbrev pub seen : Names → List ℕ → Option Meaning
seen s name = meaning_through (s.block ∷ s.outer) name

-- what a name means that is called: a function may stand later
abbrev pub callee : Names → List ℕ → Option Meaning
callee s name = or_else (seen s name) (meaning_in s.functions name)

-- `in` and `out` are declared nowhere and seen everywhere
abbrev pub ports : Meanings
ports = (codes "in", In) ∷ (codes "out", Out) ∷ []

-- the name was declared in this block before, or is `in` or `out`
abbrev pub is_taken : Names → List ℕ → Bool
is_taken s name = is_some (meaning_in s.block name) || is_some (meaning_in ports name)

-- ---- declarations

-- a variable of this shape
abbrev pub variable_at : Shape → Place → Meaning
variable_at None p = OneCell p
variable_at (Some length) p = Cells p length

-- a name is declared
abbrev pub with_name : Names → List ℕ → Meaning → Names
with_name s name m = record s { block = with_meaning s.block name m }

-- a variable is declared, and takes the next cells
abbrev pub with_variable : (ℕ → Place) → Names → List ℕ → Shape → Names
with_variable place s name v = record (with_name s name (variable_at v (place s.next))) { next = s.next + size v }

-- a block begins
abbrev pub inner : Names → Names
inner s = record s { block = []; outer = s.block ∷ s.outer }

-- ---- local variables

abbrev pub name_of : Variable → Name
name_of (Scalar n) = n
name_of (Initial n at e) = n
name_of (Array n p z q) = n

abbrev pub shape : Variable → Shape
shape (Scalar n) = None
shape (Initial n at e) = None
shape (Array n p z q) = Some z.value

abbrev pub declared_variables : Declaration → List Variable
declared_variables d = d.first ∷ map (λ (comma, v). v) d.rest

-- behind a local variable
abbrev pub behind_variable : Names → Variable → Names
behind_variable s v = with_variable places.Local s (name_of v).text (shape v)

abbrev pub behind_variables : Names → List Variable → Names
behind_variables s [] = s
behind_variables s (v ∷ vs) = behind_variables (behind_variable s v) vs

-- behind the first part of a `for`, in a block of its own
abbrev pub behind_opening : Names → Option Opening → Names
behind_opening s None = inner s
behind_opening s (Some (Acts a)) = inner s
behind_opening s (Some (Declares w v)) = behind_variable (inner s) v

-- the local variables of a statement, in the text's order
abbrev pub opening_shapes : Option Opening → List Shape
opening_shapes None = []
opening_shapes (Some (Acts a)) = []
opening_shapes (Some (Declares w v)) = shape v ∷ []

abbrev mutual
  pub statement_shapes : Statement → List Shape
  statement_shapes (Braces p b q) = body_shapes b
  statement_shapes (If at p c q x) = statement_shapes x
  statement_shapes (IfElse at p c q x f y) = statement_shapes x ++ statement_shapes y
  statement_shapes (While at p c q x) = statement_shapes x
  statement_shapes (Do at x w p c q semicolon) = statement_shapes x
  statement_shapes (For at p first a c b last q x) = opening_shapes first ++ statement_shapes x
  statement_shapes _ = []

  pub body_shapes : Body → List Shape
  body_shapes Nothing = []
  body_shapes (Declare d rest) = map shape (declared_variables d) ++ body_shapes rest
  body_shapes (Then s rest) = statement_shapes s ++ body_shapes rest

-- behind a statement, whose own names are seen no more and whose cells are taken
abbrev pub behind_statement : Names → Statement → Names
behind_statement s x = record s { next = s.next + sizes (statement_shapes x) }

-- ---- globals

abbrev pub gvar_name : GVar → Name
gvar_name (gvar.Scalar n z) = n
gvar_name (gvar.Array n p z q zs) = n

abbrev pub gvar_shape : GVar → Shape
gvar_shape (gvar.Scalar n z) = None
gvar_shape (gvar.Array n p z q zs) = Some z.value

abbrev pub gvars : Vars → List GVar
gvars v = v.first ∷ map (λ (comma, x). x) v.rest

-- the parameters of a function
abbrev pub parameters : Option Params → List Param
parameters None = []
parameters (Some (params.Void at)) = []
parameters (Some (params.Named p ps)) = p ∷ map (λ (comma, x). x) ps

abbrev pub gives_value : ResultWord → Bool
gives_value (result_word.Type w) = true
gives_value (result_word.Void at) = false

abbrev pub is_main : Definition → Bool
is_main f = text_eq f.name.text (codes "main")

-- the functions of the text, in order
abbrev pub functions_in : List Item → List Definition
functions_in [] = []
functions_in (Variables v ∷ gs) = functions_in gs
functions_in (Defines f ∷ gs) = f ∷ functions_in gs

-- what a function's name means, so many others standing before
abbrev pub function_meaning : ℕ → Definition → Meaning
function_meaning n f = if is_main f then Main else Callee n (length (parameters f.params)) (gives_value f.result)

-- how many others stand before the next function
abbrev pub next_number : ℕ → Definition → ℕ
next_number n f = if is_main f then n else n + 1

-- what the names of functions mean, so many others standing before them
abbrev pub function_meanings : Meanings → ℕ → List Definition → Meanings
function_meanings ms n [] = ms
function_meanings ms n (f ∷ fs) = function_meanings (with_meaning ms f.name.text (function_meaning n f)) (next_number n f) fs

-- a call of the name `main` is one of `main`, also where the text has none
abbrev pub main_alone : Meanings
main_alone = (codes "main", Main) ∷ []

-- before the first global
abbrev pub first_names : List Item → Names
first_names gs = record { block = []; outer = ports ∷ []; functions = function_meanings main_alone 0 (functions_in gs); next = 0 }

abbrev pub behind_gvar : Names → GVar → Names
behind_gvar s v = with_variable places.Global s (gvar_name v).text (gvar_shape v)

abbrev pub behind_gvars : Names → List GVar → Names
behind_gvars s [] = s
behind_gvars s (v ∷ vs) = behind_gvars (behind_gvar s v) vs

-- what a function's own name means
abbrev pub own_meaning : Option Meaning → Meaning
own_meaning None = Main
own_meaning (Some m) = m

-- behind a function's name, which is seen in its own body and from there on
abbrev pub behind_name : Names → Definition → Names
behind_name s f = with_name s f.name.text (own_meaning (meaning_in s.functions f.name.text))

abbrev pub behind_global : Names → Item → Names
behind_global s (Variables v) = behind_gvars s (gvars v)
behind_global s (Defines f) = behind_name s f

-- where a function's parameters begin: the parameters stand in the block of its body, and its cells are counted from 0
abbrev pub before_parameters : Names → Definition → Names
before_parameters s f = record (inner (behind_name s f)) { next = 0 }

abbrev pub behind_parameters : Names → List Param → Names
behind_parameters s [] = s
behind_parameters s (p ∷ ps) = behind_parameters (with_variable places.Local s p.name.text None) ps

-- where a function's body begins
abbrev pub before_body : Names → Definition → Names
before_body s f = behind_parameters (before_parameters s f) (parameters f.params)

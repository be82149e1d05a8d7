-- Symbols and programs without the places of their tokens: in place of each stands 0.
use Rattle.std.specs.Prelude.{◌≡◌, refl, ℕ, List, [], ◌∷◌, Option, Some, None, map, option_map, codes}
use Rattle.c_tree.specs.declared.names.Name.{Name}
use Rattle.c_tree.specs.declared.names.Number.{Number}
use Rattle.c_tree.specs.declared.names.TypeWord.{TypeWord}
use Rattle.c_tree.specs.declared.names.TypeWord.TheVariants as type_word
use Rattle.c_tree.specs.declared.statement.AssignMark.{AssignMark}
use Rattle.c_tree.specs.declared.statement.AssignMark.TheVariants as store
use Rattle.c_tree.specs.declared.statement.StepMark.{StepMark}
use Rattle.c_tree.specs.declared.statement.StepMark.TheVariants as change
use Rattle.c_tree.specs.declared.program.SNum.{SNum}
use Rattle.c_tree.specs.declared.program.GVar.{GVar}
use Rattle.c_tree.specs.declared.program.GVar.TheVariants as gvar
use Rattle.c_tree.specs.declared.program.ResultWord.{ResultWord}
use Rattle.c_tree.specs.declared.program.ResultWord.TheVariants as result_word
use Rattle.c_tree.specs.declared.program.Param.{Param}
use Rattle.c_tree.specs.declared.program.Params.{Params}
use Rattle.c_tree.specs.declared.program.Params.TheVariants as params
use Rattle.c_tree.specs.declared.program.CTree.{CTree}
use Rattle.readings.specs.Symbol.{Symbol}
use Rattle.c_tree.specs.Formula.{Formula, Further, Numeral, Named, Indexed, Called, CalledWith, Paren, Unary, Binary, NoMore, More}
use Rattle.c_tree.specs.Statement.{Index, Act, Assign, Step, Invoke, Variable, Scalar, Initial, Array, Declaration, Opening, Acts, Declares, Statement, Braces, Empty, Simply, Break, Continue, Return, If, IfElse, While, Do, For, Body, Nothing, Declare, Then, Braced}
use Rattle.c_tree.specs.Items.{Item, Variables, Defines, items}
use Rattle.c_tree.specs.Inverse.{tree_of}

-- the same symbol, at place 0
abbrev pub unplaced_symbol : Symbol → Symbol
unplaced_symbol (Symbol.Fixed at text) = Symbol.Fixed 0 text
unplaced_symbol (Symbol.Named at text) = Symbol.Named 0 text
unplaced_symbol (Symbol.Number at value) = Symbol.Number 0 value
unplaced_symbol (Symbol.Quoted at text) = Symbol.Quoted 0 text

-- the same name, at place 0
abbrev pub unplaced_name : Name → Name
unplaced_name n = record { at = 0; text = n.text }

-- a number of the same value, at place 0
abbrev pub unplaced_number : Number → Number
unplaced_number n = record { at = 0; value = n.value }

-- the same type
abbrev pub unplaced_type : TypeWord → TypeWord
unplaced_type (type_word.Int at) = type_word.Int 0

-- ---- expressions

-- a formula of the same shape, names and numbers, and the same further arguments
abbrev mutual
  pub unplaced_formula : Formula → Formula
  unplaced_formula (Numeral n) = Numeral (unplaced_number n)
  unplaced_formula (Named n) = Named (unplaced_name n)
  unplaced_formula (Indexed n p i q) = Indexed (unplaced_name n) 0 (unplaced_formula i) 0
  unplaced_formula (Called n p q) = Called (unplaced_name n) 0 0
  unplaced_formula (CalledWith n p x xs q) = CalledWith (unplaced_name n) 0 (unplaced_formula x) (unplaced_further xs) 0
  unplaced_formula (Paren p x q) = Paren 0 (unplaced_formula x) 0
  unplaced_formula (Unary op at x) = Unary op 0 (unplaced_formula x)
  unplaced_formula (Binary op x at y) = Binary op (unplaced_formula x) 0 (unplaced_formula y)

  pub unplaced_further : Further → Further
  unplaced_further NoMore = NoMore
  unplaced_further (More comma x xs) = More 0 (unplaced_formula x) (unplaced_further xs)

-- ---- statements

-- the same index, where there is one
abbrev pub unplaced_index : Index → Index
unplaced_index None = None
unplaced_index (Some (p, i, q)) = Some (0, unplaced_formula i, 0)

-- the same of `=`, `+=` and `-=`
abbrev pub unplaced_store : AssignMark → AssignMark
unplaced_store (store.Set at) = store.Set 0
unplaced_store (store.Add at) = store.Add 0
unplaced_store (store.Sub at) = store.Sub 0

-- the same of `++` and `--`
abbrev pub unplaced_change : StepMark → StepMark
unplaced_change (change.Up at) = change.Up 0
unplaced_change (change.Down at) = change.Down 0

-- the same simple statement
abbrev pub unplaced_act : Act → Act
unplaced_act (Assign n i s e) = Assign (unplaced_name n) (unplaced_index i) (unplaced_store s) (unplaced_formula e)
unplaced_act (Step n i c) = Step (unplaced_name n) (unplaced_index i) (unplaced_change c)
unplaced_act (Invoke x) = Invoke (unplaced_formula x)

-- the same local variable
abbrev pub unplaced_variable : Variable → Variable
unplaced_variable (Scalar n) = Scalar (unplaced_name n)
unplaced_variable (Initial n at e) = Initial (unplaced_name n) 0 (unplaced_formula e)
unplaced_variable (Array n p z q) = Array (unplaced_name n) 0 (unplaced_number z) 0

-- the same further variables and their commas
abbrev pub unplaced_variables : List (ℕ × Variable) → List (ℕ × Variable)
unplaced_variables [] = []
unplaced_variables ((comma, v) ∷ vs) = (0, unplaced_variable v) ∷ unplaced_variables vs

-- the same declaration
abbrev pub unplaced_declaration : Declaration → Declaration
unplaced_declaration d = record {
  word = unplaced_type d.word;
  first = unplaced_variable d.first;
  rest = unplaced_variables d.rest;
  semicolon = 0;
}

-- the same first part of a `for`
abbrev pub unplaced_opening : Opening → Opening
unplaced_opening (Acts a) = Acts (unplaced_act a)
unplaced_opening (Declares w v) = Declares (unplaced_type w) (unplaced_variable v)

-- the same statement, and the same of what stands in a block
abbrev mutual
  pub unplaced_statement : Statement → Statement
  unplaced_statement (Braces p b q) = Braces 0 (unplaced_body b) 0
  unplaced_statement (Empty semicolon) = Empty 0
  unplaced_statement (Simply a semicolon) = Simply (unplaced_act a) 0
  unplaced_statement (Break at semicolon) = Break 0 0
  unplaced_statement (Continue at semicolon) = Continue 0 0
  unplaced_statement (Return at e semicolon) = Return 0 (option_map unplaced_formula e) 0
  unplaced_statement (If at p c q x) = If 0 0 (unplaced_formula c) 0 (unplaced_statement x)
  unplaced_statement (IfElse at p c q x f y) = IfElse 0 0 (unplaced_formula c) 0 (unplaced_statement x) 0 (unplaced_statement y)
  unplaced_statement (While at p c q x) = While 0 0 (unplaced_formula c) 0 (unplaced_statement x)
  unplaced_statement (Do at x w p c q semicolon) = Do 0 (unplaced_statement x) 0 0 (unplaced_formula c) 0 0
  unplaced_statement (For at p first a c b last q x) =
      For 0 0 (option_map unplaced_opening first) 0 (option_map unplaced_formula c) 0 (option_map unplaced_act last) 0 (unplaced_statement x)

  pub unplaced_body : Body → Body
  unplaced_body Nothing = Nothing
  unplaced_body (Declare d rest) = Declare (unplaced_declaration d) (unplaced_body rest)
  unplaced_body (Then s rest) = Then (unplaced_statement s) (unplaced_body rest)

-- ---- globals

-- a minus where there is one
abbrev pub unplaced_minus : Option ℕ → Option ℕ
unplaced_minus None = None
unplaced_minus (Some at) = Some 0

-- the same initial value
abbrev pub unplaced_snum : SNum → SNum
unplaced_snum z = record { minus = unplaced_minus z.minus; number = unplaced_number z.number }

-- the same further initial values and their commas
abbrev pub unplaced_snums : List (ℕ × SNum) → List (ℕ × SNum)
unplaced_snums [] = []
unplaced_snums ((comma, z) ∷ zs) = (0, unplaced_snum z) ∷ unplaced_snums zs

-- the same initial values of an array, where there are some
abbrev pub unplaced_initials : Option (ℕ × ℕ × SNum × List (ℕ × SNum) × ℕ) → Option (ℕ × ℕ × SNum × List (ℕ × SNum) × ℕ)
unplaced_initials None = None
unplaced_initials (Some (at, p, z, zs, q)) = Some (0, 0, unplaced_snum z, unplaced_snums zs, 0)

-- the same global variable
abbrev pub unplaced_gvar : GVar → GVar
unplaced_gvar (gvar.Scalar n None) = gvar.Scalar (unplaced_name n) None
unplaced_gvar (gvar.Scalar n (Some (at, z))) = gvar.Scalar (unplaced_name n) (Some (0, unplaced_snum z))
unplaced_gvar (gvar.Array n p z q i) = gvar.Array (unplaced_name n) 0 (unplaced_number z) 0 (unplaced_initials i)

-- the same further global variables and their commas
abbrev pub unplaced_gvars : List (ℕ × GVar) → List (ℕ × GVar)
unplaced_gvars [] = []
unplaced_gvars ((comma, v) ∷ vs) = (0, unplaced_gvar v) ∷ unplaced_gvars vs

-- the same of a type's word and `void`
abbrev pub unplaced_result : ResultWord → ResultWord
unplaced_result (result_word.Type w) = result_word.Type (unplaced_type w)
unplaced_result (result_word.Void at) = result_word.Void 0

-- a parameter of the same type and name
abbrev pub unplaced_param : Param → Param
unplaced_param p = record { word = unplaced_type p.word; name = unplaced_name p.name }

-- the same further parameters and their commas
abbrev pub unplaced_further_params : List (ℕ × Param) → List (ℕ × Param)
unplaced_further_params [] = []
unplaced_further_params ((comma, p) ∷ ps) = (0, unplaced_param p) ∷ unplaced_further_params ps

-- the same parameters, where there are some
abbrev pub unplaced_params : Option Params → Option Params
unplaced_params None = None
unplaced_params (Some (params.Void at)) = Some (params.Void 0)
unplaced_params (Some (params.Named p ps)) = Some (params.Named (unplaced_param p) (unplaced_further_params ps))

-- the same block
abbrev pub unplaced_braces : Braced → Braced
unplaced_braces (p, b, q) = (0, unplaced_body b, 0)

-- the same global
abbrev pub unplaced_item : Item → Item
unplaced_item (Variables v) = Variables (record {
  word = unplaced_type v.word;
  first = unplaced_gvar v.first;
  rest = unplaced_gvars v.rest;
  semicolon = 0;
})
unplaced_item (Defines f) = Defines (record {
  result = unplaced_result f.result;
  name = unplaced_name f.name;
  opening = 0;
  params = unplaced_params f.params;
  closing = 0;
  braces = unplaced_braces f.braces;
})

-- the same globals in the same order
abbrev pub unplaced : CTree → CTree
unplaced c = tree_of (map unplaced_item (items c))

-- `int a;` after seven bytes, and its word
pub variable_unplaced : unplaced_item (Variables (record { word = type_word.Int 7; first = gvar.Scalar (record { at = 11; text = codes "a" }) None; rest = []; semicolon = 12 }))
    ≡ Variables (record { word = type_word.Int 0; first = gvar.Scalar (record { at = 0; text = codes "a" }) None; rest = []; semicolon = 0 })
variable_unplaced = refl

pub word_unplaced : unplaced_symbol (Symbol.Fixed 7 (codes "int")) ≡ Symbol.Fixed 0 (codes "int")
word_unplaced = refl

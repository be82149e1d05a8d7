-- A program has no word and no mark that is left out.
use Rattle.std.proofs.Common.{◌≡◌, ℕ, Bool, true, false, List, [], ◌∷◌, ◌++◌, Option, Some, None, map, refl, subst}
use Rattle.std.specs.Prelude.{codes, if◌then◌else◌}
use Rattle.c_tree.specs.declared.names.Name.{Name}
use Rattle.c_tree.specs.declared.names.Number.{Number}
use Rattle.c_tree.specs.declared.names.TypeWord.{TypeWord}
use Rattle.c_tree.specs.declared.names.TypeWord.TheVariants as type_word
use Rattle.c_tree.specs.declared.operator.Bin.{Bin}
use Rattle.c_tree.specs.declared.operator.Bin.TheVariants as bin
use Rattle.c_tree.specs.declared.statement.AssignMark.{AssignMark}
use Rattle.c_tree.specs.declared.statement.AssignMark.TheVariants as store
use Rattle.c_tree.specs.declared.statement.StepMark.{StepMark}
use Rattle.c_tree.specs.declared.statement.StepMark.TheVariants as change
use Rattle.c_tree.specs.declared.program.SNum.{SNum}
use Rattle.c_tree.specs.declared.program.GVar.{GVar}
use Rattle.c_tree.specs.declared.program.GVar.TheVariants as gvar
use Rattle.c_tree.specs.declared.program.ResultWord.{ResultWord}
use Rattle.c_tree.specs.declared.program.ResultWord.TheVariants as result_word
use Rattle.c_tree.specs.declared.program.Param.{Param}
use Rattle.c_tree.specs.declared.program.Params.{Params}
use Rattle.c_tree.specs.declared.program.Params.TheVariants as params
use Rattle.readings.specs.Symbol.{Symbol, fixed}
use Rattle.readings.specs.Whole.{Goods}
use Rattle.c_tree.specs.Formula.{Prefix, Formula, Further, Numeral, Named, Indexed, Called, CalledWith, Paren, Unary, Binary, NoMore, More}
use Rattle.c_tree.specs.Statement.{Index, Act, Assign, Step, Invoke, Variable, Scalar, Initial, Array, Declaration, Opening, Acts, Declares, Statement, Braces, Empty, Simply, Break, Continue, Return, If, IfElse, While, Do, For, Body, Nothing, Declare, Then}
use Rattle.c_tree.specs.Items.{Item, Variables, Defines}
use Rattle.c_tree.specs.Spell.{prefix_mark, binary_mark, name_spelling, number_spelling, type_spelling, formula_spelling, further_spelling, index_spelling, store_spelling, change_spelling, act_spelling, variable_spelling, further_variables_spelling, declaration_spelling, opening_spelling, optional_spelling, last_spelling, statement_spelling, body_spelling}
use Rattle.c_tree.specs.SpellGlobals.{minus_spelling, snum_spelling, further_snums_spelling, initials_spelling, gvar_spelling, further_gvars_spelling, result_spelling, param_spelling, further_params_spelling, params_spelling, item_spelling, spelling}
use Rattle.nml_lex.specs.Lexed.{Lexeme}
use Rattle.c_lex.specs.Form.{is_outside}
use Rattle.c_grammar.specs.Trees.{symbol, outside_places}

-- a symbol that isn't left out
abbrev pub IsInside : Symbol → Type 0
IsInside (Symbol.Fixed at text) = is_outside text ≡ false
IsInside (Symbol.Named at text) = Unit {0}
IsInside (Symbol.Number at value) = Unit {0}
IsInside (Symbol.Quoted at text) = Unit {0}

-- none of these is left out
pub record Inside (symbols : List Symbol) : Type 0 where
  pub each : Goods IsInside symbols

joined : (a b : List Symbol) → Goods IsInside a → Goods IsInside b → Goods IsInside (a ++ b)
joined [] b h i = i
joined (s ∷ a) b h i = (h.0, joined a b h.1 i)

infixl 20 ◌+++◌
-- one behind the other
◌+++◌ : {a b : List Symbol} → Inside a → Inside b → Inside (a ++ b)
◌+++◌ {a} {b} p q = record { each = joined a b p.each q.each }

-- nothing, a keyword or a mark, a name, a number and a type
nothing : Inside []
nothing = record { each = tt }

word : (at : ℕ) (text : List ℕ) → is_outside text ≡ false → Inside (fixed at text)
word at text h = record { each = (h, tt) }

name : (n : Name) → Inside (name_spelling n)
name n = record { each = (tt, tt) }

number : (n : Number) → Inside (number_spelling n)
number n = record { each = (tt, tt) }

type_inside : (w : TypeWord) → Inside (type_spelling w)
type_inside (type_word.Int at) = word at (codes "int") refl

-- ---- the spelling of each part

prefix_inside : (op : Prefix) → is_outside (prefix_mark op) ≡ false
prefix_inside Prefix.Neg = refl
prefix_inside Prefix.Inv = refl
prefix_inside Prefix.Not = refl

binary_inside : (op : Bin) → is_outside (binary_mark op) ≡ false
binary_inside bin.OrElse = refl
binary_inside bin.AndAlso = refl
binary_inside bin.Or = refl
binary_inside bin.Xor = refl
binary_inside bin.And = refl
binary_inside bin.Eq = refl
binary_inside bin.Ne = refl
binary_inside bin.Lt = refl
binary_inside bin.Le = refl
binary_inside bin.Gt = refl
binary_inside bin.Ge = refl
binary_inside bin.Shl = refl
binary_inside bin.Shr = refl
binary_inside bin.Add = refl
binary_inside bin.Sub = refl
binary_inside bin.Mul = refl

mutual
  formula_inside : (x : Formula) → Inside (formula_spelling x)
  formula_inside (Numeral n) = number n
  formula_inside (Named n) = name n
  formula_inside (Indexed n p i q) = name n +++ word p (codes "[") refl +++ formula_inside i +++ word q (codes "]") refl
  formula_inside (Called n p q) = name n +++ word p (codes "(") refl +++ word q (codes ")") refl
  formula_inside (CalledWith n p x xs q) = name n +++ word p (codes "(") refl +++ formula_inside x +++ further_inside xs +++ word q (codes ")") refl
  formula_inside (Paren p x q) = word p (codes "(") refl +++ formula_inside x +++ word q (codes ")") refl
  formula_inside (Unary op at x) = word at (prefix_mark op) (prefix_inside op) +++ formula_inside x
  formula_inside (Binary op x at y) = formula_inside x +++ word at (binary_mark op) (binary_inside op) +++ formula_inside y

  further_inside : (xs : Further) → Inside (further_spelling xs)
  further_inside NoMore = nothing
  further_inside (More comma x xs) = word comma (codes ",") refl +++ formula_inside x +++ further_inside xs

index_inside : (i : Index) → Inside (index_spelling i)
index_inside None = nothing
index_inside (Some (p, i, q)) = word p (codes "[") refl +++ formula_inside i +++ word q (codes "]") refl

store_inside : (s : AssignMark) → Inside (store_spelling s)
store_inside (store.Set at) = word at (codes "=") refl
store_inside (store.Add at) = word at (codes "+=") refl
store_inside (store.Sub at) = word at (codes "-=") refl

change_inside : (c : StepMark) → Inside (change_spelling c)
change_inside (change.Up at) = word at (codes "++") refl
change_inside (change.Down at) = word at (codes "--") refl

act_inside : (a : Act) → Inside (act_spelling a)
act_inside (Assign n i s e) = name n +++ index_inside i +++ store_inside s +++ formula_inside e
act_inside (Step n i c) = name n +++ index_inside i +++ change_inside c
act_inside (Invoke x) = formula_inside x

variable_inside : (v : Variable) → Inside (variable_spelling v)
variable_inside (Scalar n) = name n
variable_inside (Initial n at e) = name n +++ word at (codes "=") refl +++ formula_inside e
variable_inside (Array n p z q) = name n +++ word p (codes "[") refl +++ number z +++ word q (codes "]") refl

variables_inside : (vs : List (ℕ × Variable)) → Inside (further_variables_spelling vs)
variables_inside [] = nothing
variables_inside ((comma, v) ∷ vs) = word comma (codes ",") refl +++ variable_inside v +++ variables_inside vs

declaration_inside : (d : Declaration) → Inside (declaration_spelling d)
declaration_inside d = type_inside d.word +++ variable_inside d.first +++ variables_inside d.rest +++ word d.semicolon (codes ";") refl

opening_inside : (f : Option Opening) → Inside (opening_spelling f)
opening_inside None = nothing
opening_inside (Some (Acts a)) = act_inside a
opening_inside (Some (Declares w v)) = type_inside w +++ variable_inside v

value_inside : (e : Option Formula) → Inside (optional_spelling e)
value_inside None = nothing
value_inside (Some e) = formula_inside e

last_inside : (a : Option Act) → Inside (last_spelling a)
last_inside None = nothing
last_inside (Some a) = act_inside a

mutual
  statement_inside : (s : Statement) → Inside (statement_spelling s)
  statement_inside (Braces p b q) = word p (codes "{") refl +++ body_inside b +++ word q (codes "}") refl
  statement_inside (Empty q) = word q (codes ";") refl
  statement_inside (Simply a q) = act_inside a +++ word q (codes ";") refl
  statement_inside (Break at q) = word at (codes "break") refl +++ word q (codes ";") refl
  statement_inside (Continue at q) = word at (codes "continue") refl +++ word q (codes ";") refl
  statement_inside (Return at e q) = word at (codes "return") refl +++ value_inside e +++ word q (codes ";") refl
  statement_inside (If at p c q x) = word at (codes "if") refl +++ word p (codes "(") refl +++ formula_inside c +++ word q (codes ")") refl +++ statement_inside x
  statement_inside (IfElse at p c q x f y) =
      word at (codes "if") refl +++ word p (codes "(") refl +++ formula_inside c +++ word q (codes ")") refl +++ statement_inside x +++ word f (codes "else") refl +++ statement_inside y
  statement_inside (While at p c q x) = word at (codes "while") refl +++ word p (codes "(") refl +++ formula_inside c +++ word q (codes ")") refl +++ statement_inside x
  statement_inside (Do at x w p c q z) =
      word at (codes "do") refl +++ statement_inside x +++ word w (codes "while") refl +++ word p (codes "(") refl +++ formula_inside c +++ word q (codes ")") refl +++ word z (codes ";") refl
  statement_inside (For at p f a c b z q x) =
      word at (codes "for") refl +++ word p (codes "(") refl +++ opening_inside f +++ word a (codes ";") refl +++ value_inside c +++ word b (codes ";") refl +++ last_inside z
      +++ word q (codes ")") refl +++ statement_inside x

  body_inside : (b : Body) → Inside (body_spelling b)
  body_inside Nothing = nothing
  body_inside (Declare d rest) = declaration_inside d +++ body_inside rest
  body_inside (Then s rest) = statement_inside s +++ body_inside rest

minus_inside : (m : Option ℕ) → Inside (minus_spelling m)
minus_inside None = nothing
minus_inside (Some at) = word at (codes "-") refl

snum_inside : (z : SNum) → Inside (snum_spelling z)
snum_inside z = minus_inside z.minus +++ number z.number

snums_inside : (zs : List (ℕ × SNum)) → Inside (further_snums_spelling zs)
snums_inside [] = nothing
snums_inside ((comma, z) ∷ zs) = word comma (codes ",") refl +++ snum_inside z +++ snums_inside zs

initials_inside : (i : Option (ℕ × ℕ × SNum × List (ℕ × SNum) × ℕ)) → Inside (initials_spelling i)
initials_inside None = nothing
initials_inside (Some (at, p, z, zs, q)) = word at (codes "=") refl +++ word p (codes "{") refl +++ snum_inside z +++ snums_inside zs +++ word q (codes "}") refl

gvar_inside : (v : GVar) → Inside (gvar_spelling v)
gvar_inside (gvar.Scalar n None) = name n
gvar_inside (gvar.Scalar n (Some (at, z))) = name n +++ word at (codes "=") refl +++ snum_inside z
gvar_inside (gvar.Array n p z q i) = name n +++ word p (codes "[") refl +++ number z +++ word q (codes "]") refl +++ initials_inside i

gvars_inside : (vs : List (ℕ × GVar)) → Inside (further_gvars_spelling vs)
gvars_inside [] = nothing
gvars_inside ((comma, v) ∷ vs) = word comma (codes ",") refl +++ gvar_inside v +++ gvars_inside vs

result_inside : (w : ResultWord) → Inside (result_spelling w)
result_inside (result_word.Type w) = type_inside w
result_inside (result_word.Void at) = word at (codes "void") refl

param_inside : (p : Param) → Inside (param_spelling p)
param_inside p = type_inside p.word +++ name p.name

further_params_inside : (ps : List (ℕ × Param)) → Inside (further_params_spelling ps)
further_params_inside [] = nothing
further_params_inside ((comma, p) ∷ ps) = word comma (codes ",") refl +++ param_inside p +++ further_params_inside ps

params_inside : (ps : Option Params) → Inside (params_spelling ps)
params_inside None = nothing
params_inside (Some (params.Void at)) = word at (codes "void") refl
params_inside (Some (params.Named p ps)) = param_inside p +++ further_params_inside ps

item_inside : (g : Item) → Inside (item_spelling g)
item_inside (Variables v) = type_inside v.word +++ gvar_inside v.first +++ gvars_inside v.rest +++ word v.semicolon (codes ";") refl
item_inside (Defines f) =
    result_inside f.result +++ name f.name +++ word f.opening (codes "(") refl +++ params_inside f.params +++ word f.closing (codes ")") refl
    +++ (word f.braces.0 (codes "{") refl +++ body_inside f.braces.1 +++ word f.braces.2 (codes "}") refl)

pub items_inside : (gs : List Item) → Inside (spelling gs)
items_inside [] = nothing
items_inside (g ∷ gs) = item_inside g +++ items_inside gs

-- ---- tokens

-- a token that is left out is its text
outside_symbol : (p : Lexeme) → is_outside p.text ≡ true → symbol p ≡ Symbol.Fixed p.at p.text
outside_symbol p h = rw h refl

not_both : {P : Type 0} (b : Bool) → b ≡ true → b ≡ false → P
not_both b h i = absurd (cc)

-- so tokens none of whose symbols is left out aren't either
pub none_outside : (ps : List Lexeme) → Goods IsInside (map symbol ps) → outside_places ps ≡ []
none_outside [] h = refl
none_outside (p ∷ ps) h = by (is_outside p.text) refl (none_outside ps h.1)
  where
    by : (b : Bool) → is_outside p.text ≡ b → outside_places ps ≡ [] → (if b then p.at ∷ outside_places ps else outside_places ps) ≡ []
    by true i others = not_both (is_outside p.text) i (subst IsInside (outside_symbol p i) h.0)
    by false i others = others

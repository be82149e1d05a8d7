-- A program without places is spelled as its symbols without theirs, and keeps its levels. So two programs whose symbols differ in places alone do
-- so too.
use Rattle.std.proofs.Common.{◌≡◌, ℕ, ◌≤◌, ◌<◌, List, [], ◌∷◌, ◌++◌, Option, Some, None, map, option_map, refl, ap, sym, ◌∙◌, subst}
use Rattle.std.specs.Prelude.{codes, All, IsFalse}
use Rattle.std.proofs.lemmas.List.{map-append}
use Rattle.std.proofs.lemmas.List.Elements.{All-nil, All-cons, All-head, All-tail}
use Rattle.c_tree.specs.declared.names.Name.{Name}
use Rattle.c_tree.specs.declared.names.Number.{Number}
use Rattle.c_tree.specs.declared.names.TypeWord.{TypeWord}
use Rattle.c_tree.specs.declared.names.TypeWord.TheVariants as type_word
use Rattle.c_tree.specs.declared.statement.AssignMark.{AssignMark}
use Rattle.c_tree.specs.declared.statement.AssignMark.TheVariants as store
use Rattle.c_tree.specs.declared.statement.StepMark.{StepMark}
use Rattle.c_tree.specs.declared.statement.StepMark.TheVariants as change
use Rattle.c_tree.specs.declared.program.SNum.{SNum}
use Rattle.c_tree.specs.declared.program.GVar.{GVar}
use Rattle.c_tree.specs.declared.program.GVar.TheVariants as gvar
use Rattle.c_tree.specs.declared.program.ResultWord.{ResultWord}
use Rattle.c_tree.specs.declared.program.ResultWord.TheVariants as result_word
use Rattle.c_tree.specs.declared.program.Param.{Param}
use Rattle.c_tree.specs.declared.program.Params.{Params}
use Rattle.c_tree.specs.declared.program.Params.TheVariants as params
use Rattle.c_tree.specs.declared.program.CTree.{CTree}
use Rattle.readings.specs.Symbol.{Symbol, fixed}
use Rattle.readings.specs.Whole.{Goods}
use Rattle.c_tree.specs.Formula.{Formula, Further, Numeral, Named, Indexed, Called, CalledWith, Paren, Unary, Binary, NoMore, More}
use Rattle.c_tree.specs.Statement.{Index, Act, Assign, Step, Invoke, Variable, Scalar, Initial, Array, Declaration, Opening, Acts, Declares, Statement, Braces, Empty, Simply, Break, Continue, Return, If, IfElse, While, Do, For, Body, Nothing, Declare, Then}
use Rattle.c_tree.specs.Items.{Item, Variables, Defines, items}
use Rattle.c_tree.specs.Level.{binary_level, unary_level, level, IsLeveled, IsLeveledFurther, IsLeveledIndex, IsLeveledAct, IsLeveledVariable, AreLeveledVariables, IsLeveledOpening, IsLeveledOption, IsLeveledLast, ends_open, IsLeveledStatement, IsLeveledBody, IsLeveledItem}
use Rattle.c_tree.specs.Spell.{prefix_mark, binary_mark, name_spelling, number_spelling, type_spelling, formula_spelling, further_spelling, index_spelling, store_spelling, change_spelling, act_spelling, variable_spelling, further_variables_spelling, declaration_spelling, opening_spelling, optional_spelling, last_spelling, statement_spelling, body_spelling}
use Rattle.c_tree.specs.SpellGlobals.{minus_spelling, snum_spelling, further_snums_spelling, initials_spelling, gvar_spelling, further_gvars_spelling, result_spelling, param_spelling, further_params_spelling, params_spelling, item_spelling, spelling}
use Rattle.c_grammar.specs.Statements.{IsCall, IsWritten, IsWrittenOpening, IsWrittenLast, IsWrittenStatement, IsWrittenBody}
use Rattle.c_grammar.specs.Programs.{IsWrittenItem}
use Rattle.c_grammar.specs.Unplaced.{unplaced_symbol, unplaced_name, unplaced_number, unplaced_type, unplaced_formula, unplaced_further, unplaced_index, unplaced_store, unplaced_change, unplaced_act, unplaced_variable, unplaced_variables, unplaced_declaration, unplaced_opening, unplaced_statement, unplaced_body, unplaced_minus, unplaced_snum, unplaced_snums, unplaced_initials, unplaced_gvar, unplaced_gvars, unplaced_result, unplaced_param, unplaced_further_params, unplaced_params, unplaced_item, unplaced}
use Rattle.c_grammar.proofs.Mirrors.{items_forth, items_written}
use Rattle.c_grammar.proofs.Programs.{unique_tree}

-- these symbols without their places
record Bare (bare symbols : List Symbol) : Type 0 where
  is : bare ≡ map unplaced_symbol symbols

infixl 20 ◌+++◌
-- one behind the other
◌+++◌ : {a b c d : List Symbol} → Bare a b → Bare c d → Bare (a ++ c) (b ++ d)
◌+++◌ {a} {b} {c} {d} p q = record { is = rw (p.is, q.is, map-append unplaced_symbol b d) refl }

-- nothing, a keyword or a mark, a name, a number and a type
nothing : Bare [] []
nothing = record { is = refl }

word : (at : ℕ) (text : List ℕ) → Bare (fixed 0 text) (fixed at text)
word at text = record { is = refl }

name : (n : Name) → Bare (name_spelling (unplaced_name n)) (name_spelling n)
name n = record { is = refl }

number : (n : Number) → Bare (number_spelling (unplaced_number n)) (number_spelling n)
number n = record { is = refl }

type_bare : (w : TypeWord) → Bare (type_spelling (unplaced_type w)) (type_spelling w)
type_bare (type_word.Int at) = word at (codes "int")

-- ---- the spelling of each part

mutual
  formula_bare : (x : Formula) → Bare (formula_spelling (unplaced_formula x)) (formula_spelling x)
  formula_bare (Numeral n) = number n
  formula_bare (Named n) = name n
  formula_bare (Indexed n p i q) = name n +++ word p (codes "[") +++ formula_bare i +++ word q (codes "]")
  formula_bare (Called n p q) = name n +++ word p (codes "(") +++ word q (codes ")")
  formula_bare (CalledWith n p x xs q) = name n +++ word p (codes "(") +++ formula_bare x +++ further_bare xs +++ word q (codes ")")
  formula_bare (Paren p x q) = word p (codes "(") +++ formula_bare x +++ word q (codes ")")
  formula_bare (Unary op at x) = word at (prefix_mark op) +++ formula_bare x
  formula_bare (Binary op x at y) = formula_bare x +++ word at (binary_mark op) +++ formula_bare y

  further_bare : (xs : Further) → Bare (further_spelling (unplaced_further xs)) (further_spelling xs)
  further_bare NoMore = nothing
  further_bare (More comma x xs) = word comma (codes ",") +++ formula_bare x +++ further_bare xs

index_bare : (i : Index) → Bare (index_spelling (unplaced_index i)) (index_spelling i)
index_bare None = nothing
index_bare (Some (p, i, q)) = word p (codes "[") +++ formula_bare i +++ word q (codes "]")

store_bare : (s : AssignMark) → Bare (store_spelling (unplaced_store s)) (store_spelling s)
store_bare (store.Set at) = word at (codes "=")
store_bare (store.Add at) = word at (codes "+=")
store_bare (store.Sub at) = word at (codes "-=")

change_bare : (c : StepMark) → Bare (change_spelling (unplaced_change c)) (change_spelling c)
change_bare (change.Up at) = word at (codes "++")
change_bare (change.Down at) = word at (codes "--")

act_bare : (a : Act) → Bare (act_spelling (unplaced_act a)) (act_spelling a)
act_bare (Assign n i s e) = name n +++ index_bare i +++ store_bare s +++ formula_bare e
act_bare (Step n i c) = name n +++ index_bare i +++ change_bare c
act_bare (Invoke x) = formula_bare x

variable_bare : (v : Variable) → Bare (variable_spelling (unplaced_variable v)) (variable_spelling v)
variable_bare (Scalar n) = name n
variable_bare (Initial n at e) = name n +++ word at (codes "=") +++ formula_bare e
variable_bare (Array n p z q) = name n +++ word p (codes "[") +++ number z +++ word q (codes "]")

variables_bare : (vs : List (ℕ × Variable)) → Bare (further_variables_spelling (unplaced_variables vs)) (further_variables_spelling vs)
variables_bare [] = nothing
variables_bare ((comma, v) ∷ vs) = word comma (codes ",") +++ variable_bare v +++ variables_bare vs

declaration_bare : (d : Declaration) → Bare (declaration_spelling (unplaced_declaration d)) (declaration_spelling d)
declaration_bare d = type_bare d.word +++ variable_bare d.first +++ variables_bare d.rest +++ word d.semicolon (codes ";")

opening_bare : (f : Option Opening) → Bare (opening_spelling (option_map unplaced_opening f)) (opening_spelling f)
opening_bare None = nothing
opening_bare (Some (Acts a)) = act_bare a
opening_bare (Some (Declares w v)) = type_bare w +++ variable_bare v

value_bare : (e : Option Formula) → Bare (optional_spelling (option_map unplaced_formula e)) (optional_spelling e)
value_bare None = nothing
value_bare (Some e) = formula_bare e

last_bare : (a : Option Act) → Bare (last_spelling (option_map unplaced_act a)) (last_spelling a)
last_bare None = nothing
last_bare (Some a) = act_bare a

mutual
  statement_bare : (s : Statement) → Bare (statement_spelling (unplaced_statement s)) (statement_spelling s)
  statement_bare (Braces p b q) = word p (codes "{") +++ body_bare b +++ word q (codes "}")
  statement_bare (Empty q) = word q (codes ";")
  statement_bare (Simply a q) = act_bare a +++ word q (codes ";")
  statement_bare (Break at q) = word at (codes "break") +++ word q (codes ";")
  statement_bare (Continue at q) = word at (codes "continue") +++ word q (codes ";")
  statement_bare (Return at e q) = word at (codes "return") +++ value_bare e +++ word q (codes ";")
  statement_bare (If at p c q x) = word at (codes "if") +++ word p (codes "(") +++ formula_bare c +++ word q (codes ")") +++ statement_bare x
  statement_bare (IfElse at p c q x f y) =
      word at (codes "if") +++ word p (codes "(") +++ formula_bare c +++ word q (codes ")") +++ statement_bare x +++ word f (codes "else") +++ statement_bare y
  statement_bare (While at p c q x) = word at (codes "while") +++ word p (codes "(") +++ formula_bare c +++ word q (codes ")") +++ statement_bare x
  statement_bare (Do at x w p c q z) =
      word at (codes "do") +++ statement_bare x +++ word w (codes "while") +++ word p (codes "(") +++ formula_bare c +++ word q (codes ")") +++ word z (codes ";")
  statement_bare (For at p f a c b z q x) =
      word at (codes "for") +++ word p (codes "(") +++ opening_bare f +++ word a (codes ";") +++ value_bare c +++ word b (codes ";") +++ last_bare z
      +++ word q (codes ")") +++ statement_bare x

  body_bare : (b : Body) → Bare (body_spelling (unplaced_body b)) (body_spelling b)
  body_bare Nothing = nothing
  body_bare (Declare d rest) = declaration_bare d +++ body_bare rest
  body_bare (Then s rest) = statement_bare s +++ body_bare rest

minus_bare : (m : Option ℕ) → Bare (minus_spelling (unplaced_minus m)) (minus_spelling m)
minus_bare None = nothing
minus_bare (Some at) = word at (codes "-")

snum_bare : (z : SNum) → Bare (snum_spelling (unplaced_snum z)) (snum_spelling z)
snum_bare z = minus_bare z.minus +++ number z.number

snums_bare : (zs : List (ℕ × SNum)) → Bare (further_snums_spelling (unplaced_snums zs)) (further_snums_spelling zs)
snums_bare [] = nothing
snums_bare ((comma, z) ∷ zs) = word comma (codes ",") +++ snum_bare z +++ snums_bare zs

initials_bare : (i : Option (ℕ × ℕ × SNum × List (ℕ × SNum) × ℕ)) → Bare (initials_spelling (unplaced_initials i)) (initials_spelling i)
initials_bare None = nothing
initials_bare (Some (at, p, z, zs, q)) = word at (codes "=") +++ word p (codes "{") +++ snum_bare z +++ snums_bare zs +++ word q (codes "}")

gvar_bare : (v : GVar) → Bare (gvar_spelling (unplaced_gvar v)) (gvar_spelling v)
gvar_bare (gvar.Scalar n None) = name n
gvar_bare (gvar.Scalar n (Some (at, z))) = name n +++ word at (codes "=") +++ snum_bare z
gvar_bare (gvar.Array n p z q i) = name n +++ word p (codes "[") +++ number z +++ word q (codes "]") +++ initials_bare i

gvars_bare : (vs : List (ℕ × GVar)) → Bare (further_gvars_spelling (unplaced_gvars vs)) (further_gvars_spelling vs)
gvars_bare [] = nothing
gvars_bare ((comma, v) ∷ vs) = word comma (codes ",") +++ gvar_bare v +++ gvars_bare vs

result_bare : (w : ResultWord) → Bare (result_spelling (unplaced_result w)) (result_spelling w)
result_bare (result_word.Type w) = type_bare w
result_bare (result_word.Void at) = word at (codes "void")

param_bare : (p : Param) → Bare (param_spelling (unplaced_param p)) (param_spelling p)
param_bare p = type_bare p.word +++ name p.name

further_params_bare : (ps : List (ℕ × Param)) → Bare (further_params_spelling (unplaced_further_params ps)) (further_params_spelling ps)
further_params_bare [] = nothing
further_params_bare ((comma, p) ∷ ps) = word comma (codes ",") +++ param_bare p +++ further_params_bare ps

params_bare : (ps : Option Params) → Bare (params_spelling (unplaced_params ps)) (params_spelling ps)
params_bare None = nothing
params_bare (Some (params.Void at)) = word at (codes "void")
params_bare (Some (params.Named p ps)) = param_bare p +++ further_params_bare ps

item_bare : (g : Item) → Bare (item_spelling (unplaced_item g)) (item_spelling g)
item_bare (Variables v) = type_bare v.word +++ gvar_bare v.first +++ gvars_bare v.rest +++ word v.semicolon (codes ";")
item_bare (Defines f) =
    result_bare f.result +++ name f.name +++ word f.opening (codes "(") +++ params_bare f.params +++ word f.closing (codes ")")
    +++ (word f.braces.0 (codes "{") +++ body_bare f.braces.1 +++ word f.braces.2 (codes "}"))

items_bare : (gs : List Item) → Bare (spelling (map unplaced_item gs)) (spelling gs)
items_bare [] = nothing
items_bare (g ∷ gs) = item_bare g +++ items_bare gs

-- ---- levels

level_aside : (x : Formula) → level (unplaced_formula x) ≡ level x
level_aside (Numeral n) = refl
level_aside (Named n) = refl
level_aside (Indexed n p i q) = refl
level_aside (Called n p q) = refl
level_aside (CalledWith n p x xs q) = refl
level_aside (Paren p x q) = refl
level_aside (Unary op at x) = refl
level_aside (Binary op x at y) = refl

mutual
  leveled : (x : Formula) → IsLeveled x → IsLeveled (unplaced_formula x)
  leveled (Numeral n) h = tt
  leveled (Named n) h = tt
  leveled (Indexed n p i q) h = leveled i h
  leveled (Called n p q) h = tt
  leveled (CalledWith n p x xs q) h = (leveled x h.0, leveled_further xs h.1)
  leveled (Paren p x q) h = leveled x h
  leveled (Unary op at x) h = (leveled x h.0, subst (λ k. unary_level ≤ k) (sym (level_aside x)) h.1)
  leveled (Binary op x at y) h = (
    leveled x h.0,
    leveled y h.1,
    subst (λ k. binary_level op ≤ k) (sym (level_aside x)) h.2,
    subst (λ k. binary_level op < k) (sym (level_aside y)) h.3,
  )

  leveled_further : (xs : Further) → IsLeveledFurther xs → IsLeveledFurther (unplaced_further xs)
  leveled_further NoMore h = tt
  leveled_further (More comma x xs) h = (leveled x h.0, leveled_further xs h.1)

leveled_index : (i : Index) → IsLeveledIndex i → IsLeveledIndex (unplaced_index i)
leveled_index None h = tt
leveled_index (Some (p, i, q)) h = leveled i h

leveled_act : (a : Act) → IsLeveledAct a → IsLeveledAct (unplaced_act a)
leveled_act (Assign n i s e) h = (leveled_index i h.0, leveled e h.1)
leveled_act (Step n i c) h = leveled_index i h
leveled_act (Invoke x) h = leveled x h

leveled_variable : (v : Variable) → IsLeveledVariable v → IsLeveledVariable (unplaced_variable v)
leveled_variable (Scalar n) h = tt
leveled_variable (Initial n at e) h = leveled e h
leveled_variable (Array n p z q) h = tt

leveled_variables : (vs : List (ℕ × Variable)) → AreLeveledVariables vs → AreLeveledVariables (unplaced_variables vs)
leveled_variables [] h = tt
leveled_variables ((comma, v) ∷ vs) h = (leveled_variable v h.0, leveled_variables vs h.1)

leveled_opening : (f : Option Opening) → IsLeveledOpening f → IsLeveledOpening (option_map unplaced_opening f)
leveled_opening None h = tt
leveled_opening (Some (Acts a)) h = leveled_act a h
leveled_opening (Some (Declares w v)) h = leveled_variable v h

leveled_value : (e : Option Formula) → IsLeveledOption e → IsLeveledOption (option_map unplaced_formula e)
leveled_value None h = tt
leveled_value (Some e) h = leveled e h

leveled_last : (a : Option Act) → IsLeveledLast a → IsLeveledLast (option_map unplaced_act a)
leveled_last None h = tt
leveled_last (Some a) h = leveled_act a h

-- the same statements end with an `if` without `else`
open_aside : (s : Statement) → ends_open (unplaced_statement s) ≡ ends_open s
open_aside (Braces p b q) = refl
open_aside (Empty q) = refl
open_aside (Simply a q) = refl
open_aside (Break at q) = refl
open_aside (Continue at q) = refl
open_aside (Return at e q) = refl
open_aside (If at p c q x) = refl
open_aside (IfElse at p c q x f y) = open_aside y
open_aside (While at p c q x) = open_aside x
open_aside (Do at x w p c q z) = refl
open_aside (For at p f a c b z q x) = open_aside x

mutual
  leveled_statement : (s : Statement) → IsLeveledStatement s → IsLeveledStatement (unplaced_statement s)
  leveled_statement (Braces p b q) h = leveled_body b h
  leveled_statement (Empty q) h = tt
  leveled_statement (Simply a q) h = leveled_act a h
  leveled_statement (Break at q) h = tt
  leveled_statement (Continue at q) h = tt
  leveled_statement (Return at e q) h = leveled_value e h
  leveled_statement (If at p c q x) h = (leveled c h.0, leveled_statement x h.1)
  leveled_statement (IfElse at p c q x f y) h =
      (leveled c h.0, leveled_statement x h.1, leveled_statement y h.2, subst IsFalse (sym (open_aside x)) h.3)
  leveled_statement (While at p c q x) h = (leveled c h.0, leveled_statement x h.1)
  leveled_statement (Do at x w p c q z) h = (leveled_statement x h.0, leveled c h.1)
  leveled_statement (For at p f a c b z q x) h = (leveled_opening f h.0, leveled_value c h.1, leveled_last z h.2, leveled_statement x h.3)

  leveled_body : (b : Body) → IsLeveledBody b → IsLeveledBody (unplaced_body b)
  leveled_body Nothing h = tt
  leveled_body (Declare d rest) h = (leveled_variable d.first h.0, leveled_variables d.rest h.1, leveled_body rest h.2)
  leveled_body (Then s rest) h = (leveled_statement s h.0, leveled_body rest h.1)

leveled_item : (g : Item) → IsLeveledItem g → IsLeveledItem (unplaced_item g)
leveled_item (Variables v) h = tt
leveled_item (Defines f) h = leveled_body f.braces.1 h

leveled_items : (gs : List Item) → All IsLeveledItem gs → All IsLeveledItem (map unplaced_item gs)
leveled_items [] l = All-nil IsLeveledItem
leveled_items (g ∷ gs) l =
    All-cons IsLeveledItem (unplaced_item g) (map unplaced_item gs) (leveled_item g (All-head IsLeveledItem g gs l)) (leveled_items gs (All-tail IsLeveledItem g gs l))

-- ---- calls stay calls

call_written : (x : Formula) → IsCall x → IsCall (unplaced_formula x)
call_written (Called n p q) h = tt
call_written (CalledWith n p x xs q) h = tt
call_written (Numeral n) h = h
call_written (Named n) h = h
call_written (Indexed n p i q) h = h
call_written (Paren p x q) h = h
call_written (Unary op at x) h = h
call_written (Binary op x at y) h = h

act_written : (a : Act) → IsWritten a → IsWritten (unplaced_act a)
act_written (Assign n i s e) h = tt
act_written (Step n i c) h = tt
act_written (Invoke x) h = call_written x h

opening_written : (f : Option Opening) → IsWrittenOpening f → IsWrittenOpening (option_map unplaced_opening f)
opening_written None h = tt
opening_written (Some (Acts a)) h = act_written a h
opening_written (Some (Declares w v)) h = tt

last_written : (a : Option Act) → IsWrittenLast a → IsWrittenLast (option_map unplaced_act a)
last_written None h = tt
last_written (Some a) h = act_written a h

mutual
  statement_written : (s : Statement) → IsWrittenStatement s → IsWrittenStatement (unplaced_statement s)
  statement_written (Braces p b q) h = body_written b h
  statement_written (Empty q) h = tt
  statement_written (Simply a q) h = act_written a h
  statement_written (Break at q) h = tt
  statement_written (Continue at q) h = tt
  statement_written (Return at e q) h = tt
  statement_written (If at p c q x) h = statement_written x h
  statement_written (IfElse at p c q x f y) h = (statement_written x h.0, statement_written y h.1)
  statement_written (While at p c q x) h = statement_written x h
  statement_written (Do at x w p c q z) h = statement_written x h
  statement_written (For at p f a c b z q x) h = (opening_written f h.0, last_written z h.1, statement_written x h.2)

  body_written : (b : Body) → IsWrittenBody b → IsWrittenBody (unplaced_body b)
  body_written Nothing h = tt
  body_written (Declare d rest) h = body_written rest h
  body_written (Then s rest) h = (statement_written s h.0, body_written rest h.1)

item_written : (g : Item) → IsWrittenItem g → IsWrittenItem (unplaced_item g)
item_written (Variables v) h = tt
item_written (Defines f) h = body_written f.braces.1 h

written : (gs : List Item) → Goods IsWrittenItem gs → Goods IsWrittenItem (map unplaced_item gs)
written [] h = tt
written (g ∷ gs) h = (item_written g h.0, written gs h.1)

-- ---- programs

-- the globals of a program without places
items-unplaced : (c : CTree) → items (unplaced c) ≡ map unplaced_item (items c)
items-unplaced c = items_forth (map unplaced_item (items c)) (written (items c) (items_written c))

spelling-unplaced : (c : CTree) → spelling (items (unplaced c)) ≡ map unplaced_symbol (spelling (items c))
spelling-unplaced c = ap spelling (items-unplaced c) ∙ (items_bare (items c)).is

leveled-unplaced : (c : CTree) → All IsLeveledItem (items c) → All IsLeveledItem (items (unplaced c))
leveled-unplaced c l = subst (λ (gs : List Item). All IsLeveledItem gs) (sym (items-unplaced c)) (leveled_items (items c) l)

-- two programs whose symbols differ in places alone differ in places alone
pub aside : (c d : CTree) → All IsLeveledItem (items c) → All IsLeveledItem (items d) → map unplaced_symbol (spelling (items c)) ≡ map unplaced_symbol (spelling (items d))
    → unplaced c ≡ unplaced d
aside c d l m is =
    unique_tree (unplaced c) (unplaced d) (leveled-unplaced c l) (leveled-unplaced d m) (spelling-unplaced c ∙ is ∙ sym (spelling-unplaced d))

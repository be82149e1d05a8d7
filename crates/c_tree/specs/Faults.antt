-- What names, kinds, numbers and shifts a program may not have, each at its place.
use Rattle.std.specs.Prelude.{ℕ, ◌+◌, ◌-◌, ◌^◌, ◌==◌, nat_lt, nat_le, pos, neg_ℤ, int_lt, int_le, Bool, true, false, not, ◌&&◌, ◌||◌, List, [], ◌∷◌, ◌++◌, map, drop, Option, Some, None, is_some, flat_map, if◌then◌else◌}
use Rattle.c_tree.specs.declared.names.Name.{Name}
use Rattle.c_tree.specs.declared.names.Number.{Number}
use Rattle.c_tree.specs.declared.operator.Bin.{Bin}
use Rattle.c_tree.specs.declared.operator.Bin.TheVariants as bin
use Rattle.c_tree.specs.declared.program.SNum.{SNum}
use Rattle.c_tree.specs.declared.program.GVar.{GVar}
use Rattle.c_tree.specs.declared.program.GVar.TheVariants as gvar
use Rattle.c_tree.specs.declared.program.Param.{Param}
use Rattle.c_tree.specs.declared.meaning.Meaning.{Meaning}
use Rattle.c_tree.specs.declared.meaning.Meaning.TheVariants.{OneCell, Cells, Callee, Main, In, Out}
use Rattle.c_tree.specs.Formula.{Formula, Further, Numeral, Named, Indexed, Called, CalledWith, Paren, Unary, Binary, NoMore, More}
use Rattle.c_tree.specs.Statement.{Index, Act, Assign, Step, Invoke, Variable, Scalar, Initial, Array, Opening, Acts, Declares, Statement, Braces, Empty, Simply, Break, Continue, Return, If, IfElse, While, Do, For, Body, Nothing, Declare, Then}
use Rattle.c_tree.specs.Items.{Definition, Item, Variables, Defines}
use Rattle.c_tree.specs.Names.{Names, seen, callee, is_taken, inner, declared_variables, behind_variable, behind_variables, behind_opening, behind_statement, parameters, gives_value, is_main, first_names, behind_gvar, behind_global, before_parameters, behind_parameters, before_body, gvars}
use Rattle.c_tree.specs.Resolve.{body_of, initial}

pub data Fault : Type 0 where
  BadName : (at : ℕ) → Fault  -- C4: a name that is unknown, or is declared twice in one block, or a declared `in` or `out`
  BadKind : (at : ℕ) → Fault  -- C5: something of another kind than is wanted
  BadNumber : (at : ℕ) → Fault  -- C6: a number out of its range
  BadShift : (at : ℕ) → Fault  -- C7: a shift by something else than a written number 0 to N-1

-- a fault where the condition fails
abbrev pub unless : Bool → Fault → List Fault
unless true f = []
unless false f = f ∷ []

-- ---- expressions

-- a number in an expression is at most 2^(N-1)-1
abbrev pub number_faults : ℕ → Number → List Fault
number_faults n z = unless (nat_lt z.value (2 ^ (n - 1))) (BadNumber z.at)

-- an array has an index and nothing else has one; a function is named in a call alone
abbrev pub use_faults : Option Meaning → (indexed : Bool) → ℕ → List Fault
use_faults None indexed at = BadName at ∷ []
use_faults (Some (OneCell p)) indexed at = unless (not indexed) (BadKind at)
use_faults (Some (Cells p n)) indexed at = unless indexed (BadKind at)
use_faults (Some _) indexed at = BadKind at ∷ []

-- a call is one of a function other than `main`, with as many arguments as it has parameters, `in()`, or `out(e)`; as a value it gives one
abbrev pub call_faults : Option Meaning → (arguments : ℕ) → (used : Bool) → ℕ → List Fault
call_faults None k used at = BadName at ∷ []
call_faults (Some (OneCell p)) k used at = BadKind at ∷ []
call_faults (Some (Cells p n)) k used at = BadKind at ∷ []
call_faults (Some (Callee f arity gives)) k used at = unless ((k == arity) && (not used || gives)) (BadKind at)
call_faults (Some Main) k used at = BadKind at ∷ []
call_faults (Some In) k used at = unless (k == 0) (BadKind at)
call_faults (Some Out) k used at = unless ((k == 1) && not used) (BadKind at)

-- the place of an expression's first token
abbrev pub first_place : Formula → ℕ
first_place (Numeral z) = z.at
first_place (Named x) = x.at
first_place (Indexed x p i q) = x.at
first_place (Called x p q) = x.at
first_place (CalledWith x p y ys q) = x.at
first_place (Paren p x q) = p
first_place (Unary op at x) = at
first_place (Binary op x at y) = first_place x

-- a written number 0 to N-1
abbrev pub is_amount : ℕ → Formula → Bool
is_amount n (Numeral z) = nat_lt z.value n
is_amount n _ = false

abbrev pub shift_faults : ℕ → Bin → Formula → List Fault
shift_faults n bin.Shl y = unless (is_amount n y) (BadShift (first_place y))
shift_faults n bin.Shr y = unless (is_amount n y) (BadShift (first_place y))
shift_faults n _ y = []

-- how many further arguments there are
abbrev pub further_count : Further → ℕ
further_count NoMore = 0
further_count (More comma x xs) = further_count xs + 1

abbrev mutual
  pub formula_faults : ℕ → Names → Formula → List Fault
  formula_faults n s (Numeral z) = number_faults n z
  formula_faults n s (Named x) = use_faults (seen s x.text) false x.at
  formula_faults n s (Indexed x p i q) = use_faults (seen s x.text) true x.at ++ formula_faults n s i
  formula_faults n s (Called x p q) = call_faults (callee s x.text) 0 true x.at
  formula_faults n s (CalledWith x p y ys q) =
      call_faults (callee s x.text) (further_count ys + 1) true x.at ++ formula_faults n s y ++ further_faults n s ys
  formula_faults n s (Paren p x q) = formula_faults n s x
  formula_faults n s (Unary op at x) = formula_faults n s x
  formula_faults n s (Binary op x at y) = formula_faults n s x ++ formula_faults n s y ++ shift_faults n op y

  pub further_faults : ℕ → Names → Further → List Fault
  further_faults n s NoMore = []
  further_faults n s (More comma x xs) = formula_faults n s x ++ further_faults n s xs

abbrev pub optional_faults : ℕ → Names → Option Formula → List Fault
optional_faults n s None = []
optional_faults n s (Some x) = formula_faults n s x

-- ---- simple statements and declarations

abbrev pub index_faults : ℕ → Names → Index → List Fault
index_faults n s None = []
index_faults n s (Some (p, i, q)) = formula_faults n s i

-- a call whose value isn't used
abbrev pub invoke_faults : ℕ → Names → Formula → List Fault
invoke_faults n s (Called x p q) = call_faults (callee s x.text) 0 false x.at
invoke_faults n s (CalledWith x p y ys q) =
    call_faults (callee s x.text) (further_count ys + 1) false x.at ++ formula_faults n s y ++ further_faults n s ys
invoke_faults n s x = formula_faults n s x

abbrev pub act_faults : ℕ → Names → Act → List Fault
act_faults n s (Assign x i store e) = use_faults (seen s x.text) (is_some i) x.at ++ index_faults n s i ++ formula_faults n s e
act_faults n s (Step x i c) = use_faults (seen s x.text) (is_some i) x.at ++ index_faults n s i
act_faults n s (Invoke x) = invoke_faults n s x

-- a name that is declared
abbrev pub declared_faults : Names → Name → List Fault
declared_faults s x = unless (not (is_taken s x.text)) (BadName x.at)

-- an array has 1 to 65,536 elements
abbrev pub length_faults : Number → List Fault
length_faults z = unless (nat_le 1 z.value && nat_le z.value 65536) (BadKind z.at)

abbrev pub variable_faults : ℕ → Names → Variable → List Fault
variable_faults n s (Scalar x) = declared_faults s x
variable_faults n s (Initial x at e) = declared_faults s x ++ formula_faults n (behind_variable s (Initial x at e)) e
variable_faults n s (Array x p z q) = declared_faults s x ++ length_faults z

abbrev pub variables_faults : ℕ → Names → List Variable → List Fault
variables_faults n s [] = []
variables_faults n s (v ∷ vs) = variable_faults n s v ++ variables_faults n (behind_variable s v) vs

-- ---- statements

-- which `return` a function has: with a value, without, or in an `int main` either
pub data Giving : Type 0 where
  GivesValue : Giving
  GivesNone : Giving
  GivesEither : Giving

abbrev pub return_faults : Giving → (valued : Bool) → ℕ → List Fault
return_faults GivesValue valued at = unless valued (BadKind at)
return_faults GivesNone valued at = unless (not valued) (BadKind at)
return_faults GivesEither valued at = []

-- where a statement stands: with numbers of so many bits, in such a function, within a loop or not
pub record Within : Type 0 where
  pub bits : ℕ
  pub giving : Giving
  pub looped : Bool

abbrev pub in_loop : Within → Within
in_loop w = record w { looped = true }

abbrev pub opening_faults : ℕ → Names → Option Opening → List Fault
opening_faults n s None = []
opening_faults n s (Some (Acts a)) = act_faults n s a
opening_faults n s (Some (Declares word v)) = variable_faults n s v

abbrev pub last_faults : ℕ → Names → Option Act → List Fault
last_faults n s None = []
last_faults n s (Some a) = act_faults n s a

abbrev mutual
  pub statement_faults : Within → Names → Statement → List Fault
  statement_faults w s (Braces p b q) = body_faults w (inner s) b
  statement_faults w s (Empty semicolon) = []
  statement_faults w s (Simply a semicolon) = act_faults w.bits s a
  statement_faults w s (Break at semicolon) = unless w.looped (BadKind at)
  statement_faults w s (Continue at semicolon) = unless w.looped (BadKind at)
  statement_faults w s (Return at e semicolon) = return_faults w.giving (is_some e) at ++ optional_faults w.bits s e
  statement_faults w s (If at p c q x) = formula_faults w.bits s c ++ statement_faults w s x
  statement_faults w s (IfElse at p c q x f y) = formula_faults w.bits s c ++ statement_faults w s x ++ statement_faults w (behind_statement s x) y
  statement_faults w s (While at p c q x) = formula_faults w.bits s c ++ statement_faults (in_loop w) s x
  statement_faults w s (Do at x v p c q semicolon) = statement_faults (in_loop w) s x ++ formula_faults w.bits (behind_statement s x) c
  statement_faults w s (For at p first a c b step q x) =
      opening_faults w.bits (inner s) first ++ optional_faults w.bits (behind_opening s first) c ++ last_faults w.bits (behind_opening s first) step
      ++ statement_faults (in_loop w) (behind_opening s first) x

  pub body_faults : Within → Names → Body → List Fault
  body_faults w s Nothing = []
  body_faults w s (Declare d rest) = variables_faults w.bits s (declared_variables d) ++ body_faults w (behind_variables s (declared_variables d)) rest
  body_faults w s (Then x rest) = statement_faults w s x ++ body_faults w (behind_statement s x) rest

-- ---- globals

-- an initial value is in int(N); its place is its `-`, where it has one
abbrev pub value_place : Option ℕ → Number → ℕ
value_place None z = z.at
value_place (Some at) z = at

abbrev pub initial_faults : ℕ → SNum → List Fault
initial_faults n z =
    unless (int_le (neg_ℤ (pos (2 ^ (n - 1)))) (initial z) && int_lt (initial z) (pos (2 ^ (n - 1)))) (BadNumber (value_place z.minus z.number))

-- the first of the initial values that an array has no element for
abbrev pub too_many_faults : List SNum → List Fault
too_many_faults [] = []
too_many_faults (z ∷ zs) = BadKind (value_place z.minus z.number) ∷ []

abbrev pub initials_faults : ℕ → (length : ℕ) → List SNum → List Fault
initials_faults n length zs = flat_map (initial_faults n) zs ++ too_many_faults (drop length zs)

abbrev pub gvar_faults : ℕ → Names → GVar → List Fault
gvar_faults n s (gvar.Scalar x None) = declared_faults s x
gvar_faults n s (gvar.Scalar x (Some (at, z))) = declared_faults s x ++ initial_faults n z
gvar_faults n s (gvar.Array x p z q None) = declared_faults s x ++ length_faults z
gvar_faults n s (gvar.Array x p z q (Some (at, l, y, ys, r))) =
    declared_faults s x ++ length_faults z ++ initials_faults n z.value (y ∷ map (λ (comma, v). v) ys)

abbrev pub gvars_faults : ℕ → Names → List GVar → List Fault
gvars_faults n s [] = []
gvars_faults n s (v ∷ vs) = gvar_faults n s v ++ gvars_faults n (behind_gvar s v) vs

abbrev pub params_faults : Names → List Param → List Fault
params_faults s [] = []
params_faults s (p ∷ ps) = declared_faults s p.name ++ params_faults (behind_parameters s (p ∷ [])) ps

-- a `void` function gives nothing, and an `int` function a value, but `int main` may do either
abbrev pub giving : Definition → Giving
giving f = if gives_value f.result then (if is_main f then GivesEither else GivesValue) else GivesNone

abbrev pub global_faults : ℕ → Names → Item → List Fault
global_faults n s (Variables v) = gvars_faults n s (gvars v)
global_faults n s (Defines f) =
    declared_faults s f.name ++ params_faults (before_parameters s f) (parameters f.params)
    ++ body_faults (record { bits = n; giving = giving f; looped = false }) (before_body s f) (body_of f.braces)

abbrev pub globals_faults : ℕ → Names → List Item → List Fault
globals_faults n s [] = []
globals_faults n s (g ∷ gs) = global_faults n s g ++ globals_faults n (behind_global s g) gs

-- all faults of a program with numbers of n bits
abbrev pub faults : List Item → ℕ → List Fault
faults gs n = globals_faults n (first_names gs) gs

-- the places of the faults of each kind
abbrev pub name_place : Fault → List ℕ
name_place (BadName at) = at ∷ []
name_place _ = []

abbrev pub kind_place : Fault → List ℕ
kind_place (BadKind at) = at ∷ []
kind_place _ = []

abbrev pub number_place : Fault → List ℕ
number_place (BadNumber at) = at ∷ []
number_place _ = []

abbrev pub shift_place : Fault → List ℕ
shift_place (BadShift at) = at ∷ []
shift_place _ = []

abbrev pub bad_names : List Item → ℕ → List ℕ
bad_names gs n = flat_map name_place (faults gs n)

abbrev pub bad_kinds : List Item → ℕ → List ℕ
bad_kinds gs n = flat_map kind_place (faults gs n)

abbrev pub bad_numbers : List Item → ℕ → List ℕ
bad_numbers gs n = flat_map number_place (faults gs n)

abbrev pub bad_shifts : List Item → ℕ → List ℕ
bad_shifts gs n = flat_map shift_place (faults gs n)

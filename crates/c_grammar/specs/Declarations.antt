-- Reading declarations of local variables from the front of a list of symbols.
use Rattle.std.specs.Prelude.{ℕ, zero, suc, ◌≤◌, ◌≡◌, List, Option, Some, None, codes}
use Rattle.c_tree.specs.declared.names.Name.{Name}
use Rattle.c_tree.specs.declared.names.TypeWord.TheVariants as type_word
use Rattle.readings.specs.Symbol.{Symbol}
use Rattle.readings.specs.Reading.{Read, Found, read_on, behind}
use Rattle.readings.specs.Readings.{Reading, ◌>>>◌, made, sign}
use Rattle.c_tree.specs.Formula.{Formula}
use Rattle.c_tree.specs.Statement.{Variable, Scalar, Initial, Array, Declaration}
use Rattle.c_tree.specs.Level.{IsLeveledVariable}
use Rattle.c_tree.specs.Depth.{variable_depth}
use Rattle.c_grammar.specs.Reading.{climb, IsEnd}
use Rattle.c_grammar.specs.Words.{name, number}
use Rattle.c_grammar.specs.Until.{until}

-- an expression of at most this depth
abbrev pub expression : ℕ → Reading Formula
expression room n ss = climb n 0 room ss

-- the number between brackets, behind the first
abbrev pub array : Name → ℕ → Reading Variable
array x p = made (λ (z, q). Array x p z q) (number >>> sign (codes "]"))

-- the initial value, behind `=`
abbrev pub initial : ℕ → Name → ℕ → Reading Variable
initial room x at = made (λ e. Initial x at e) (expression room)

-- what stands behind a name: the last is what stands behind a mark, if that is next
abbrev pub array_from : Name → ℕ → List Symbol → Option (ℕ × List Symbol) → Read Variable
array_from x n ss None = Found (Scalar x) ss
array_from x n ss (Some (p, rest)) = array x p n rest

abbrev pub without_initial : Name → Reading Variable
without_initial x n ss = array_from x n ss (behind (codes "[") ss)

abbrev pub initial_from : ℕ → Name → ℕ → List Symbol → Option (ℕ × List Symbol) → Read Variable
initial_from room x n ss None = without_initial x n ss
initial_from room x n ss (Some (at, rest)) = initial room x at n rest

abbrev pub variable_behind : ℕ → Name → Reading Variable
variable_behind room x n ss = initial_from room x n ss (behind (codes "=") ss)

-- a variable whose initial value is of at most this depth: `NAME`, `NAME = e` or `NAME[n]`
abbrev pub variable_read : ℕ → Reading Variable
variable_read room n ss = read_on (name n ss) (λ x s. variable_behind room x n s)

-- a variable without an initial value: `NAME` or `NAME[n]`
abbrev pub plain_variable : Reading Variable
plain_variable n ss = read_on (name n ss) (λ x s. without_initial x n s)

-- a variable whose initial value is of at most this depth: where there is no room for one, `=` fits nothing
abbrev pub variable_within : ℕ → Reading Variable
variable_within zero = plain_variable
variable_within (suc room) = variable_read (suc room)

-- further variables behind commas, and the semicolon
abbrev pub further_variables : ℕ → Reading (List (ℕ × Variable) × ℕ)
further_variables room = until (codes ";") (sign (codes ",") >>> variable_within room)

-- `v, v;` behind `int`, which stands at this place
abbrev pub declaration_read : ℕ → ℕ → Reading Declaration
declaration_read room at =
    made (λ (v, (vs, q)). record { word = type_word.Int at; first = v; rest = vs; semicolon = q }) (variable_within room >>> further_variables room)

-- ---- which may be read, and where they end

-- a variable whose initial value is of at most this depth
pub record IsGoodVariable (room : ℕ) (v : Variable) : Type 0 where
  pub leveled : IsLeveledVariable v
  pub shallow : variable_depth v ≤ suc room

-- what would make a variable longer isn't next
abbrev pub IsVariableEnd : Variable → List Symbol → Type 0
IsVariableEnd (Scalar x) r = (behind (codes "=") r ≡ None) × (behind (codes "[") r ≡ None)
IsVariableEnd (Initial x at e) r = IsEnd 0 e r
IsVariableEnd (Array x p z q) r = Unit {0}

-- the same with a variable without an initial value, which an `=` doesn't make longer
abbrev pub IsPlainEnd : Variable → List Symbol → Type 0
IsPlainEnd (Scalar x) r = behind (codes "[") r ≡ None
IsPlainEnd (Initial x at e) r = Unit {0}
IsPlainEnd (Array x p z q) r = Unit {0}

-- a variable where there is so much room for its initial value
abbrev pub IsVariableEndWithin : ℕ → Variable → List Symbol → Type 0
IsVariableEndWithin zero = IsPlainEnd
IsVariableEndWithin (suc room) = IsVariableEnd

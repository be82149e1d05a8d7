-- Reading functions, globals and whole programs.
use Rattle.std.specs.Prelude.{ℕ, ◌+◌, ◌-◌, ◌≤◌, List, [], ◌∷◌, Option, Some, None, codes}
use Rattle.c_tree.specs.declared.names.Name.{Name}
use Rattle.c_tree.specs.declared.names.TypeWord.TheVariants as type_word
use Rattle.c_tree.specs.declared.program.ResultWord.{ResultWord}
use Rattle.c_tree.specs.declared.program.ResultWord.TheVariants as result_word
use Rattle.c_tree.specs.declared.program.Params.{Params}
use Rattle.readings.specs.Symbol.{Symbol}
use Rattle.readings.specs.Reading.{Read, read_on, behind}
use Rattle.readings.specs.Readings.{Reading, ◌>>>◌, made, sign, worded, to_end}
use Rattle.c_tree.specs.Statement.{Body}
use Rattle.c_tree.specs.Items.{Item, Variables, Defines}
use Rattle.c_tree.specs.Level.{IsLeveledItem}
use Rattle.c_tree.specs.Depth.{item_depth, depth_limit}
use Rattle.c_grammar.specs.Words.{name}
use Rattle.c_grammar.specs.Globals.{global_behind, further_globals}
use Rattle.c_grammar.specs.Parameters.{parameters}
use Rattle.c_grammar.specs.Statements.{IsWrittenBody}
use Rattle.c_grammar.specs.ReadingStatements.{block_body}

-- ---- functions

-- the parameters with the parenthesis that closes, and the block
abbrev pub Signed : Type 0
Signed = (Option Params × ℕ) × (ℕ × (Body × ℕ))

-- the function that they make
abbrev pub defined : ResultWord → Name → ℕ → Signed → Item
defined w x p ((ps, q), (l, (b, r))) = Defines (record { result = w; name = x; opening = p; params = ps; closing = q; braces = (l, b, r) })

-- they, behind `NAME (`; the block is of at most this depth
abbrev pub signed : ℕ → Reading Signed
signed room = parameters >>> (sign (codes "{") >>> block_body room)

abbrev pub function_read : ℕ → ResultWord → Name → ℕ → Reading Item
function_read room w x p = made (defined w x p) (signed room)

-- ---- globals

-- global variables behind `int NAME`
abbrev pub variables_read : ℕ → Name → Reading Item
variables_read at x =
    made (λ (v, (vs, q)). Variables (record { word = type_word.Int at; first = v; rest = vs; semicolon = q })) (global_behind x >>> further_globals)

-- behind `int NAME`: the last is what stands behind a parenthesis, if that is next
abbrev pub valued_from : ℕ → ℕ → Name → ℕ → List Symbol → Option (ℕ × List Symbol) → Read Item
valued_from room at x n ss None = variables_read at x n ss
valued_from room at x n ss (Some (p, rest)) = function_read room (result_word.Type (type_word.Int at)) x p n rest

abbrev pub valued : ℕ → ℕ → Name → Reading Item
valued room at x n ss = valued_from room at x n ss (behind (codes "(") ss)

-- a function behind `void`
abbrev pub valueless : ℕ → ℕ → Reading Item
valueless room at = made (λ (x, (p, s)). defined (result_word.Void at) x p s) (name >>> (sign (codes "(") >>> signed room))

-- what a global begins with
pub data ItemStart : Type 0 where
  Valued : ItemStart
  Valueless : ItemStart

-- each by its word
abbrev pub item_starts : List (List ℕ × ItemStart)
item_starts = (codes "int", Valued) ∷ (codes "void", Valueless) ∷ []

-- what stands behind each
abbrev pub behind_item : ℕ → ItemStart → ℕ → Reading Item
behind_item room Valued at = λ n ss. read_on (name n ss) (λ x s. valued room at x n s)
behind_item room Valueless at = valueless room at

-- a global: variables, or a function whose block is of at most this depth
abbrev pub item_read : ℕ → Reading Item
item_read room = worded item_starts (behind_item room)

-- ---- programs

-- a block stands one node below its global
abbrev pub block_room : ℕ
block_room = depth_limit - 1

-- the globals of a program, to the end of its symbols
abbrev pub program_read : Reading (List Item)
program_read = to_end (item_read block_room)

-- ---- which may be read

-- of expressions only a call is a statement
abbrev pub IsWrittenItem : Item → Type 0
IsWrittenItem (Variables v) = Unit {0}
IsWrittenItem (Defines f) = IsWrittenBody f.braces.1

-- a global of at most one more than this depth
pub record IsGoodItem (room : ℕ) (g : Item) : Type 0 where
  pub written : IsWrittenItem g
  pub leveled : IsLeveledItem g
  pub shallow : item_depth g ≤ 1 + room

-- What some lists of symbols are read as.
use Rattle.std.specs.Prelude.{◌≡◌, refl, List, [], ◌∷◌, ◌++◌, codes}
use Rattle.readings.specs.Symbol.{Symbol, Fixed, Named, Number}
use Rattle.nml_tree.specs.Formula.{Binary, Paren, Numeral, Unary, Neg}
use Rattle.nml_tree.specs.SampleTree.{name, named, difference_formula, sample_block, branch}
use Rattle.nml_tree.specs.Block.{Done, Part}
use Rattle.readings.specs.Reading.{Found, Stuck}
use Rattle.nml_grammar.specs.Reading.{climb, reading}
use Rattle.nml_grammar.specs.ReadingStatements.{statements}
use Rattle.nml_tree.specs.declared.operator.Bin.TheVariants as bin

-- `a - b - c` is `( a - b ) - c` without the parentheses
pub left_first : climb 20 0 9 (Named 0 (codes "a") ∷ Fixed 2 (codes "-") ∷ Named 4 (codes "b") ∷ Fixed 6 (codes "-") ∷ Named 8 (codes "c") ∷ [])
    ≡ Found (Binary bin.Sub (Binary bin.Sub (named 0 (codes "a")) 2 (named 4 (codes "b"))) 6 (named 8 (codes "c"))) []
left_first = refl

-- `a - b * ( c )`
abbrev pub difference_symbols : List Symbol
difference_symbols =
    Named 73 (codes "a") ∷ Fixed 75 (codes "-") ∷ Named 77 (codes "b") ∷ Fixed 79 (codes "*") ∷ Fixed 81 (codes "(") ∷ Named 83 (codes "c")
    ∷ Fixed 85 (codes ")") ∷ []

pub difference_read : climb 20 0 4 difference_symbols ≡ Found difference_formula []
difference_read = refl

-- with room for less, the parenthesis is one node too deep
pub difference_too_deep : climb 20 0 3 difference_symbols ≡ Stuck (Fixed 81 (codes "(") ∷ Named 83 (codes "c") ∷ Fixed 85 (codes ")") ∷ [])
difference_too_deep = refl

-- in `a - b - c` it is the second operator
pub left_too_deep : climb 20 0 2 (Named 0 (codes "a") ∷ Fixed 2 (codes "-") ∷ Named 4 (codes "b") ∷ Fixed 6 (codes "-") ∷ Named 8 (codes "c") ∷ [])
    ≡ Stuck (Fixed 6 (codes "-") ∷ Named 8 (codes "c") ∷ [])
left_too_deep = refl

-- `1 + )` is stuck at the parenthesis
pub no_operand : climb 20 0 9 (Number 0 1 ∷ Fixed 2 (codes "+") ∷ Fixed 4 (codes ")") ∷ []) ≡ Stuck (Fixed 4 (codes ")") ∷ [])
no_operand = refl

-- `( 1` ends too early
pub unclosed : climb 20 0 9 (Fixed 0 (codes "(") ∷ Number 2 1 ∷ []) ≡ Stuck []
unclosed = refl

-- a weaker operator than asked for ends the expression
pub weaker : climb 20 9 9 (Number 0 1 ∷ Fixed 2 (codes "+") ∷ []) ≡ Found (Numeral (record { at = 0; value = 1 })) (Fixed 2 (codes "+") ∷ [])
weaker = refl

-- `( a ) [`: an index stands behind a name alone
pub no_index : reading 0 9 (Fixed 0 (codes "(") ∷ Named 2 (codes "a") ∷ Fixed 4 (codes ")") ∷ Fixed 6 (codes "[") ∷ [])
    ≡ Found (Paren 0 (named 2 (codes "a")) 4) (Fixed 6 (codes "[") ∷ [])
no_index = refl

pub open_index : reading 0 9 (Named 0 (codes "a") ∷ Fixed 2 (codes "[") ∷ []) ≡ Stuck []
open_index = refl

-- `- a + b`: an operator of one operand binds more tightly
pub prefix_first : reading 0 9 (Fixed 0 (codes "-") ∷ Named 2 (codes "a") ∷ Fixed 4 (codes "+") ∷ Named 6 (codes "b") ∷ [])
    ≡ Found (Binary bin.Add (Unary Neg 0 (named 2 (codes "a"))) 4 (named 6 (codes "b"))) []
prefix_first = refl

-- `int ( a ;` is stuck where the comma is missing
pub no_comma : reading 0 9 (Fixed 0 (codes "int") ∷ Fixed 4 (codes "(") ∷ Named 6 (codes "a") ∷ Fixed 8 (codes ";") ∷ []) ≡ Stuck (Fixed 8 (codes ";") ∷ [])
no_comma = refl

-- `if a then b endif` is stuck where its second part is missing
pub no_else : reading 0 9 (Fixed 0 (codes "if") ∷ Named 3 (codes "a") ∷ Fixed 5 (codes "then") ∷ Named 10 (codes "b") ∷ Fixed 12 (codes "endif") ∷ [])
    ≡ Stuck (Fixed 12 (codes "endif") ∷ [])
no_else = refl

-- ---- statements

-- `x = a - b * ( c ) ;`, before a brace
abbrev pub assignment_symbols : List Symbol
assignment_symbols = Named 69 (codes "x") ∷ Fixed 71 (codes "=") ∷ (difference_symbols ++ (Fixed 87 (codes ";") ∷ Fixed 89 (codes "}") ∷ []))

pub assignment_read : statements 20 5 assignment_symbols ≡ Found sample_block (Fixed 89 (codes "}") ∷ [])
assignment_read = refl

-- with room for the statement and its place alone, `=` is where it is stuck
pub assignment_too_deep : statements 20 1 (Named 0 (codes "x") ∷ Fixed 2 (codes "=") ∷ Number 4 1 ∷ Fixed 6 (codes ";") ∷ [])
    ≡ Stuck (Fixed 2 (codes "=") ∷ Number 4 1 ∷ Fixed 6 (codes ";") ∷ [])
assignment_too_deep = refl

-- there is room for one without an expression
pub part_read : statements 20 1 (Named 0 (codes "x") ∷ Fixed 2 (codes ".") ∷ Fixed 4 (codes "action") ∷ Fixed 11 (codes ";") ∷ []) ≡ Found (Part (name 0 (codes "x")) 2 4 11 Done) []
part_read = refl

-- `x [ i ] = k ; endif ;`
abbrev pub behind_else : List Symbol
behind_else =
    Named 31 (codes "x") ∷ Fixed 33 (codes "[") ∷ Named 35 (codes "i") ∷ Fixed 37 (codes "]") ∷ Fixed 39 (codes "=") ∷ Named 41 (codes "k") ∷ Fixed 43 (codes ";")
    ∷ Fixed 45 (codes "endif") ∷ Fixed 51 (codes ";") ∷ []

-- `if true then halt ( k ) ; else` and these
abbrev pub branch_symbols : List Symbol
branch_symbols =
    Fixed 0 (codes "if") ∷ Fixed 3 (codes "true") ∷ Fixed 8 (codes "then")
    ∷ Fixed 13 (codes "halt") ∷ Fixed 18 (codes "(") ∷ Named 20 (codes "k") ∷ Fixed 22 (codes ")") ∷ Fixed 24 (codes ";")
    ∷ Fixed 26 (codes "else") ∷ behind_else

pub branch_read : statements 20 4 branch_symbols ≡ Found branch []
branch_read = refl

-- with room for less, the index is one node too deep
pub branch_too_deep : statements 20 3 branch_symbols
    ≡ Stuck (Fixed 33 (codes "[") ∷ Named 35 (codes "i") ∷ Fixed 37 (codes "]") ∷ Fixed 39 (codes "=") ∷ Named 41 (codes "k") ∷ Fixed 43 (codes ";")
    ∷ Fixed 45 (codes "endif") ∷ Fixed 51 (codes ";") ∷ [])
branch_too_deep = refl

-- `if` alone has a condition below it
pub branch_alone : statements 20 1 branch_symbols ≡ Stuck branch_symbols
branch_alone = refl

-- `halt` alone has an expression below it
pub halt_alone : statements 20 1 (Fixed 0 (codes "halt") ∷ Fixed 5 (codes "(") ∷ Number 7 0 ∷ []) ≡ Stuck (Fixed 0 (codes "halt") ∷ Fixed 5 (codes "(") ∷ Number 7 0 ∷ [])
halt_alone = refl

-- `x = 1 endif` is stuck where the semicolon lacks
pub no_semicolon : statements 20 9 (Named 0 (codes "x") ∷ Fixed 2 (codes "=") ∷ Number 4 1 ∷ Fixed 6 (codes "endif") ∷ []) ≡ Stuck (Fixed 6 (codes "endif") ∷ [])
no_semicolon = refl

-- `if true then` ends too early
pub unfinished : statements 20 9 (Fixed 0 (codes "if") ∷ Fixed 3 (codes "true") ∷ Fixed 8 (codes "then") ∷ []) ≡ Stuck []
unfinished = refl

-- where no statement begins there is none
pub none_there : statements 20 9 (Fixed 0 (codes "}") ∷ []) ≡ Found Done (Fixed 0 (codes "}") ∷ [])
none_there = refl

-- Readings of expressions, and the list of further arguments that a function has.
use Rattle.std.specs.Prelude.{ℕ, List, map}
use Rattle.c_tree.specs.Formula.{Formula, Further, formula, further}
use Rattle.c_tree.specs.declared.expression.Expr.{Expr}
use Rattle.c_grammar.specs.Reading.{climb}
use Rattle.readings.specs.Readings.{Reading}

-- an expression of any level that is at most so deep
abbrev pub expression_of : ℕ → Reading Formula
expression_of room n ss = climb n 0 room ss

-- the formulas of expressions, each with the place of the comma before it
abbrev pub formulas : List (ℕ × Expr) → List (ℕ × Formula)
formulas xs = map (λ (comma, y). (comma, formula y)) xs

-- further arguments
abbrev pub others_of : List (ℕ × Expr) → Further
others_of xs = further (formulas xs)

-- What an operand begins with, as the reader keeps it. Private: contracts of the reader cite it.
use Rattle.std.specs.Prelude.{ℕ, List}
use Rattle.c_tree.specs.Formula.{Formula}
use Rattle.readings.specs.Symbol.{Symbol}
use Rattle.readings.specs.Reading.{Read}
use Rattle.c_grammar.specs.Reading.{Reader, paren, operation}
use Rattle.c_expression.specs.declared.beginning.Prefix.{Prefix}
use Rattle.c_expression.specs.declared.beginning.Form.{Form}
use Rattle.c_tree.specs.Formula as plain
use Rattle.c_grammar.specs.Reading as single
use Rattle.c_expression.specs.declared.beginning.Prefix.TheVariants as prefix
use Rattle.c_expression.specs.declared.beginning.Form.TheVariants as form

-- an operator of one operand
abbrev pub prefix_of : Prefix → plain.Prefix
prefix_of prefix.Neg = plain.Neg
prefix_of prefix.Inv = plain.Inv
prefix_of prefix.Not = plain.Not

-- what begins an expression that has another within it
abbrev pub form_of : Form → single.Beginning
form_of form.Paren = single.Opening
form_of (form.Operation op) = single.Operation (prefix_of op)

-- an expression that has another within it, behind its first symbol
abbrev pub formed : Reader → ℕ → Form → ℕ → List Symbol → Read Formula
formed inner room form.Paren at ss = paren inner room at ss
formed inner room (form.Operation op) at ss = operation inner room (prefix_of op) at ss

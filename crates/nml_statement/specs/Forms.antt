-- What an operand begins with, as the reader keeps it. Private: contracts of the reader cite it.
use Rattle.std.specs.Prelude.{ℕ, List}
use Rattle.nml_tree.specs.Formula.{Formula}
use Rattle.readings.specs.Symbol.{Symbol}
use Rattle.readings.specs.Reading.{Read}
use Rattle.nml_grammar.specs.Reading.{Reader, paren, fitted, slice, choice, operation}
use Rattle.nml_statement.specs.declared.beginning.Fit.{Fit}
use Rattle.nml_statement.specs.declared.beginning.Prefix.{Prefix}
use Rattle.nml_statement.specs.declared.beginning.Form.{Form}
use Rattle.nml_statement.specs.declared.beginning.Beginning.{Beginning}
use Rattle.nml_tree.specs.Formula as whole
use Rattle.nml_grammar.specs.Reading as single
use Rattle.nml_statement.specs.declared.beginning.Fit.TheVariants as fit
use Rattle.nml_statement.specs.declared.beginning.Prefix.TheVariants as prefix
use Rattle.nml_statement.specs.declared.beginning.Form.TheVariants as form
use Rattle.nml_statement.specs.declared.beginning.Beginning.TheVariants as beginning

-- what fits a number into a type
abbrev pub fit_of : Fit → whole.Fit
fit_of fit.Int = whole.Int
fit_of fit.Card = whole.Card
fit_of fit.Sat = whole.Sat

-- an operator of one operand
abbrev pub prefix_of : Prefix → whole.Prefix
prefix_of prefix.Neg = whole.Neg
prefix_of prefix.Inv = whole.Inv
prefix_of prefix.Not = whole.Not

-- what begins an expression that has others within it
abbrev pub form_of : Form → single.Beginning
form_of form.Paren = single.Opening
form_of (form.Fitted f) = single.Fitting (fit_of f)
form_of form.Slice = single.Slice
form_of form.Choice = single.Choice
form_of (form.Operation op) = single.Operation (prefix_of op)

-- what a keyword or a mark begins
abbrev pub beginning_of : Beginning → single.Beginning
beginning_of (beginning.Value b) = single.Value b
beginning_of (beginning.Node f) = form_of f

-- an expression that has others within it, behind its first symbol
abbrev pub formed : Reader → ℕ → Form → ℕ → List Symbol → Read Formula
formed inner room form.Paren at ss = paren inner room at ss
formed inner room (form.Fitted f) at ss = fitted inner room (fit_of f) at ss
formed inner room form.Slice at ss = slice inner room at ss
formed inner room form.Choice at ss = choice inner room at ss
formed inner room (form.Operation op) at ss = operation inner room (prefix_of op) at ss

-- What the reader keeps, as definitions see it. Private: its contracts cite it.
use Rattle.std.specs.Prelude.{◌≡◌, ℕ, List, [], map, IsTrue, IsFalse}
use Rattle.c_lex.specs.Form.{is_token, is_within, is_outside}
use Rattle.nml_lex.specs.Lexed.{Lexeme}
use Rattle.c_lex.specs.Lexed.{HasLexemes}
use Rattle.readings.specs.Symbol.{Symbol}
use Rattle.c_tree.specs.declared.program.SNum.{SNum}
use Rattle.c_tree.specs.declared.statement.Block.{Block}
use Rattle.c_tree.specs.Statement.{Body, block}
use Rattle.c_grammar.specs.Parameters as parameters
use Rattle.c_grammar.specs.Programs as programs
use Rattle.c_grammar.specs.Trees.{outside_places, symbol}
use Rattle.c_read.specs.declared.function.Start.{Start}
use Rattle.c_read.specs.declared.function.Start.TheVariants as starts
use Rattle.c_read.specs.declared.item.Opening.{Opening}
use Rattle.c_read.specs.declared.item.Opening.TheVariants as openings
use Rattle.c_read.specs.declared.variables.Listed.{Listed}

-- the text is a token within its limit, and programs have it
abbrev pub IsSound : Lexeme → Type 0
IsSound p = IsTrue (is_token p.text) × IsTrue (is_within p.text) × IsFalse (is_outside p.text)

-- the symbols of the bytes' tokens, of which programs have each
pub record AreSymbols (bytes : List ℕ) (symbols : List Symbol) : Type 0 where
  pub tokens : List Lexeme
  pub has : HasLexemes bytes tokens
  pub inside : outside_places tokens ≡ []
  pub are : symbols ≡ map symbol tokens

-- the initial values of an array, one behind the other
abbrev pub listed_of : Listed → ℕ × (SNum × (List (ℕ × SNum) × ℕ))
listed_of l = (l.opening, (l.first, (l.rest, l.closing)))

-- a block and its braces
abbrev pub braces_of : Block → ℕ × (Body × ℕ)
braces_of b = ((block b).0, ((block b).1, (block b).2))

-- what parameters begin with
abbrev pub start_of : Start → parameters.Start
start_of starts.Closing = parameters.Closing
start_of starts.Empty = parameters.Empty
start_of starts.Typed = parameters.Typed

-- what a global begins with
abbrev pub opening_of : Opening → programs.ItemStart
opening_of openings.Valued = programs.Valued
opening_of openings.Valueless = programs.Valueless

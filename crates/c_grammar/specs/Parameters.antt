-- Reading the parameters of a function from the front of a list of symbols.
use Rattle.std.specs.Prelude.{ℕ, List, [], ◌∷◌, ◌++◌, Option, Some, None, codes}
use Rattle.c_tree.specs.declared.names.TypeWord.TheVariants as type_word
use Rattle.c_tree.specs.declared.program.Param.{Param}
use Rattle.c_tree.specs.declared.program.Params.{Params}
use Rattle.c_tree.specs.declared.program.Params.TheVariants as params
use Rattle.readings.specs.Symbol.{Symbol, fixed}
use Rattle.readings.specs.Readings.{Reading, ◌>>>◌, made, given, sign, worded}
use Rattle.c_tree.specs.SpellGlobals.{params_spelling}
use Rattle.c_grammar.specs.Words.{name, type_word_read}
use Rattle.c_grammar.specs.Until.{until}

-- `int NAME`
abbrev pub parameter : Reading Param
parameter = made (λ (w, x). record { word = w; name = x }) (type_word_read >>> name)

-- what parameters and the parenthesis behind them begin with
pub data Start : Type 0 where
  Closing : Start
  Empty : Start
  Typed : Start

-- each with its mark or word
abbrev pub starts : List (List ℕ × Start)
starts = (codes ")", Closing) ∷ (codes "void", Empty) ∷ (codes "int", Typed) ∷ []

-- what stands behind each
abbrev pub behind_start : Start → ℕ → Reading (Option Params × ℕ)
behind_start Closing at = given (None, at)
behind_start Empty at = made (λ q. (Some (params.Void at), q)) (sign (codes ")"))
behind_start Typed at =
    made (λ (x, (ps, q)). (Some (params.Named (record { word = type_word.Int at; name = x }) ps), q)) (name >>> until (codes ")") (sign (codes ",") >>> parameter))

-- no parameters, `void`, or some, up to the parenthesis that closes
abbrev pub parameters : Reading (Option Params × ℕ)
parameters = worded starts behind_start

abbrev pub parameters_spelling : Option Params × ℕ → List Symbol
parameters_spelling (ps, q) = params_spelling ps ++ fixed q (codes ")")

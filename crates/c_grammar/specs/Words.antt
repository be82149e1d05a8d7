-- Readings of single names, numbers and types.
use Rattle.std.specs.Prelude.{[], ◌∷◌, codes}
use Rattle.c_tree.specs.declared.names.Name.{Name}
use Rattle.c_tree.specs.declared.names.Number.{Number}
use Rattle.c_tree.specs.declared.names.TypeWord.{TypeWord}
use Rattle.c_tree.specs.declared.names.TypeWord.TheVariants as type_word
use Rattle.readings.specs.Symbol.{Symbol}
use Rattle.readings.specs.Reading.{Found, Stuck}
use Rattle.readings.specs.Readings.{Reading, made, sign}

-- a name
abbrev pub name : Reading Name
name n [] = Stuck []
name n (Symbol.Fixed at text ∷ ss) = Stuck (Symbol.Fixed at text ∷ ss)
name n (Symbol.Named at text ∷ ss) = Found (record { at = at; text = text }) ss
name n (Symbol.Number at value ∷ ss) = Stuck (Symbol.Number at value ∷ ss)
name n (Symbol.Quoted at text ∷ ss) = Stuck (Symbol.Quoted at text ∷ ss)

-- a number
abbrev pub number : Reading Number
number n [] = Stuck []
number n (Symbol.Fixed at text ∷ ss) = Stuck (Symbol.Fixed at text ∷ ss)
number n (Symbol.Named at text ∷ ss) = Stuck (Symbol.Named at text ∷ ss)
number n (Symbol.Number at value ∷ ss) = Found (record { at = at; value = value }) ss
number n (Symbol.Quoted at text ∷ ss) = Stuck (Symbol.Quoted at text ∷ ss)

-- `int`
abbrev pub type_word_read : Reading TypeWord
type_word_read = made (λ at. type_word.Int at) (sign (codes "int"))

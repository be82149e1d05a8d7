-- Readings put together: one behind the other, made into something else, lists, and what stands behind a keyword.
use Rattle.std.specs.Prelude.{[], ◌∷◌}
use Rattle.nml_tree.specs.declared.names.Name.{Name}
use Rattle.nml_tree.specs.declared.names.Number.{Number}
use Rattle.nml_tree.specs.declared.names.Quoted.{Quoted}
use Rattle.nml_tree.specs.declared.tree.Size.{Size}
use Rattle.readings.specs.Symbol.{Symbol}
use Rattle.readings.specs.Reading.{Found, Stuck}
use Rattle.readings.specs.Readings.{Reading}
use Rattle.nml_grammar.specs.Reading as single

-- a size
abbrev pub size : Reading Size
size n ss = single.size ss

-- a name
abbrev pub name : Reading Name
name n [] = Stuck []
name n (Symbol.Fixed at text ∷ ss) = Stuck (Symbol.Fixed at text ∷ ss)
name n (Symbol.Named at text ∷ ss) = Found (record { at = at; text = text }) ss
name n (Symbol.Number at value ∷ ss) = Stuck (Symbol.Number at value ∷ ss)
name n (Symbol.Quoted at text ∷ ss) = Stuck (Symbol.Quoted at text ∷ ss)

-- a number
abbrev pub number : Reading Number
number n [] = Stuck []
number n (Symbol.Fixed at text ∷ ss) = Stuck (Symbol.Fixed at text ∷ ss)
number n (Symbol.Named at text ∷ ss) = Stuck (Symbol.Named at text ∷ ss)
number n (Symbol.Number at value ∷ ss) = Found (record { at = at; value = value }) ss
number n (Symbol.Quoted at text ∷ ss) = Stuck (Symbol.Quoted at text ∷ ss)

-- a string
abbrev pub string : Reading Quoted
string n [] = Stuck []
string n (Symbol.Fixed at text ∷ ss) = Stuck (Symbol.Fixed at text ∷ ss)
string n (Symbol.Named at text ∷ ss) = Stuck (Symbol.Named at text ∷ ss)
string n (Symbol.Number at value ∷ ss) = Stuck (Symbol.Number at value ∷ ss)
string n (Symbol.Quoted at text ∷ ss) = Found (record { at = at; text = text }) ss

-- What some declarations, global variables and parameters are read as.
use Rattle.std.specs.Prelude.{◌≡◌, refl, ℕ, List, [], ◌∷◌, Some, codes}
use Rattle.readings.specs.Symbol.{Fixed, Named as NamedSymbol, Number}
use Rattle.c_tree.specs.declared.names.Name.{Name}
use Rattle.c_tree.specs.declared.names.TypeWord.TheVariants as type_word
use Rattle.c_tree.specs.declared.program.GVar.TheVariants as gvars
use Rattle.c_tree.specs.declared.program.Params.TheVariants as params
use Rattle.c_tree.specs.Formula.{Numeral}
use Rattle.c_tree.specs.Statement.{Initial, Array}
use Rattle.readings.specs.Reading.{Found, Stuck}
use Rattle.c_grammar.specs.Declarations.{declaration_read}
use Rattle.c_grammar.specs.Globals.{global_variable}
use Rattle.c_grammar.specs.Parameters.{parameters}

abbrev name_at : ℕ → List ℕ → Name
name_at at text = record { at = at; text = text }

-- `int a = 1, b[2];`, behind its first word
pub declared : declaration_read 5 0 20
    (NamedSymbol 4 (codes "a") ∷ Fixed 6 (codes "=") ∷ Number 8 1 ∷ Fixed 9 (codes ",") ∷ NamedSymbol 11 (codes "b") ∷ Fixed 12 (codes "[") ∷ Number 13 2
    ∷ Fixed 14 (codes "]") ∷ Fixed 15 (codes ";") ∷ [])
    ≡ Found (record {
      word = type_word.Int 0;
      first = Initial (name_at 4 (codes "a")) 6 (Numeral (record { at = 8; value = 1 }));
      rest = (9, Array (name_at 11 (codes "b")) 12 (record { at = 13; value = 2 }) 14) ∷ [];
      semicolon = 15;
    }) []
declared = refl

-- `int a b` is stuck at `b`, `int [` at the bracket, and with no room for an initial value `int a =` at the mark
pub no_comma : declaration_read 5 0 20 (NamedSymbol 4 (codes "a") ∷ NamedSymbol 6 (codes "b") ∷ []) ≡ Stuck (NamedSymbol 6 (codes "b") ∷ [])
no_comma = refl

pub no_name : declaration_read 5 0 20 (Fixed 4 (codes "[") ∷ []) ≡ Stuck (Fixed 4 (codes "[") ∷ [])
no_name = refl

pub no_room : declaration_read 0 0 20 (NamedSymbol 4 (codes "a") ∷ Fixed 6 (codes "=") ∷ Number 8 1 ∷ []) ≡ Stuck (Fixed 6 (codes "=") ∷ Number 8 1 ∷ [])
no_room = refl

-- `a = -1`, an initial value that is no number, and `a[2] = {1, -2}` with an end that lacks
pub global_scalar_read : global_variable 20 (NamedSymbol 0 (codes "a") ∷ Fixed 2 (codes "=") ∷ Fixed 4 (codes "-") ∷ Number 5 1 ∷ [])
    ≡ Found (gvars.Scalar (name_at 0 (codes "a")) (Some (2, record { minus = Some 4; number = record { at = 5; value = 1 } }))) []
global_scalar_read = refl

pub global_stuck : global_variable 20 (NamedSymbol 0 (codes "a") ∷ Fixed 2 (codes "=") ∷ NamedSymbol 4 (codes "b") ∷ []) ≡ Stuck (NamedSymbol 4 (codes "b") ∷ [])
global_stuck = refl

pub global_open : global_variable 20
    (NamedSymbol 0 (codes "a") ∷ Fixed 1 (codes "[") ∷ Number 2 2 ∷ Fixed 3 (codes "]") ∷ Fixed 5 (codes "=") ∷ Fixed 7 (codes "{") ∷ Number 8 1 ∷ Fixed 9 (codes ",") ∷ []) ≡ Stuck []
global_open = refl

-- `void )`, and `int a, b` without a type
pub void_read : parameters 20 (Fixed 0 (codes "void") ∷ Fixed 4 (codes ")") ∷ []) ≡ Found (Some (params.Void 0), 4) []
void_read = refl

pub untyped : parameters 20 (Fixed 0 (codes "int") ∷ NamedSymbol 4 (codes "a") ∷ Fixed 5 (codes ",") ∷ NamedSymbol 7 (codes "b") ∷ Fixed 8 (codes ")") ∷ [])
    ≡ Stuck (NamedSymbol 7 (codes "b") ∷ Fixed 8 (codes ")") ∷ [])
untyped = refl

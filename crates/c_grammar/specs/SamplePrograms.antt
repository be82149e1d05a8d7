-- What some programs are read as.
use Rattle.std.specs.Prelude.{◌≡◌, refl, [], ◌∷◌, Some, None, codes}
use Rattle.readings.specs.Symbol.{Fixed, Named as NamedSymbol, Number}
use Rattle.c_tree.specs.declared.names.TypeWord.TheVariants as type_word
use Rattle.c_tree.specs.declared.program.ResultWord.TheVariants as result_word
use Rattle.c_tree.specs.declared.program.GVar.TheVariants as gvars
use Rattle.c_tree.specs.Formula.{Numeral}
use Rattle.c_tree.specs.Statement.{Return, Nothing, Then}
use Rattle.c_tree.specs.Items.{Variables, Defines}
use Rattle.readings.specs.Reading.{Found, Stuck}
use Rattle.c_grammar.specs.ReadingStatements.{statement_read, block_body}
use Rattle.c_grammar.specs.Programs.{item_read, program_read}

-- `int a; void main() { return 1; }`
pub two_globals : program_read 20
    (Fixed 0 (codes "int") ∷ NamedSymbol 4 (codes "a") ∷ Fixed 5 (codes ";") ∷ Fixed 7 (codes "void") ∷ NamedSymbol 12 (codes "main") ∷ Fixed 16 (codes "(") ∷ Fixed 17 (codes ")")
    ∷ Fixed 19 (codes "{") ∷ Fixed 21 (codes "return") ∷ Number 28 1 ∷ Fixed 29 (codes ";") ∷ Fixed 31 (codes "}") ∷ [])
    ≡ Found (Variables (record { word = type_word.Int 0; first = gvars.Scalar (record { at = 4; text = codes "a" }) None; rest = []; semicolon = 5 })
    ∷ Defines (record {
      result = result_word.Void 7;
      name = record { at = 12; text = codes "main" };
      opening = 16;
      params = None;
      closing = 17;
      braces = (19, Then (Return 21 (Some (Numeral (record { at = 28; value = 1 }))) 29) Nothing, 31);
    }) ∷ []) []
unfolding statement_read block_body
two_globals = refl

-- no symbols are a program without globals
pub nothing : program_read 20 [] ≡ Found [] []
nothing = refl

-- `int main() {` ends too early, and `void a;` is stuck at the semicolon
pub open_function : program_read 20 (Fixed 0 (codes "int") ∷ NamedSymbol 4 (codes "main") ∷ Fixed 8 (codes "(") ∷ Fixed 9 (codes ")") ∷ Fixed 11 (codes "{") ∷ []) ≡ Stuck []
unfolding statement_read block_body
open_function = refl

pub no_function : program_read 20 (Fixed 0 (codes "void") ∷ NamedSymbol 5 (codes "a") ∷ Fixed 6 (codes ";") ∷ []) ≡ Stuck (Fixed 6 (codes ";") ∷ [])
no_function = refl

-- with room for a block of one node it holds nothing
pub no_statement : item_read 1 20
    (Fixed 0 (codes "void") ∷ NamedSymbol 5 (codes "a") ∷ Fixed 6 (codes "(") ∷ Fixed 7 (codes ")") ∷ Fixed 9 (codes "{") ∷ Fixed 11 (codes ";") ∷ Fixed 13 (codes "}") ∷ [])
    ≡ Stuck (Fixed 11 (codes ";") ∷ Fixed 13 (codes "}") ∷ [])
unfolding statement_read block_body
no_statement = refl

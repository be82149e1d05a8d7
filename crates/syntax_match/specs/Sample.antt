-- The words of a shape with the tokens `ldi` and a field, a number of 4 bits with a sign, which is the bottom of the word.
use Rattle.std.specs.Prelude.{◌≡◌, refl, ℕ, pos, negsuc, List, [], ◌∷◌, Option, Some, None, codes}
use Rattle.nk_base.specs.declared.number.Ty.TheVariants as ty
use Rattle.nml_shape.specs.declared.shape.FieldAt.{FieldAt}
use Rattle.nml_shape.specs.declared.shape.Piece.{Piece}
use Rattle.nml_shape.specs.declared.shape.Piece.TheVariants as piece
use Rattle.syntax_match.specs.Bits.{joined}

abbrev fields : List FieldAt
fields = record { ty = ty.Int 4; low = 0 } ∷ []

-- with the fixed bits 0x30
abbrev word : List Piece → Option ℕ
word tokens = joined fields 0x30 (piece.Word (codes "ldi") ∷ piece.Field 0 ∷ []) tokens

pub some_word : word (piece.Word (codes "ldi") ∷ piece.Number (negsuc 0) ∷ []) ≡ Some 0x3f
some_word = refl

-- 8 is out of range
pub too_large : word (piece.Word (codes "ldi") ∷ piece.Number (pos 8) ∷ []) ≡ None
too_large = refl

pub other_word : word (piece.Word (codes "ldx") ∷ piece.Number (pos 1) ∷ []) ≡ None
other_word = refl

pub one_more : word (piece.Word (codes "ldi") ∷ piece.Number (pos 1) ∷ piece.Mark 44 ∷ []) ≡ None
one_more = refl

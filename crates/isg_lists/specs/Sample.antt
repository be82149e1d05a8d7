-- Worked examples of the definitions, each by computation.
use Rattle.std.specs.Prelude.{ℕ, ◌≡◌, refl, pos, List, [], ◌∷◌}
use Rattle.nml_shape.specs.declared.shape.Piece.{Piece}
use Rattle.nml_shape.specs.declared.shape.Piece.TheVariants as piece
use Rattle.nml_shape.specs.declared.shape.Shape.{Shape}
use Rattle.isg_lists.specs.Numbers.{numbers_where}
use Rattle.isg_lists.specs.Masks.{masks, has_mask, value_at}
use Rattle.isg_lists.specs.Lines.{begins}

-- shapes with the masks 0x300, 0x3fc, 0x300 and 0x3ff and the values 0, 0x100, 0x200 and 0x300, whatever else they have
abbrev with_bits : Shape → ℕ → ℕ → Shape
with_bits s mask value = record s { mask = mask; value = value }

abbrev shapes : Shape → List Shape
shapes s = with_bits s 768 0 ∷ with_bits s 1020 256 ∷ with_bits s 768 512 ∷ with_bits s 1023 768 ∷ []

-- their masks
seen : (s : Shape) → masks (shapes s) ≡ 768 ∷ 1020 ∷ 1023 ∷ []
seen s = refl

-- the numbers of those with the first mask, which stand in rising order of their values
of_first : (s : Shape) → numbers_where (has_mask 768) (shapes s) ≡ 0 ∷ 2 ∷ []
of_first s = refl

first_value : (s : Shape) → value_at (shapes s) 0 ≡ 0
first_value s = refl

second_value : (s : Shape) → value_at (shapes s) 2 ≡ 512
second_value s = refl

-- the templates `add %0`, `%0 ,`, `3 ,`, `add 1` and `add , 1`
abbrev add : List ℕ
add = 97 ∷ 100 ∷ 100 ∷ []

abbrev templates : List (List Piece)
templates =
    (piece.Word add ∷ piece.Field 0 ∷ [])
    ∷ (piece.Field 0 ∷ piece.Mark 44 ∷ [])
    ∷ (piece.Number (pos 3) ∷ piece.Mark 44 ∷ [])
    ∷ (piece.Word add ∷ piece.Number (pos 1) ∷ [])
    ∷ (piece.Word add ∷ piece.Mark 44 ∷ piece.Number (pos 1) ∷ [])
    ∷ []

-- lines of two tokens that begin with `add`
of_word : numbers_where (begins (piece.Word add) 2) templates ≡ 0 ∷ 3 ∷ []
of_word = refl

-- and with a number
of_number : numbers_where (begins (piece.Number (pos 7)) 2) templates ≡ 1 ∷ 2 ∷ []
of_number = refl

-- and with a comma
of_mark : numbers_where (begins (piece.Mark 44) 2) templates ≡ []
of_mark = refl

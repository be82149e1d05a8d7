-- For private contracts: the places of fields in an image.
use Rattle.std.specs.Prelude.{ℕ, ◌+◌, not, Bool, List, [], ◌∷◌, reverse}
use Rattle.std.specs.List.{prefix_len}
use Rattle.nk_base.specs.declared.number.Ty.{Ty}
use Rattle.nml_shape.specs.declared.shape.FieldAt.{FieldAt}
use Rattle.nml_tree.specs.Outline.{is_free}
use Rattle.shape_list.specs.declared.text.Glyph.{Glyph}
use Rattle.shape_list.specs.Drawn.{bit_of}

-- the bit isn't one of the field
abbrev pub is_other : ℕ → Glyph → Bool
is_other n g = not (is_free n (bit_of g))

-- the place of the lowest bit of a field
abbrev pub low_in : ℕ → List Glyph → ℕ
low_in n image = prefix_len (is_other n) (reverse image)

-- fields of these types, numbered from n on
abbrev pub fields_at : List Glyph → ℕ → List Ty → List FieldAt
fields_at image n [] = []
fields_at image n (t ∷ ts) = record { ty = t; low = low_in n image } ∷ fields_at image (n + 1) ts

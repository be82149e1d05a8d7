-- Of the first sample machine: the names of its storages, and the text of an instruction from the syntax of its shape.
use Rattle.std.specs.Prelude.{◌≡◌, refl, pos, negsuc, List, [], ◌∷◌, ◌++◌, map, codes}
use Rattle.std.specs.Fmt.{digits}
use Rattle.nml_tree.specs.Edge.{flat}
use Rattle.nml_tree.specs.SampleMachines.{m1, ldi_of}
use Rattle.nml_tree.specs.Syntax.{syntax_of}
use Rattle.shape_list.specs.Drawn.{flat_of}
use Rattle.shape_list.specs.declared.text.Glyph.{Glyph}
use Rattle.shape_list.specs.declared.text.Glyph.TheVariants as glyph
use Rattle.disasm_tool.specs.Names.{storage_names}
use Rattle.disasm_tool.specs.Syntaxes.{with_fields}

pub names : storage_names m1 ≡ codes "PC" ∷ codes "A" ∷ []
names = refl

-- `ldi`, a blank and a field
abbrev pub ldi_syntax : List Glyph
ldi_syntax = map glyph.Letter (codes "ldi ") ++ glyph.Field 0 ∷ []

pub of_ldi : map flat_of ldi_syntax ≡ flat 0 (ldi_of (pos 5))
of_ldi = refl

pub ldi_text : with_fields (pos 5 ∷ []) ldi_syntax ≡ syntax_of (ldi_of (pos 5))
unfolding digits
ldi_text = refl

-- a seam is nothing, and a field may be below 0
pub seams : with_fields (negsuc 4 ∷ pos 12 ∷ []) (glyph.Letter 97 ∷ glyph.Seam ∷ glyph.Field 1 ∷ glyph.Seam ∷ glyph.Letter 44 ∷ glyph.Field 0 ∷ []) ≡ codes "a12,-5"
unfolding digits
seams = refl

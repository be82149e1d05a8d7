-- For private contracts: what a derivation in outline is, as the code draws it.
use Rattle.std.specs.Prelude.{ℕ, ◌≡◌, false, List, [], ◌∷◌, ◌++◌, map}
use Rattle.nk_base.specs.declared.number.Ty.{Ty}
use Rattle.nml_tree.specs.declared.attributes.Arg.{Arg}
use Rattle.nml_tree.specs.Edge as edge
use Rattle.nml_tree.specs.Edge.{Flat}
use Rattle.nml_tree.specs.Image.{bit}
use Rattle.nml_tree.specs.Outline.{OutlineBit, Fixed, Free}
use Rattle.nml_tree.specs.Table.{Text}
use Rattle.nml_tree.specs.Template.{given}
use Rattle.shape_list.specs.declared.text.Glyph.{Glyph}
use Rattle.shape_list.specs.declared.text.Glyph.TheVariants as glyph
use Rattle.shape_list.specs.declared.text.Given.{Given}
use Rattle.shape_list.specs.declared.sketch.Sketch.{Sketch}
use Rattle.shape_list.specs.declared.sketch.Filling.{Filling}

-- a bit of an image; an image has no seam
abbrev pub bit_of : Glyph → OutlineBit
bit_of (glyph.Letter c) = Fixed (bit c)
bit_of (glyph.Field n) = Free n
bit_of glyph.Seam = Fixed false

-- what stands in a syntax
abbrev pub flat_of : Glyph → Flat
flat_of (glyph.Letter c) = edge.Letter c
flat_of (glyph.Field n) = edge.Number n
flat_of glyph.Seam = edge.Seam

-- what parameters give, by their names
abbrev pub named : List Given → List (Text × List Glyph)
named gs = map (λ g. (g.name.now, g.text.items)) gs

-- as bits
abbrev pub bits_named : List Given → List (Text × List OutlineBit)
bits_named gs = map (λ g. (g.name.now, map bit_of g.text.items)) gs

-- as what stands in a syntax
abbrev pub flats_named : List Given → List (Text × List Flat)
flats_named gs = map (λ g. (g.name.now, map flat_of g.text.items)) gs

-- what each argument of `format` gives
abbrev pub args_given : List (Text × List Glyph) → List (ℕ × Arg) → List (List Glyph)
args_given params list = map (λ (comma, a). given params a.name.text) list

-- these are the types of the fields, the image and the syntax
pub record Draws (s : Sketch) (ts : List Ty) (bs : List OutlineBit) (fs : List Flat) : Type 0 where
  pub types_are : s.types.items ≡ ts
  pub image_is : map bit_of s.image.items ≡ bs
  pub syntax_is : map flat_of s.syntax.items ≡ fs

-- these are the types of the fields, and what the parameters give
pub record Filled (f : Filling) (ts : List Ty) (bs : List (Text × List OutlineBit)) (fs : List (Text × List Flat)) : Type 0 where
  pub types_are : f.types.items ≡ ts
  pub images_are : bits_named f.images.items ≡ bs
  pub syntaxes_are : flats_named f.syntaxes.items ≡ fs

-- a parameter of this name that gives this came behind the others
pub record Added (old new : Filling) (ts : List Ty) (name : Text) (bs : List OutlineBit) (fs : List Flat) : Type 0 where
  pub types_are : new.types.items ≡ old.types.items ++ ts
  pub images_are : bits_named new.images.items ≡ bits_named old.images.items ++ (name, bs) ∷ []
  pub syntaxes_are : flats_named new.syntaxes.items ≡ flats_named old.syntaxes.items ++ (name, fs) ∷ []

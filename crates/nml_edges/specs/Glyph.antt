-- The text of a derivation by what its characters may touch, and what stands last in it.
use Rattle.std.specs.Prelude.{ℕ, ◌==◌, ◌||◌, Bool, true, false, List, [], ◌∷◌, ◌++◌, if◌then◌else◌}
use Rattle.std.specs.Char.{is_ascii_digit}
use Rattle.nk_base.specs.Byte.{is_blank}
use Rattle.nml_tree.specs.Table.{Text}
use Rattle.nml_tree.specs.Derivation.{Derivation, Arguments, Pick, Compose, NoMore, Part, Field}
use Rattle.nml_tree.specs.Template.{text_of}
use Rattle.nml_edges.specs.declared.glyph.Glyph.{Glyph}
use Rattle.nml_edges.specs.declared.glyph.Glyph.TheVariants as glyph
use Rattle.nml_edges.specs.declared.glyph.Last.{Last}
use Rattle.nml_edges.specs.declared.glyph.Last.TheVariants as last

-- the kind of a character; `-` is 45
abbrev pub glyph_of : ℕ → Glyph
glyph_of c = if is_ascii_digit c then glyph.Digit else if c == 45 then glyph.Minus else if is_blank c then glyph.Blank else glyph.Other

abbrev mutual
  -- the flattened syntax of a derivation, each character by its kind
  pub glyphs : Derivation → List Glyph
  glyphs (Pick k d) = glyphs d
  glyphs (Compose rule args) = text_of glyph_of (arg_glyphs args) rule.syntax

  -- what each parameter gives
  pub arg_glyphs : Arguments → List (Text × List Glyph)
  arg_glyphs NoMore = []
  arg_glyphs (Part name d args) = (name, glyph.Seam ∷ (glyphs d ++ glyph.Seam ∷ [])) ∷ arg_glyphs args
  arg_glyphs (Field name ty z args) = (name, glyph.Number ∷ []) ∷ arg_glyphs args

-- behind a blank: where there were nothing but blanks there is still nothing
abbrev pub behind_blank : Last → Last
behind_blank last.Nothing = last.Nothing
behind_blank last.Plain = last.Plain
behind_blank last.Number = last.Plain
behind_blank last.Digit = last.Plain
behind_blank last.DigitSeam = last.Plain
behind_blank last.Minus = last.Plain
behind_blank last.MinusSeam = last.Plain

-- where a string begins or ends, a digit or `-` is of another string than the next character
abbrev pub behind_seam : Last → Last
behind_seam last.Nothing = last.Nothing
behind_seam last.Plain = last.Plain
behind_seam last.Number = last.Number
behind_seam last.Digit = last.DigitSeam
behind_seam last.DigitSeam = last.DigitSeam
behind_seam last.Minus = last.MinusSeam
behind_seam last.MinusSeam = last.MinusSeam

-- what stands last behind one glyph more
abbrev pub last_behind : Last → Glyph → Last
last_behind l glyph.Digit = last.Digit
last_behind l glyph.Minus = last.Minus
last_behind l glyph.Blank = behind_blank l
last_behind l glyph.Other = last.Plain
last_behind l glyph.Number = last.Number
last_behind l glyph.Seam = behind_seam l

-- a digit touches a number, and a digit or `-` of another string
abbrev pub digit_touches : Last → Bool
digit_touches last.Nothing = false
digit_touches last.Plain = false
digit_touches last.Number = true
digit_touches last.Digit = false
digit_touches last.DigitSeam = true
digit_touches last.Minus = false
digit_touches last.MinusSeam = true

-- a `-` touches a number, and a digit of another string
abbrev pub minus_touches : Last → Bool
minus_touches last.Nothing = false
minus_touches last.Plain = false
minus_touches last.Number = true
minus_touches last.Digit = false
minus_touches last.DigitSeam = true
minus_touches last.Minus = false
minus_touches last.MinusSeam = false

-- a number touches a number, a digit and a `-`
abbrev pub number_touches : Last → Bool
number_touches last.Nothing = false
number_touches last.Plain = false
number_touches last.Number = true
number_touches last.Digit = true
number_touches last.DigitSeam = true
number_touches last.Minus = true
number_touches last.MinusSeam = true

-- the glyph touches what stands last
abbrev pub touches : Last → Glyph → Bool
touches l glyph.Digit = digit_touches l
touches l glyph.Minus = minus_touches l
touches l glyph.Blank = false
touches l glyph.Other = false
touches l glyph.Number = number_touches l
touches l glyph.Seam = false

-- what stands last behind a text
abbrev pub end : Last → List Glyph → Last
end l [] = l
end l (g ∷ gs) = end (last_behind l g) gs

-- something touches in a text, or it touches what stands before it
abbrev pub touching : Last → List Glyph → Bool
touching l [] = false
touching l (g ∷ gs) = touches l g || touching (last_behind l g) gs

-- The shapes of a description by the first token and the number of tokens of their lines.
use Rattle.std.specs.Prelude.{ℕ, ◌≡◌, ◌==◌, ◌&&◌, Bool, true, false, List, [], ◌∷◌, length, Option, None, Some, option_map, slice_get}
use Rattle.std.specs.List.{list_any, position}
use Rattle.std.specs.Global.{Vec}
use Rattle.indexmap.specs.IndexMap.{IndexMap}
use Rattle.nml_tree.specs.Table.{Text}
use Rattle.nk_base.specs.Text.{text_eq}
use Rattle.nml_shape.specs.declared.shape.Piece.{Piece}
use Rattle.nml_shape.specs.declared.shape.Piece.TheVariants as piece
use Rattle.nml_shape.specs.declared.shape.Shape.{Shape}
use Rattle.isg_lists.specs.Numbers.{numbers_where, list_at}
use Rattle.isg_lists.specs.declared.lines.First.{First}
use Rattle.isg_lists.specs.declared.lines.First.TheVariants as first
use Rattle.isg_lists.specs.declared.lines.Line.{Line}
use Rattle.isg_lists.specs.declared.lines.Lines.{Lines}

-- the token is a number or a field
abbrev pub is_numeric : Piece → Bool
is_numeric (piece.Word w) = false
is_numeric (piece.Number z) = true
is_numeric (piece.Mark c) = false
is_numeric (piece.Field n) = true

-- one word, one mark, or each a number or a field
abbrev pub are_alike : Piece → Piece → Bool
are_alike (piece.Word w) (piece.Word v) = text_eq w v
are_alike (piece.Mark c) (piece.Mark d) = c == d
are_alike p q = is_numeric p && is_numeric q

-- of so many tokens, the first is like this one
abbrev pub begins : Piece → ℕ → List Piece → Bool
begins first count [] = false
begins first count (p ∷ ps) = are_alike first p && (count == length (p ∷ ps))

-- the shape's line has so many tokens, and the first is like this one
abbrev pub has_line : Piece → ℕ → Shape → Bool
has_line first count s = begins first count s.template.items

-- in rising order the numbers of exactly the shapes whose lines have so many tokens, the first like this one
abbrev pub of_line : List Shape → Piece → ℕ → List ℕ
of_line shapes first count = numbers_where (has_line first count) shapes

-- ---- what is kept

-- one first token
abbrev pub same_first : First → First → Bool
same_first (first.Word a) (first.Word b) = a == b
same_first first.Number first.Number = true
same_first (first.Mark c) (first.Mark d) = c == d
same_first _ _ = false

-- one line
abbrev pub same_line : Line → Line → Bool
same_line a b = same_first a.first b.first && (a.count == b.count)

-- the first token, a word being known by its place among these
abbrev pub first_of : List Text → Piece → Option First
first_of words (piece.Word w) = option_map first.Word (position (text_eq w) words)
first_of words (piece.Number z) = Some first.Number
first_of words (piece.Mark c) = Some (first.Mark c)
first_of words (piece.Field n) = Some first.Number

-- a line of so many tokens that begins so
abbrev pub line_with : List Text → Piece → ℕ → Option Line
line_with words p count = option_map (λ f. record { first = f; count = count }) (first_of words p)

-- the line of a template
abbrev pub line_of : List Text → List Piece → Option Line
line_of words [] = None
line_of words (p ∷ ps) = line_with words p (length (p ∷ ps))

-- whether this is the line
abbrev pub is_line : Line → Option Line → Bool
is_line line None = false
is_line line (Some l) = same_line line l

-- the shape has the line
abbrev pub is_on : List Text → Line → Shape → Bool
is_on words line s = is_line line (line_of words s.template.items)

-- the numbers that are kept for a line; none where there is no such line
abbrev pub at_line : {S : Type 0} → IndexMap Line (Vec ℕ) S → Option Line → List ℕ
at_line lists None = []
at_line lists (Some line) = list_at same_line lists line

abbrev pub kept_for : Lines → Piece → ℕ → List ℕ
kept_for l first count = at_line l.lists (line_with l.words.keys first count)

-- for each first token and number of tokens the numbers of the shapes with such lines are kept
abbrev pub AreLines : List Shape → Lines → Type 0
AreLines shapes l = (first : Piece) (count : ℕ) → kept_for l first count ≡ of_line shapes first count

-- the first token, where it is a word, is among these
abbrev pub IsBegun : List Text → List Piece → Type 0
IsBegun words (piece.Word w ∷ ps) = list_any (text_eq w) words ≡ true
IsBegun words _ = Unit {0}

-- so is that of each shape
abbrev pub AreBegun : List Text → List Shape → Type 0
AreBegun words shapes = (n : ℕ) (s : Shape) → slice_get shapes n ≡ Some s → IsBegun words s.template.items

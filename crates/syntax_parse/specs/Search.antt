-- The shapes that have the tokens of a line.
use Rattle.std.specs.Prelude.{ℕ, ◌≡◌, ◌<◌, List, length, Some, slice_get}
use Rattle.nml_shape.specs.declared.shape.Inst.{Inst}
use Rattle.nml_shape.specs.declared.shape.Piece.{Piece}
use Rattle.nml_shape.specs.declared.shape.Shape.{Shape}
use Rattle.nml_shape.specs.Common.{IsSingle}
use Rattle.syntax_match.specs.Match.{IsFull, HasNoMatch, IsMatch}

-- each field of a shape stands in its tokens once at most, and for all numbers in range of its fields it has a word
abbrev pub AreComparable : List Shape → Type 0
AreComparable shapes = (n : ℕ) (s : Shape) → slice_get shapes n ≡ Some s → IsSingle s × IsFull s

-- each of the numbers is that of a shape
abbrev pub AreNumbers : List Shape → List ℕ → Type 0
AreNumbers shapes numbers = (k n : ℕ) → slice_get numbers k ≡ Some n → n < length shapes

-- the shape of this number doesn't have the tokens
abbrev pub HasNoneAt : List Shape → List Piece → ℕ → Type 0
HasNoneAt shapes tokens n = (s : Shape) → slice_get shapes n ≡ Some s → HasNoMatch s tokens

-- no shape of these numbers has them
abbrev pub HasNoneOf : List Shape → List ℕ → List Piece → Type 0
HasNoneOf shapes numbers tokens = (k n : ℕ) → slice_get numbers k ≡ Some n → HasNoneAt shapes tokens n

-- no shape has them
abbrev pub HasNone : List Shape → List Piece → Type 0
HasNone shapes tokens = (n : ℕ) → HasNoneAt shapes tokens n

-- the shape of this number has them in this word, which is the least with their numbers
pub record HasMatch (shapes : List Shape) (tokens : List Piece) (i : Inst) : Type 0 where
  pub shape : Shape
  pub stands : slice_get shapes i.shape ≡ Some shape
  pub is : IsMatch shape tokens i.word

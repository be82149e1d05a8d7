-- The numbers with which a shape has these tokens, and its word with these numbers.
use Rattle.std.specs.Prelude.{ℕ, ◌≡◌, ◌<◌, ◌≤◌, ◌^◌, ℤ, List, Some, map, slice_get}
use Rattle.nk_base.specs.Number.{IsTy}
use Rattle.nml_tree.specs.Outline.{Written}
use Rattle.nml_shape.specs.declared.shape.FieldAt.{FieldAt}
use Rattle.nml_shape.specs.declared.shape.Piece.{Piece}
use Rattle.nml_shape.specs.declared.shape.Shape.{Shape}
use Rattle.nml_shape.specs.Common.{HasWord, FitFields, filled}
use Rattle.nml_shape.specs.Shown.{token_of, numbers_in}

-- numbers in range for the fields, with which the shape has these tokens
pub record HasTokens (s : Shape) (tokens : List Piece) (zs : List ℤ) : Type 0 where
  pub fit : FitFields s zs
  pub same : map Written (filled s zs) ≡ map token_of tokens

-- there are none
abbrev pub HasNoMatch : Shape → List Piece → Type 0
HasNoMatch s tokens = (zs : List ℤ) → HasTokens s tokens zs → ⊥

-- the word has the shape's fixed bits, and these numbers in its fields
pub record HasNumbers (s : Shape) (zs : List ℤ) (w : ℕ) : Type 0 where
  pub fixed : HasWord s w
  pub numbers : numbers_in w s.fields.items ≡ zs

-- with the numbers in its fields the shape has these tokens, and it is the least word with them
pub record IsMatch (s : Shape) (tokens : List Piece) (w : ℕ) : Type 0 where
  pub numbers : List ℤ
  pub tokens_are : HasTokens s tokens numbers
  pub word : HasNumbers s numbers w
  pub least : (v : ℕ) → HasNumbers s numbers v → w ≤ v

-- each of these fields is of a type of 1 to 64 bits
pub record AreTyped (fs : List FieldAt) : Type 0 where
  pub each : (n : ℕ) (f : FieldAt) → slice_get fs n ≡ Some f → IsTy f.ty

-- the fields are of such types, and for all numbers in range of them there is a word of at most 128 bits
pub record IsFull (s : Shape) : Type 0 where
  pub types : AreTyped s.fields.items
  pub words : (zs : List ℤ) → FitFields s zs → (w : ℕ) × HasNumbers s zs w × (w < 2 ^ 128)

-- The first two shapes that have something in common: the least first number, and then the least second one.
use Rattle.std.specs.Prelude.{ℕ, ◌≡◌, ◌≤◌, ◌<◌, ℤ, List, Some, ◌⊎◌, slice_get}
use Rattle.nml_shape.specs.declared.shape.Shape.{Shape}
use Rattle.nml_shape.specs.Common.{HasWord, AreSame}

-- two shapes have a word in common
abbrev pub HaveWord : Shape → Shape → Type 0
HaveWord a b = (w : ℕ) × HasWord a w × HasWord b w

-- two shapes have a list of tokens in common
abbrev pub HaveTokens : Shape → Shape → Type 0
HaveTokens a b = (zs : List ℤ) × (ys : List ℤ) × AreSame a b zs ys

-- the shapes of these two numbers, the first below the second, have it in common
pub record IsPair (P : Shape → Shape → Type 0) (shapes : List Shape) (k l : ℕ) : Type 0 where
  pub rises : k < l
  pub a : Shape
  pub b : Shape
  pub first : slice_get shapes k ≡ Some a
  pub second : slice_get shapes l ≡ Some b
  pub have : P a b

-- of all such pairs the one with the least first number, and of these with the least second one
pub record IsFirstPair (P : Shape → Shape → Type 0) (shapes : List Shape) (i j : ℕ) : Type 0 where
  pub pair : IsPair P shapes i j
  pub first : (k l : ℕ) → IsPair P shapes k l → (i < k) ⊎ ((i ≡ k) × (j ≤ l))

-- no two of the shapes have it in common
abbrev pub HasNoPair : (P : Shape → Shape → Type 0) → List Shape → Type 0
HasNoPair P shapes = (k l : ℕ) → IsPair P shapes k l → ⊥

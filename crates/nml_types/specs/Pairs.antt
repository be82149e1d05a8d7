-- Shapes that are looked at for what two of them have in common, and the faults that the first two make. For private contracts.
use Rattle.std.specs.Prelude.{ℕ, ◌≡◌, ◌≤◌, ℤ, List, length, Some, Contains}
use Rattle.nml_tree.specs.declared.tree.Desc.{Desc}
use Rattle.nml_tree.specs.declared.fault.DescFault.{DescFault}
use Rattle.nml_tree.specs.declared.fault.DescFault.TheVariants as fault
use Rattle.nml_tree.specs.Table.{table}
use Rattle.nml_tree.specs.Derivation.{Derivation, picks, fields}
use Rattle.nml_tree.specs.Image.{word_of}
use Rattle.nml_tree.specs.Refused.{IsFreeBelow, IsRefused}
use Rattle.nml_tree.specs.Same.{IsFirstImage, IsFirstSyntax, tokens}
use Rattle.nml_tree.specs.Valid.{IsRoot}
use Rattle.nml_shape.specs.declared.shape.Shape.{Shape}
use Rattle.nml_shape.specs.Shown.{AreAllShapes, numbers_in}
use Rattle.nml_shape.specs.Common.{IsLeastWord, AreLeastSame, IsSingle, filled}
use Rattle.shape_table.specs.Meet.{HasTypes}

-- these are all shapes of a typed description, and not too many or too large
pub record AreListed (d : Desc) (shapes : List Shape) : Type 0 where
  pub free : IsFreeBelow 13 d
  pub are : AreAllShapes d shapes

-- two instructions of these shapes, with this word, are the first with one image
pub record AreAlikeBy (d : Desc) (a b : Shape) (w : ℕ) : Type 0 where
  pub x : Derivation
  pub y : Derivation
  pub first : IsFirstImage (table d) x y
  pub x_picks : picks x ≡ a.picks.items
  pub y_picks : picks y ≡ b.picks.items
  pub x_fields : fields x ≡ numbers_in w a.fields.items
  pub y_fields : fields y ≡ numbers_in w b.fields.items

-- the first two shapes with a word in common
pub record AreFirstImages (d : Desc) (a b : Shape) : Type 0 where
  pub a_types : HasTypes a
  pub b_types : HasTypes b
  pub tell : (w : ℕ) → IsLeastWord a b (Some w) → AreAlikeBy d a b w

-- a fault of two instructions with one image, where no lower one holds
abbrev pub IsAlike : Desc → DescFault → Type 0
IsAlike d f = IsFreeBelow 13 d → IsRefused d f

-- two instructions of these shapes, with these numbers, are the first with one list of tokens
pub record AreSaidBy (d : Desc) (a b : Shape) (zs ys : List ℤ) : Type 0 where
  pub x : Derivation
  pub y : Derivation
  pub first : IsFirstSyntax (table d) x y
  pub x_picks : picks x ≡ a.picks.items
  pub y_picks : picks y ≡ b.picks.items
  pub x_fields : fields x ≡ zs
  pub y_fields : fields y ≡ ys
  pub tokens_are : tokens x ≡ filled a zs

-- the first two shapes with a list of tokens in common
pub record AreFirstTokens (d : Desc) (a b : Shape) : Type 0 where
  pub a_types : HasTypes a
  pub b_types : HasTypes b
  pub a_single : IsSingle a
  pub b_single : IsSingle b
  pub tell : (zs ys : List ℤ) → AreLeastSame a b zs ys → AreSaidBy d a b zs ys

-- a fault of two instructions with one list of tokens, where no lower one holds
abbrev pub IsSaid : Desc → DescFault → Type 0
IsSaid d f = IsFreeBelow 14 d → IsRefused d f

-- What two shapes have in common: words, and lists of tokens with numbers in their fields.
use Rattle.std.specs.Prelude.{ℕ, ◌≡◌, ◌≤◌, ◌<◌, ◌≤ℤ◌, ℤ, List, length, map, Option, Some, None, Contains, slice_get}
use Rattle.nml_tree.specs.LineToken.{LineToken}
use Rattle.nml_tree.specs.Same.{tokens_text}
use Rattle.nml_tree.specs.Table.{Text}
use Rattle.nml_tree.specs.Value.{number_at}
use Rattle.nml_tree.specs.Outline as outline
use Rattle.nml_tree.specs.Outline.{OutlineToken, HasFixed, AreInRange, with_numbers}
use Rattle.nml_shape.specs.declared.shape.Shape.{Shape}
use Rattle.nml_shape.specs.Shown.{token_of, types_of}

-- the word has the shape's fixed bits
abbrev pub HasWord : Shape → ℕ → Type 0
HasWord s w = HasFixed s.mask s.value w

-- the least word that has the fixed bits of both, or that there is none
abbrev pub IsLeastWord : Shape → Shape → Option ℕ → Type 0
IsLeastWord a b None = (w : ℕ) → HasWord a w → HasWord b w → ⊥
IsLeastWord a b (Some w) = HasWord a w × HasWord b w × ((v : ℕ) → HasWord a v → HasWord b v → w ≤ v)

-- the tokens of a shape with these numbers in its fields
abbrev pub filled : Shape → List ℤ → List LineToken
filled s zs = map (with_numbers zs) (map token_of s.template.items)

-- a number in range for each field of the shape
abbrev pub FitFields : Shape → List ℤ → Type 0
FitFields s zs = AreInRange (types_of s.fields.items) zs

-- with these numbers in their fields two shapes have one list of tokens
pub record AreSame (a b : Shape) (zs ys : List ℤ) : Type 0 where
  pub first : FitFields a zs
  pub second : FitFields b ys
  pub same : filled a zs ≡ filled b ys

-- the numbers of the one are at most those of the other, field by field
abbrev pub AreAtMost : List ℤ → List ℤ → Type 0
AreAtMost zs ys = (k : ℕ) → number_at zs k ≤ℤ number_at ys k

-- and of all such numbers these are the least in each field
pub record AreLeastSame (a b : Shape) (zs ys : List ℤ) : Type 0 where
  pub are : AreSame a b zs ys
  pub least : (us vs : List ℤ) → AreSame a b us vs → AreAtMost zs us × AreAtMost ys vs

-- no numbers give both one list of tokens
abbrev pub HaveNoTokens : Shape → Shape → Type 0
HaveNoTokens a b = (zs ys : List ℤ) → AreSame a b zs ys → ⊥

-- the tokens that both have, with the least number in each field, or that there are none
abbrev pub IsLeastText : Shape → Shape → Option Text → Type 0
IsLeastText a b None = HaveNoTokens a b
IsLeastText a b (Some text) = (zs : List ℤ) × (ys : List ℤ) × AreLeastSame a b zs ys × (text ≡ tokens_text (filled a zs))

-- each field of the shape stands in its tokens at one place at most, and each that stands there is a field of it, of a type
pub record IsSingle (s : Shape) : Type 0 where
  pub once : (n i j : ℕ) → slice_get (map token_of s.template.items) i ≡ Some (outline.FieldAt n) → slice_get (map token_of s.template.items) j ≡ Some (outline.FieldAt n) → i ≡ j
  pub known : (n : ℕ) → Contains (map token_of s.template.items) (outline.FieldAt n) → n < length s.fields.items

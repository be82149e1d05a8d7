-- Two instructions with one image, or with one list of tokens; which two are named.
use Rattle.std.specs.Prelude.{ℕ, ◌≡◌, ◌≢◌, ◌≤◌, ◌≤ℤ◌, List, [], ◌∷◌, map, IsTrue, ◌⊎◌}
use Rattle.std.specs.Fmt.{signed_decimal}
use Rattle.nml_tree.specs.Joined.{spaced}
use Rattle.nml_tree.specs.LineToken.{LineToken, Word, Number, Mark, line_tokens}
use Rattle.nml_tree.specs.Table.{Text, Table}
use Rattle.nml_tree.specs.Derivation.{Derivation, picks, fields}
use Rattle.nml_tree.specs.Image.{image, word_of}
use Rattle.nml_tree.specs.Syntax.{syntax_of}
use Rattle.nml_tree.specs.Value.{number_at}
use Rattle.nml_tree.specs.Valid.{IsRoot}
use Rattle.nml_tree.specs.Shapes.{comes_before}

-- the tokens of the text of a derivation
abbrev pub tokens : Derivation → List LineToken
tokens d = line_tokens (syntax_of d)

-- two derivations that differ and have one attribute, the shape of the first before that of the second
pub record AreAlike (t : Table) {A : Type 0} (attribute : Derivation → A) (a b : Derivation) : Type 0 where
  pub first : IsRoot t a
  pub second : IsRoot t b
  pub differ : a ≢ b
  pub same : attribute a ≡ attribute b

-- N13, N14
abbrev pub SameImage : Table → Derivation → Derivation → Type 0
SameImage t a b = AreAlike t image a b

-- two with one list of tokens
abbrev pub SameSyntax : Table → Derivation → Derivation → Type 0
SameSyntax t a b = AreAlike t tokens a b

-- the shapes of a and b are no later than those of c and e: by the first shape, then by the second
abbrev pub AreNoLater : (a b c e : Derivation) → Type 0
AreNoLater a b c e =
    IsTrue (comes_before (picks a) (picks c))
    ⊎ ((picks a ≡ picks c) × (IsTrue (comes_before (picks b) (picks e)) ⊎ (picks b ≡ picks e)))

-- of all pairs in the order of their shapes this one's shapes are the first
pub record HasFirstShapes (P : Derivation → Derivation → Type 0) (a b : Derivation) : Type 0 where
  pub holds : P a b
  pub order : IsTrue (comes_before (picks a) (picks b))
  pub first : (c e : Derivation) → P c e → IsTrue (comes_before (picks c) (picks e)) → AreNoLater a b c e

-- the first two shapes, and of their common images the least
pub record IsFirstImage (t : Table) (a b : Derivation) : Type 0 where
  pub shapes : HasFirstShapes (SameImage t) a b
  pub least : (c e : Derivation) → SameImage t c e → picks c ≡ picks a → picks e ≡ picks b → word_of a ≤ word_of c

-- the numbers in the fields of the one are at most those of the other, field by field
abbrev pub AreAtMost : Derivation → Derivation → Type 0
AreAtMost a c = (k : ℕ) → number_at (fields a) k ≤ℤ number_at (fields c) k

-- the first two shapes, and of their common tokens those with the least number in each field
pub record IsFirstSyntax (t : Table) (a b : Derivation) : Type 0 where
  pub shapes : HasFirstShapes (SameSyntax t) a b
  pub least : (c e : Derivation) → SameSyntax t c e → picks c ≡ picks a → picks e ≡ picks b → AreAtMost a c × AreAtMost b e

-- a token as it is printed
abbrev pub token_text : LineToken → Text
token_text (Word w) = w
token_text (Number z) = signed_decimal z
token_text (Mark c) = c ∷ []

-- the tokens with one blank between two
abbrev pub tokens_text : List LineToken → Text
tokens_text ts = spaced (map token_text ts)

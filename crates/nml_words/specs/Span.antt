-- The widths that the images of a rule's derivations may have.
use Rattle.std.specs.Prelude.{ℕ, ◌≡◌, ◌+◌, ◌≤◌, min, max, List, [], ◌∷◌, map, length, unwrap_or}
use Rattle.std.specs.Map.{lookup}
use Rattle.nk_base.specs.Text.{text_eq}
use Rattle.nml_tree.specs.declared.tree.Par.{Par}
use Rattle.nml_tree.specs.declared.attributes.Arg.{Arg}
use Rattle.nml_tree.specs.declared.attributes.Template.{Template}
use Rattle.nml_tree.specs.declared.attributes.Template.TheVariants as template
use Rattle.nml_tree.specs.Attribute.{FormatPiece, pieces}
use Rattle.nml_tree.specs.Table.{Text, Table}
use Rattle.nml_tree.specs.Derivation.{Derivation, IsDerivation}
use Rattle.nml_tree.specs.Image.{image}
use Rattle.nml_tree.specs.ImageWidth.{pieces_width}
use Rattle.nml_words.specs.declared.span.Span.{Span}

-- the least width and the greatest
abbrev pub span : (least most : ℕ) → Span
span least most = record { least = least; most = most }

-- those of two images, one behind the other
abbrev pub plus : Span → Span → Span
plus a b = span (a.least + b.least) (a.most + b.most)

-- those of the one or the other
abbrev pub joined : Span → Span → Span
joined a b = span (min a.least b.least) (max a.most b.most)

-- of the derivations of which Q holds some have the least width, some the greatest, and all are between
pub record Spans (Q : Derivation → Type 0) (s : Span) : Type 0 where
  pub lowest : (x : Derivation) × Q x × (length (image x) ≡ s.least)
  pub highest : (x : Derivation) × Q x × (length (image x) ≡ s.most)
  pub between : (x : Derivation) → Q x → (s.least ≤ length (image x)) × (length (image x) ≤ s.most)

-- the widths of a rule's images
abbrev pub IsSpan : Table → Text → Span → Type 0
IsSpan t name s = Spans (IsDerivation t name) s

-- each parameter's by its name
abbrev pub par_spans : (Par → Span) → List Par → List (Text × Span)
par_spans given pars = map (λ p. (p.name.text, given p)) pars

-- what a parameter has, by its name
abbrev pub span_given : List (Text × Span) → Text → Span
span_given given name = unwrap_or (lookup (text_eq name) given) (span 0 0)

-- the map has what is given
abbrev pub AreGiven : List (Text × Span) → List (Text × Span) → Type 0
AreGiven entries given = (name : Text) → lookup (text_eq name) entries ≡ lookup (text_eq name) given

-- behind these widths, those of pieces, each directive of which takes the next
abbrev pub with_pieces : Span → List FormatPiece → List Span → Span
with_pieces s ps args = span (s.least + pieces_width ps (map (λ a. a.least) args)) (s.most + pieces_width ps (map (λ a. a.most) args))

-- what the arguments of `format` have
abbrev pub args_given : (Text → Span) → List (ℕ × Arg) → List Span
args_given given args = map (λ (comma, a). given a.name.text) args

-- the widths of an and-rule's images, by those of its parameters
abbrev pub text_span : (Text → Span) → Template → Span
text_span given (template.Plain q) = span (length q.text) (length q.text)
text_span given (template.Part n dot a) = given n.text
text_span given (template.Format at p q args r) = with_pieces (span 0 0) (pieces q.text) (args_given given args)

-- those of an or-rule's images: these, or those of further alternatives
abbrev pub with_alternatives : (Text → Span) → Span → List Text → Span
with_alternatives given s [] = s
with_alternatives given s (n ∷ ns) = with_alternatives given (joined s (given n)) ns

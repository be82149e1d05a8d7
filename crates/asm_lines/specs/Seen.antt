-- Lines as the code holds them.
use Rattle.std.specs.Prelude.{ℕ, ◌≡◌, ◌==◌, ◌+◌, ◌&&◌, nat_le, if◌then◌else◌, not, Bool, true, false, List, [], ◌∷◌, ◌++◌, map, flat_map, Option, Some, None, option_map, IfSome}
use Rattle.std.specs.Char.{is_ascii_digit}
use Rattle.std.specs.Global.{Vec}
use Rattle.std.specs.List.{list_all, slice_split}
use Rattle.nk_base.specs.Byte.{is_blank}
use Rattle.nml_tree.specs.LineToken.{LineToken}
use Rattle.nml_tree.specs.Outline as outline
use Rattle.nml_tree.specs.Outline.{with_numbers}
use Rattle.nml_tree.specs.Table.{Text}
use Rattle.nml_shape.specs.declared.shape.Piece.{Piece}
use Rattle.nml_shape.specs.Shown.{token_of}
use Rattle.asm_lines.specs.Line as text
use Rattle.asm_lines.specs.Line.{Token, is_reference, content_of, reference, parts}
use Rattle.asm_lines.specs.declared.line.Content.{Content}
use Rattle.asm_lines.specs.declared.line.Content.TheVariants as content
use Rattle.asm_lines.specs.declared.line.Data.{Data}
use Rattle.asm_lines.specs.declared.line.Line.{Line}
use Rattle.asm_lines.specs.declared.line.Reference.{Reference}
use Rattle.asm_lines.specs.declared.line.Tokens.{Tokens}

-- the tokens that pieces are
abbrev pub tokens_of : List Piece → List LineToken
tokens_of ps = map (λ p. with_numbers [] (token_of p)) ps

-- the pieces are these tokens, and no fields
abbrev pub AreTokens : List Piece → List LineToken → Type 0
AreTokens ps ts = map token_of ps ≡ map outline.Written ts

-- they are no fields
abbrev pub AreWritten : List Piece → Type 0
AreWritten ps = AreTokens ps (tokens_of ps)

abbrev pub seen_reference : Reference → List Token
seen_reference r = text.Reference r.name ∷ map text.Written (tokens_of r.behind.items)

abbrev pub seen_tokens : Tokens → List Token
seen_tokens t = map text.Written (tokens_of t.front.items) ++ flat_map seen_reference t.references.items

abbrev pub seen_data : Data → text.Content
seen_data d = text.Data d.name d.cell d.value

abbrev pub seen_content : Content → text.Content
seen_content content.Nothing = text.Nothing
seen_content (content.Instruction t) = text.Instruction (seen_tokens t)
seen_content (content.Bits word) = text.Bits word
seen_content (content.Data d) = seen_data d

abbrev pub seen : Line → text.Line
seen l = record { label = l.label; content = seen_content l.content }

-- no piece of these references is a field
abbrev pub AreWrittenBehind : List Reference → Type 0
AreWrittenBehind [] = Unit {0}
AreWrittenBehind (r ∷ rs) = AreWritten r.behind.items × AreWrittenBehind rs

-- nor one of these tokens
pub record HasWritten (t : Tokens) : Type 0 where
  pub front : AreWritten t.front.items
  pub references : AreWrittenBehind t.references.items

abbrev pub IsWritten : Content → Type 0
IsWritten (content.Instruction t) = HasWritten t
IsWritten _ = Unit {0}

-- what was read is this content
pub record IsContent (found : Option Content) (c : Option text.Content) : Type 0 where
  pub same : option_map seen_content found ≡ c
  pub written : IfSome found IsWritten

-- this line was read, or it has no form
pub record IsLine (found : Option Line) (l : Option text.Line) : Type 0 where
  pub same : option_map seen found ≡ l
  pub written : IfSome found (λ x. IsWritten x.content)

-- the label and the content make the line
pub record IsLabeled (label : Option Text) (c : Option Content) (found : Option Line) : Type 0 where
  pub same : option_map seen found ≡ text.with_label label (option_map seen_content c)
  pub written : IfSome c IsWritten → IfSome found (λ x. IsWritten x.content)

-- the tokens are the content
pub record IsContentOf (t : Tokens) (c : Content) : Type 0 where
  pub same : seen_content c ≡ content_of (seen_tokens t)
  pub written : HasWritten t → IsWritten c

-- the reference and the tokens behind it
pub record IsReference (part : Text) (r : Reference) : Type 0 where
  pub same : seen_reference r ≡ reference part
  pub written : AreWritten r.behind.items

-- the bytes that separate, and all others
abbrev pub is_at : ℕ → Bool
is_at c = c == 64

abbrev pub is_no_at : ℕ → Bool
is_no_at c = not (is_at c)

abbrev pub is_no_blank : ℕ → Bool
is_no_blank c = not (is_blank c)

abbrev pub is_no_semicolon : ℕ → Bool
is_no_semicolon c = not (c == 59)

-- the parts but the first
abbrev pub but_first : List Text → List Text
but_first [] = []
but_first (p ∷ ps) = ps

-- what stands behind each `@`
abbrev pub others : Text → List Text
others text = but_first (slice_split is_at text)

-- it is empty, or an `@` stands in front
abbrev pub BeginsPart : Text → Type 0
BeginsPart [] = Unit {0}
BeginsPart (c ∷ cs) = is_at c ≡ true

-- these are the references, or the form of one is wrong
abbrev pub AreReferences : List Text → Option (Vec Reference) → Type 0
AreReferences ps None = list_all is_reference ps ≡ false
AreReferences ps (Some v) = (list_all is_reference ps ≡ true) × (flat_map seen_reference v.items ≡ flat_map reference ps) × AreWrittenBehind v.items

-- how many digits stand in a row with this byte behind so many
abbrev pub run_with : ℕ → ℕ → ℕ
run_with run c = if is_ascii_digit c then run + 1 else 0

-- no run of digits is longer than 38, behind so many
abbrev pub are_short : ℕ → Text → Bool
are_short run [] = true
are_short run (c ∷ cs) = nat_le (run_with run c) 38 && are_short (run_with run c) cs

-- the first part of a text between blanks, and what stands behind it
pub record IsNextPart (text part rest : Text) : Type 0 where
  pub parts_are : parts text ≡ part ∷ parts rest

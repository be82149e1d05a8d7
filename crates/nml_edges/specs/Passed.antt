-- The summary of each item's texts, made of those of the rules that it names.
use Rattle.std.specs.Prelude.{ℕ, ◌≡◌, ◌<◌, List, [], ◌∷◌, map, Option, Some, None, option_map, unwrap_or, length, slice_get, slice_index_or}
use Rattle.std.specs.Map.{lookup}
use Rattle.nk_base.specs.Text.{text_eq}
use Rattle.nml_tree.specs.declared.attributes.Template.{Template}
use Rattle.nml_tree.specs.declared.attributes.Template.TheVariants as template
use Rattle.nml_tree.specs.declared.attributes.Arg.{Arg}
use Rattle.nml_tree.specs.declared.tree.Par.{Par}
use Rattle.nml_tree.specs.declared.tree.Item.{Item}
use Rattle.nml_tree.specs.declared.tree.Item.TheVariants as item
use Rattle.nml_tree.specs.declared.tree.Desc.{Desc}
use Rattle.nml_tree.specs.Attribute.{pieces}
use Rattle.nml_tree.specs.Derivation.{Derivation, IsDerivation}
use Rattle.nml_tree.specs.Table.{Text, Table, table, pars_of, parameter_of}
use Rattle.nml_tree.specs.Template.{put_in}
use Rattle.nml_known.specs.declared.known.Parameter.{Parameter}
use Rattle.nml_known.specs.declared.known.Parameter.TheVariants as parameter
use Rattle.nml_known.specs.Known.{item_number, parameter_told}
use Rattle.nml_edges.specs.declared.glyph.Glyph.{Glyph}
use Rattle.nml_edges.specs.declared.glyph.Glyph.TheVariants as glyph
use Rattle.nml_edges.specs.declared.summary.Summary.{Summary}
use Rattle.nml_edges.specs.Glyph.{glyph_of, glyphs}
use Rattle.nml_edges.specs.Summary.{none, still, one, followed, both, seamed, IsSummary}

-- a glyph of a rule's own string, or where a parameter's text stands
pub data Slot : Type 0 where
  Own : Glyph → Slot
  Hole : (name : Text) → Slot

-- a character of a string
abbrev pub own : ℕ → Slot
own c = Own (glyph_of c)

-- where the arguments of `format` stand
abbrev pub holes : List (ℕ × Arg) → List (List Slot)
holes args = map (λ (comma, a). Hole a.name.text ∷ []) args

-- the slots of a text
abbrev pub slots : Template → List Slot
slots (template.Plain q) = map own q.text
slots (template.Part n dot a) = Hole n.text ∷ []
slots (template.Format at p q args r) = put_in own (pieces q.text) (holes args)

-- the summary of a text, these being those of the parameters' texts, behind texts of that summary
abbrev pub along : (Text → Summary) → Summary → List Slot → Summary
along of m [] = m
along of m (Own g ∷ ss) = along of (followed m (one g)) ss
along of m (Hole name ∷ ss) = along of (followed m (of name)) ss

-- the summary that is listed for the name; of what isn't a parameter there is no text
abbrev pub listed : List (Text × Summary) → Text → Summary
listed sums name = unwrap_or (lookup (text_eq name) sums) still

-- the summary at the number
abbrev pub fact : List Summary → Option ℕ → Summary
fact facts None = none
fact facts (Some n) = unwrap_or (slice_get facts n) none

-- of a field, and of a part, whose text has a seam before and behind it
abbrev pub of_parameter : List Summary → Option Parameter → Summary
of_parameter facts None = none
of_parameter facts (Some (parameter.Field ty)) = one glyph.Number
of_parameter facts (Some (parameter.Part n)) = seamed (fact facts (Some n))

-- of a parameter
abbrev pub par_sum : Desc → List Summary → Par → Summary
par_sum d facts p = of_parameter facts (option_map (parameter_told d) (parameter_of (table d) p.ty))

-- of each parameter, by its name
abbrev pub par_sums : Desc → List Summary → List Par → List (Text × Summary)
par_sums d facts pars = map (λ p. (p.name.text, par_sum d facts p)) pars

-- of an and-rule
abbrev pub rule_sum : Desc → List Summary → List Par → Template → Summary
rule_sum d facts pars syntax = along (listed (par_sums d facts pars)) still (slots syntax)

-- of alternatives
abbrev pub any_sum : Desc → List Summary → Summary → List Text → Summary
any_sum d facts m [] = m
any_sum d facts m (n ∷ ns) = any_sum d facts (both m (fact facts (item_number d n))) ns

-- of an item
abbrev pub item_sum : Desc → List Summary → Item → Summary
item_sum d facts (item.OrRule r) = any_sum d facts none (r.first.text ∷ map (λ (bar, n). n.text) r.rest)
item_sum d facts (item.OpRule r) = rule_sum d facts (pars_of r.pars) r.attrs.syntax_text
item_sum d facts (item.ModeRule r) = rule_sum d facts (pars_of r.pars) r.attrs.syntax_text
item_sum d facts _ = none

-- the flattened syntaxes of a rule's derivations
abbrev pub Texts : Table → Text → List Glyph → Type 0
Texts t name gs = (d : Derivation) × IsDerivation t name d × (glyphs d ≡ gs)

-- the summary at this number is that of the texts of the rule that stands there
abbrev pub IsRight : Desc → List Summary → ℕ → Type 0
IsRight d facts n = (name : Text) → item_number d name ≡ Some n → IsSummary (Texts (table d) name) (fact facts (Some n))

-- those at the numbers before this place of the order are
abbrev pub AreRight : Desc → List ℕ → List Summary → ℕ → Type 0
AreRight d order facts p = (q : ℕ) → q < p → IsRight d facts (slice_index_or order q 0)

-- the summary of each name's texts stands at the number of the name
abbrev pub HasAll : Desc → List Summary → Type 0
HasAll d facts = (length facts ≡ length d.items) × ((n : ℕ) → n < length d.items → IsRight d facts n)

-- The widths of the images of all rules, and the first that are wrong. For private contracts.
use Rattle.std.specs.Prelude.{ℕ, ◌≡◌, ◌<◌, ◌==◌, nat_lt, Bool, false, not, ◌||◌, ◌&&◌, List, map, length, slice_get, slice_set, Option, Some, None, option_map, unwrap_or, codes}
use Rattle.nk_base.specs.Text.{text_eq}
use Rattle.nk_base.specs.Number.{width_of}
use Rattle.nml_tree.specs.declared.tree.Par.{Par}
use Rattle.nml_tree.specs.declared.tree.Item.{Item}
use Rattle.nml_tree.specs.declared.tree.Item.TheVariants as item
use Rattle.nml_tree.specs.declared.tree.Desc.{Desc}
use Rattle.nml_tree.specs.Table.{Text, table, pars_of, parameter_of}
use Rattle.nml_tree.specs.Uses.{declares}
use Rattle.nml_tree.specs.Valid.{WordFault}
use Rattle.nml_known.specs.Known.{item_number, parameter_told}
use Rattle.nml_known.specs.declared.known.Parameter.{Parameter}
use Rattle.nml_known.specs.declared.known.Parameter.TheVariants as parameter
use Rattle.graphs.specs.Graphs.{StandsBefore}
use Rattle.nml_upward.specs.Upward.{IsRule, HasNumber}
use Rattle.nml_words.specs.declared.span.Span.{Span}
use Rattle.nml_words.specs.Span.{span, IsSpan, par_spans, span_given, text_span, with_alternatives}

-- what stands at this number
abbrev pub span_at : List Span → ℕ → Span
span_at spans n = unwrap_or (slice_get spans n) (span 0 0)

-- at the number of the name
abbrev pub span_named : Desc → List Span → Text → Span
span_named d spans name = span_at spans (unwrap_or (item_number d name) 0)

-- a field's is its type's, a part's that of its rule
abbrev pub parameter_span : List Span → Option Parameter → Span
parameter_span spans None = span 0 0
parameter_span spans (Some (parameter.Field ty)) = span (width_of ty) (width_of ty)
parameter_span spans (Some (parameter.Part n)) = span_at spans n

-- the same of a parameter as it is written
abbrev pub par_span : Desc → List Span → Par → Span
par_span d spans p = parameter_span spans (option_map (parameter_told d) (parameter_of (table d) p.ty))

-- a rule's, from those of the rules that it names
abbrev pub item_span : Desc → List Span → Item → Span
item_span d spans (item.OrRule r) = with_alternatives (span_named d spans) (span_named d spans r.first.text) (map (λ (bar, n). n.text) r.rest)
item_span d spans (item.OpRule r) = text_span (span_given (par_spans (par_span d spans) (pars_of r.pars))) r.attrs.image_text
item_span d spans (item.ModeRule r) = text_span (span_given (par_spans (par_span d spans) (pars_of r.pars))) r.attrs.image_text
item_span d spans _ = span 0 0

-- these, with that of the item
abbrev pub with_item : Desc → List Span → ℕ → Option Item → List Span
with_item d spans n None = spans
with_item d spans n (Some i) = slice_set spans n (item_span d spans i)

-- these, with that of the item of this number, where there is one
abbrev pub with_span : Desc → List Span → ℕ → List Span
with_span d spans n = with_item d spans n (slice_get d.items n)

-- the rule that the item of this number declares has the widths that stand there
abbrev pub IsSpanAt : Desc → List Span → ℕ → Type 0
IsSpanAt d spans n = (name : Text) → HasNumber d name n → IsRule (table d) name → IsSpan (table d) name (span_at spans n)

-- so have all rules
abbrev pub AreSpans : Desc → List Span → Type 0
AreSpans d spans = (n : ℕ) → IsSpanAt d spans n

-- so have the rules of so many places of the order
pub record AreUpTo (d : Desc) (order : List ℕ) (spans : List Span) (p : ℕ) : Type 0 where
  pub long : length spans ≡ length d.items
  pub right : (n : ℕ) → StandsBefore order p n → IsSpanAt d spans n

-- `instruction`
abbrev pub is_root : Text → Bool
is_root name = text_eq name (codes "instruction")

-- two widths at least
abbrev pub differs : Span → Bool
differs s = not (s.least == s.most)

-- a width below 8 or above 64
abbrev pub is_outside : Span → Bool
is_outside s = nat_lt s.least 8 || nat_lt 64 s.most

-- an or-rule of several widths, or `instruction` without one of 8 to 64
abbrev pub is_wrong : Item → Span → Bool
is_wrong (item.OrRule r) s = differs s || (is_root r.name.text && is_outside s)
is_wrong (item.OpRule r) s = is_root r.name.text && (differs s || is_outside s)
is_wrong (item.ModeRule r) s = is_root r.name.text && (differs s || is_outside s)
is_wrong _ s = false

-- this number, and no other
abbrev pub is_number : ℕ → Option ℕ → Bool
is_number k None = false
is_number k (Some n) = n == k

-- the item is the first that declares its name, and wrong
abbrev pub is_fault : Desc → List Span → ℕ → Item → Bool
is_fault d spans k i = is_number k (item_number d (declares i).text) && is_wrong i (span_at spans k)

-- no rule of a lower number is wrong
pub record NoneBefore (d : Desc) (k : ℕ) : Type 0 where
  pub none : (n : ℕ) (name : Text) → n < k → HasNumber d name n → WordFault (table d) name → ⊥

-- The places of faults in statements with the expressions in them, and in a rule, in the order in which the code comes to them.
use Rattle.std.specs.Prelude.{ℕ, ◌&&◌, Bool, List, [], ◌∷◌, ◌++◌, flat_map, Option, Some, None}
use Rattle.nml_tree.specs.declared.names.Name.{Name}
use Rattle.nml_tree.specs.declared.attributes.Template.{Template}
use Rattle.nml_tree.specs.declared.attributes.Attrs.{Attrs}
use Rattle.nml_tree.specs.Formula.{Formula}
use Rattle.nml_tree.specs.Block as block
use Rattle.nml_tree.specs.Block.{Block, Index, action_block}
use Rattle.nml_tree.specs.Directives.{Syntax, Image, parameter, is_part, is_right, text_place}
use Rattle.nml_tree.specs.Inside.{inside, as_read, handed_on, inside_value}
use Rattle.nml_tree.specs.Places.{unless, when}
use Rattle.nml_tree.specs.TypeFault.{places_inside, operand_places, is_named_rightly, is_indexed, place_kind, value_places}
use Rattle.nml_tree.specs.WidthFault.{node_widths}
use Rattle.nml_tree.specs.Worth.{Kind, Number, Truth, Scope, worth, of_name, is_other}

-- faults of kind in an expression, which is to be of this kind
abbrev pub operand_kinds : Scope → Kind → Formula → List ℕ
operand_kinds s wanted e = places_inside s (inside e) ++ operand_places s wanted e

-- in an index, where there is one
abbrev pub index_kinds : Scope → Index → List ℕ
index_kinds s None = []
index_kinds s (Some (p, i, q)) = operand_kinds s Number i

-- in a name to which a value of this kind is assigned
abbrev pub name_kinds : Scope → Name → Index → Kind → List ℕ
name_kinds s n i value =
    unless ((of_name s n.text).is_place && is_named_rightly s (is_indexed i) n) n.at ++ when (is_other (place_kind (of_name s n.text)) value) n.at

-- in what is assigned, and to what
abbrev pub assigned_kinds : Scope → Name → Index → Formula → List ℕ
assigned_kinds s n i e = index_kinds s i ++ places_inside s (inside e) ++ name_kinds s n i (worth s e).kind

-- in statements
abbrev pub block_kinds : Scope → Block → List ℕ
block_kinds s block.Done = []
block_kinds s (block.Assign n i at e semicolon rest) = assigned_kinds s n i e ++ block_kinds s rest
block_kinds s (block.Part n dot at semicolon rest) = unless (is_part (parameter s.pars n.text)) n.at ++ block_kinds s rest
block_kinds s (block.Halt at p e q semicolon rest) = operand_kinds s Number e ++ block_kinds s rest
block_kinds s (block.If at c t xs end semicolon rest) = operand_kinds s Truth c ++ block_kinds s xs ++ block_kinds s rest
block_kinds s (block.IfElse at c t xs f ys end semicolon rest) = operand_kinds s Truth c ++ block_kinds s xs ++ block_kinds s ys ++ block_kinds s rest

-- faults of width in expressions
abbrev pub widths_inside : Scope → List Formula → List ℕ
widths_inside s xs = flat_map (node_widths s) xs

-- in an index, where there is one
abbrev pub index_widths : Scope → Index → List ℕ
index_widths s None = []
index_widths s (Some (p, i, q)) = widths_inside s (inside i)

-- in what is assigned, and in the place
abbrev pub assigned_widths : Scope → Name → Index → Formula → List ℕ
assigned_widths s n i e = index_widths s i ++ node_widths s (as_read n i) ++ widths_inside s (inside e)

-- in statements and the places that they assign
abbrev pub block_widths : Scope → Block → List ℕ
block_widths s block.Done = []
block_widths s (block.Assign n i at e semicolon rest) = assigned_widths s n i e ++ block_widths s rest
block_widths s (block.Part n dot at semicolon rest) = block_widths s rest
block_widths s (block.Halt at p e q semicolon rest) = widths_inside s (inside e) ++ block_widths s rest
block_widths s (block.If at c t xs end semicolon rest) = widths_inside s (inside c) ++ block_widths s xs ++ block_widths s rest
block_widths s (block.IfElse at c t xs f ys end semicolon rest) = widths_inside s (inside c) ++ block_widths s xs ++ block_widths s ys ++ block_widths s rest

-- in a mode's value
abbrev pub value_kinds : Scope → Option Formula → List ℕ
value_kinds s v = flat_map (value_places s) (handed_on v) ++ places_inside s (inside_value v)

-- the same of widths
abbrev pub value_widths : Scope → Option Formula → List ℕ
value_widths s v = widths_inside s (handed_on v) ++ widths_inside s (inside_value v)

-- in the text of an attribute
abbrev pub text_kinds : Bool → Template → List ℕ
text_kinds good text = unless good (text_place text)

-- in the attributes of an and-rule
abbrev pub attribute_kinds : Scope → Attrs → List ℕ
attribute_kinds s a =
    text_kinds (is_right Syntax s.pars a.syntax_text) a.syntax_text ++ text_kinds (is_right Image s.pars a.image_text) a.image_text ++ block_kinds s (action_block a.action)

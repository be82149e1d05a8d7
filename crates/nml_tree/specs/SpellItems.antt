-- The spelling of attributes, items and a description.
use Rattle.std.specs.Prelude.{ℕ, List, [], ◌++◌, Option, Some, None, codes, flat_map}
use Rattle.nml_tree.specs.declared.names.Name.{Name}
use Rattle.nml_tree.specs.declared.attributes.Attribute.{Attribute}
use Rattle.nml_tree.specs.declared.attributes.Attribute.TheVariants as attribute
use Rattle.nml_tree.specs.declared.attributes.Arg.{Arg}
use Rattle.nml_tree.specs.declared.attributes.Template.{Template}
use Rattle.nml_tree.specs.declared.attributes.Template.TheVariants as template
use Rattle.nml_tree.specs.declared.attributes.Action.{Action}
use Rattle.nml_tree.specs.declared.attributes.Attrs.{Attrs}
use Rattle.nml_tree.specs.declared.tree.Par.{Par}
use Rattle.nml_tree.specs.declared.tree.Pars.{Pars}
use Rattle.nml_tree.specs.declared.tree.StorageWord.{StorageWord}
use Rattle.nml_tree.specs.declared.tree.StorageWord.TheVariants as storage_word
use Rattle.nml_tree.specs.declared.tree.PortWord.{PortWord}
use Rattle.nml_tree.specs.declared.tree.PortWord.TheVariants as port_word
use Rattle.nml_tree.specs.declared.tree.RuleWord.{RuleWord}
use Rattle.nml_tree.specs.declared.tree.RuleWord.TheVariants as rule_word
use Rattle.nml_tree.specs.declared.tree.Item.{Item}
use Rattle.nml_tree.specs.declared.tree.Item.TheVariants as item
use Rattle.nml_tree.specs.declared.tree.Desc.{Desc}
use Rattle.nml_tree.specs.Symbol.{Symbol, fixed}
use Rattle.nml_tree.specs.Formula.{formula}
use Rattle.nml_tree.specs.Block.{block}
use Rattle.nml_tree.specs.Spell.{name_spelling, number_spelling, string_spelling, size_spelling, type_spelling, formula_spelling, block_spelling}

-- `syntax` or `image`
abbrev pub attribute_spelling : Attribute → List Symbol
attribute_spelling (attribute.Syntax at) = fixed at (codes "syntax")
attribute_spelling (attribute.Image at) = fixed at (codes "image")

-- `.syntax` or `.image`, or nothing
abbrev pub dotted_spelling : Option (ℕ × Attribute) → List Symbol
dotted_spelling None = []
dotted_spelling (Some (dot, a)) = fixed dot (codes ".") ++ attribute_spelling a

-- an argument and the comma before it
abbrev pub arg_spelling : ℕ × Arg → List Symbol
arg_spelling (comma, a) = fixed comma (codes ",") ++ name_spelling a.name ++ dotted_spelling a.attribute

-- STRING, `NAME.syntax`, `NAME.image` or `format(STRING, arg, arg)`
abbrev pub template_spelling : Template → List Symbol
template_spelling (template.Plain q) = string_spelling q
template_spelling (template.Part n dot a) = name_spelling n ++ fixed dot (codes ".") ++ attribute_spelling a
template_spelling (template.Format at p q args r) =
    fixed at (codes "format") ++ fixed p (codes "(") ++ string_spelling q ++ flat_map arg_spelling args ++ fixed r (codes ")")

-- `action = { stmts }`, or nothing
abbrev pub action_spelling : Option Action → List Symbol
action_spelling None = []
action_spelling (Some a) =
    fixed a.action (codes "action") ++ fixed a.equals (codes "=") ++ fixed a.opening (codes "{") ++ block_spelling (block a.stmts)
    ++ fixed a.closing (codes "}")

-- `syntax = text image = text`, and the action
abbrev pub attrs_spelling : Attrs → List Symbol
attrs_spelling a =
    fixed a.syntax (codes "syntax") ++ fixed a.syntax_equals (codes "=") ++ template_spelling a.syntax_text
    ++ fixed a.image (codes "image") ++ fixed a.image_equals (codes "=") ++ template_spelling a.image_text
    ++ action_spelling a.action

-- `NAME : type`
abbrev pub par_spelling : Par → List Symbol
par_spelling p = name_spelling p.name ++ fixed p.colon (codes ":") ++ type_spelling p.ty

-- a further parameter and the comma before it
abbrev pub further_par_spelling : ℕ × Par → List Symbol
further_par_spelling (comma, p) = fixed comma (codes ",") ++ par_spelling p

-- the parameters between the parentheses, or nothing
abbrev pub pars_spelling : Option Pars → List Symbol
pars_spelling None = []
pars_spelling (Some ps) = par_spelling ps.first ++ flat_map further_par_spelling ps.rest

-- a further alternative and the bar before it
abbrev pub further_name_spelling : ℕ × Name → List Symbol
further_name_spelling (bar, n) = fixed bar (codes "|") ++ name_spelling n

-- `mem` or `reg`
abbrev pub storage_word_spelling : StorageWord → List Symbol
storage_word_spelling (storage_word.Mem at) = fixed at (codes "mem")
storage_word_spelling (storage_word.Reg at) = fixed at (codes "reg")

-- `trn`, `inp` or `out`
abbrev pub port_word_spelling : PortWord → List Symbol
port_word_spelling (port_word.Trn at) = fixed at (codes "trn")
port_word_spelling (port_word.Inp at) = fixed at (codes "inp")
port_word_spelling (port_word.Out at) = fixed at (codes "out")

-- `op` or `mode`
abbrev pub rule_word_spelling : RuleWord → List Symbol
rule_word_spelling (rule_word.Op at) = fixed at (codes "op")
rule_word_spelling (rule_word.Mode at) = fixed at (codes "mode")

-- `-`, or nothing
abbrev pub minus_spelling : Option ℕ → List Symbol
minus_spelling None = []
minus_spelling (Some at) = fixed at (codes "-")

-- `let NAME = NUM`, with a `-` before the number or without; `type NAME = type`; `mem NAME[size, type]` and the like;
-- `trn NAME[type]` and the like; `op NAME = NAME | NAME` and the like; `op NAME(pars) attrs`; `mode NAME(pars) = e attrs`
abbrev pub item_spelling : Item → List Symbol
item_spelling (item.Let at n equals minus z) =
    fixed at (codes "let") ++ name_spelling n ++ fixed equals (codes "=") ++ minus_spelling minus ++ number_spelling z
item_spelling (item.Type at n equals t) = fixed at (codes "type") ++ name_spelling n ++ fixed equals (codes "=") ++ type_spelling t
item_spelling (item.Storage s) =
    storage_word_spelling s.word ++ name_spelling s.name ++ fixed s.opening (codes "[") ++ size_spelling s.size ++ fixed s.comma (codes ",")
    ++ type_spelling s.ty ++ fixed s.closing (codes "]")
item_spelling (item.Port p) =
    port_word_spelling p.word ++ name_spelling p.name ++ fixed p.opening (codes "[") ++ type_spelling p.ty ++ fixed p.closing (codes "]")
item_spelling (item.OrRule r) =
    rule_word_spelling r.word ++ name_spelling r.name ++ fixed r.equals (codes "=") ++ name_spelling r.first
    ++ flat_map further_name_spelling r.rest
item_spelling (item.OpRule r) =
    fixed r.op (codes "op") ++ name_spelling r.name ++ fixed r.opening (codes "(") ++ pars_spelling r.pars ++ fixed r.closing (codes ")")
    ++ attrs_spelling r.attrs
item_spelling (item.ModeRule r) =
    fixed r.mode (codes "mode") ++ name_spelling r.name ++ fixed r.opening (codes "(") ++ pars_spelling r.pars ++ fixed r.closing (codes ")")
    ++ fixed r.equals (codes "=") ++ formula_spelling (formula r.value) ++ attrs_spelling r.attrs

-- the symbols of a description: those of its items, one after the other
abbrev pub spelling : Desc → List Symbol
spelling d = flat_map item_spelling d.items

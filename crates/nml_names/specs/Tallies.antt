-- Which names stand once in a list, and which more often.
use Rattle.std.specs.Prelude.{ℕ, Bool, not, ◌&&◌, List, [], ◌∷◌, ◌++◌, map, Option, Some, None, if◌then◌else◌}
use Rattle.std.specs.List.{list_any}
use Rattle.indexmap.specs.IndexSet.{insert_key}
use Rattle.nk_base.specs.Text.{text_eq}
use Rattle.nml_tree.specs.declared.names.Name.{Name}
use Rattle.nml_tree.specs.declared.attributes.Attrs.{Attrs}
use Rattle.nml_tree.specs.declared.tree.Pars.{Pars}
use Rattle.nml_tree.specs.declared.tree.Item.{Item}
use Rattle.nml_tree.specs.declared.tree.Item.TheVariants as item
use Rattle.nml_tree.specs.Block.{Block, Done, Assign, Part, Halt, If, IfElse, action_block}
use Rattle.nml_tree.specs.Table.{Text, pars_of}
use Rattle.nml_tree.specs.Uses.{in_text, declares}
use Rattle.std.specs.Map.{lookup}
use Rattle.nml_names.specs.declared.names.Declaration.{Declaration}
use Rattle.nml_names.specs.Found.{is_first}
use Rattle.nml_names.specs.declared.tally.Tally.{Tally}
use Rattle.nml_names.specs.declared.linear.Named.{Named}

-- the names that stand at least once, and those that stand at least twice
pub record Seen : Type 0 where
  pub once : List Text
  pub twice : List Text

-- what a tally has seen
abbrev pub seen : Tally → Seen
seen t = record { once = t.once.keys; twice = t.twice.keys }

-- no name
abbrev pub nothing : Seen
nothing = record { once = []; twice = [] }

-- one name more
abbrev pub add : Seen → Text → Seen
add s x = if list_any (text_eq x) s.once then record s { twice = insert_key text_eq s.twice x } else record s { once = insert_key text_eq s.once x }

-- these names more, one after the other
abbrev pub tally : Seen → List Name → Seen
tally s [] = s
tally s (n ∷ ns) = tally (add s n.text) ns

-- the parts whose actions the statements take
abbrev pub part_names : Block → List Name
part_names Done = []
part_names (Assign n i at e semicolon rest) = part_names rest
part_names (Part n dot at semicolon rest) = n ∷ part_names rest
part_names (Halt at p e q semicolon rest) = part_names rest
part_names (If at c t xs end semicolon rest) = part_names xs ++ part_names rest
part_names (IfElse at c t xs f ys end semicolon rest) = part_names xs ++ part_names ys ++ part_names rest

-- the name stands at least twice
abbrev pub is_twice : Seen → Text → Bool
is_twice s p = list_any (text_eq p) s.twice

-- the name stands exactly once
abbrev pub is_once : Seen → Text → Bool
is_once s p = list_any (text_eq p) s.once && not (is_twice s p)

-- once in each text, and not twice in the action
abbrev pub are_linear : (syntax image action : Seen) → Text → Bool
are_linear syntax image action p = is_once syntax p && is_once image p && not (is_twice action p)

-- the attributes name the parameter as often as they must
abbrev pub attrs_linear : Attrs → Text → Bool
attrs_linear a p = are_linear (tally nothing (in_text a.syntax_text)) (tally nothing (in_text a.image_text)) (tally nothing (part_names (action_block a.action))) p

-- the first that fails the test
abbrev pub first_other : (Text → Bool) → List Name → Option Text
first_other test [] = None
first_other test (n ∷ ns) = if test n.text then first_other test ns else Some n.text

-- the names of parameters
abbrev pub names_of : Option Pars → List Name
names_of pars = map (λ p. p.name) (pars_of pars)

-- the first parameter of an item that isn't named as often as it must be
abbrev pub other_parameter : Item → Option Text
other_parameter (item.OpRule r) = first_other (attrs_linear r.attrs) (names_of r.pars)
other_parameter (item.ModeRule r) = first_other (attrs_linear r.attrs) (names_of r.pars)
other_parameter _ = None

-- the same, by the names that were counted
abbrev pub named_linear : Named → Text → Bool
named_linear n p = are_linear (seen n.syntax) (seen n.image) (seen n.action) p

-- and of an item that is the first of its name
abbrev pub fault_at : List (Text × Declaration) → ℕ → Item → Option Text
fault_at names k i = if is_first k (lookup (text_eq (declares i).text) names) then other_parameter i else None

-- The items that a rule names, by their numbers.
use Rattle.std.specs.Prelude.{ℕ, List, [], ◌∷◌, ◌++◌, map, Option, Some, None, if◌then◌else◌}
use Rattle.std.specs.Map.{lookup}
use Rattle.nk_base.specs.Text.{text_eq}
use Rattle.nml_tree.specs.declared.tree.TypeExpr.{TypeExpr}
use Rattle.nml_tree.specs.declared.tree.TypeExpr.TheVariants as type_expr
use Rattle.nml_tree.specs.declared.tree.Par.{Par}
use Rattle.nml_tree.specs.declared.tree.Item.{Item}
use Rattle.nml_tree.specs.declared.tree.Item.TheVariants as item
use Rattle.nml_tree.specs.Table.{Text, pars_of}
use Rattle.nml_names.specs.declared.names.Declaration.{Declaration}
use Rattle.nml_names.specs.Naming.{declaration}

-- what is known of names
abbrev pub Names : Type 0
Names = Text → Option Declaration

-- from the entries of a map
abbrev pub looked : List (Text × Declaration) → Names
looked entries name = lookup (text_eq name) entries

-- the number of the item that declares a name, where there is one
abbrev pub first_number : Option Declaration → List ℕ
first_number None = []
first_number (Some d) = d.first ∷ []

-- where it is a rule
abbrev pub rule_number : Option Declaration → List ℕ
rule_number None = []
rule_number (Some d) = if d.rule then d.first ∷ [] else []

-- the number of a part's rule
abbrev pub part : Names → TypeExpr → List ℕ
part f (type_expr.Name n) = rule_number (f n.text)
part f _ = []

-- behind these numbers, those of alternatives
abbrev pub with_alternatives : Names → List ℕ → List Text → List ℕ
with_alternatives f numbers [] = numbers
with_alternatives f numbers (n ∷ ns) = with_alternatives f (numbers ++ first_number (f n)) ns

-- behind these numbers, those of parts
abbrev pub with_parts : Names → List ℕ → List Par → List ℕ
with_parts f numbers [] = numbers
with_parts f numbers (p ∷ ps) = with_parts f (numbers ++ part f p.ty) ps

-- the alternatives or parts of an item
abbrev pub below : Names → Item → List ℕ
below f (item.OrRule r) = with_alternatives f [] (r.first.text ∷ map (λ (bar, n). n.text) r.rest)
below f (item.OpRule r) = with_parts f [] (pars_of r.pars)
below f (item.ModeRule r) = with_parts f [] (pars_of r.pars)
below f _ = []

-- the items, each with those that it names
abbrev pub graph : List Item → List (List ℕ)
graph items = map (below (declaration 0 items)) items

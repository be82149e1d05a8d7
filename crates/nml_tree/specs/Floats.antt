-- Whether a description has a type `float`, and where.
use Rattle.std.specs.Prelude.{ℕ, List, [], ◌∷◌, Option, Some, None, flat_map, map}
use Rattle.nml_tree.specs.declared.tree.TypeExpr.{TypeExpr}
use Rattle.nml_tree.specs.declared.tree.TypeExpr.TheVariants as type_expr
use Rattle.nml_tree.specs.declared.tree.Pars.{Pars}
use Rattle.nml_tree.specs.declared.tree.Item.{Item}
use Rattle.nml_tree.specs.declared.tree.Item.TheVariants as item
use Rattle.nml_tree.specs.declared.tree.Desc.{Desc}

-- the types of a rule's parameters, in order
abbrev pub par_types : Option Pars → List TypeExpr
par_types None = []
par_types (Some ps) = ps.first.ty ∷ map (λ (comma, p). p.ty) ps.rest

-- the types that stand in an item, in the text's order
abbrev pub item_types : Item → List TypeExpr
item_types (item.Let at n equals minus z) = []
item_types (item.Type at n equals t) = t ∷ []
item_types (item.Storage s) = s.ty ∷ []
item_types (item.Port p) = p.ty ∷ []
item_types (item.OrRule r) = []
item_types (item.OpRule r) = par_types r.pars
item_types (item.ModeRule r) = par_types r.pars

-- the place of the word `float` in a type, or none
abbrev pub float_place : TypeExpr → List ℕ
float_place (type_expr.Float at p n c m q) = at ∷ []
float_place _ = []

-- the places of the word `float`, in the text's order
abbrev pub float_places : Desc → List ℕ
float_places d = flat_map float_place (flat_map item_types d.items)

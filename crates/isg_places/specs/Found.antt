-- What was found of the values of PC.
use Rattle.std.specs.Prelude.{◌<◌, ◌≤◌, ◌≡◌, List, [], ◌∷◌, length}
use Rattle.nml_tree.specs.Act.{Term}
use Rattle.isg_nodes.specs.declared.node.Node.{Node}
use Rattle.isg_nodes.specs.Written.{term}
use Rattle.isg_places.specs.declared.found.Found.{Found}
use Rattle.isg_places.specs.declared.found.Found.TheVariants as found

-- these values are none, the one of a node, or more
abbrev pub IsFound : List Node → Found → List Term → Type 0
IsFound nodes found.Nothing es = es ≡ []
IsFound nodes (found.One e) es = (e < length nodes) × (es ≡ term nodes e ∷ [])
IsFound nodes found.More es = 2 ≤ length es

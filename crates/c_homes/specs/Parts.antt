-- What is counted of a tree and of a statement, over their parts.
use Rattle.std.specs.Prelude.{ℕ, ◌+◌, ℤ, List, [], ◌∷◌, ◌++◌}
use Rattle.ir_run.specs.Node.{Node, node}
use Rattle.ir_run.specs.Size as size
use Rattle.c_homes.specs.declared.part.Part.{Part}
use Rattle.c_homes.specs.declared.part.Part.TheVariants as root
use Rattle.c_homes.specs.declared.part.Trees.{Trees}
use Rattle.c_homes.specs.declared.part.Trees.TheVariants as below

-- the numbers in a tree, from left to right
abbrev pub numbers : Part → List ℤ
numbers root.Leaf = []
numbers (root.Number z) = z ∷ []
numbers (root.Label l) = []
numbers (root.One t) = size.constants (node t.now)
numbers (root.Two t u) = size.constants (node t.now) ++ size.constants (node u.now)

-- how many nodes it has
abbrev pub count : Part → ℕ
count root.Leaf = 1
count (root.Number z) = 1
count (root.Label l) = 1
count (root.One t) = 1 + size.nodes (node t.now)
count (root.Two t u) = 1 + size.nodes (node t.now) + size.nodes (node u.now)

-- the label that it is
abbrev pub label : Part → List ℕ
label (root.Label l) = l ∷ []
label _ = []

-- the trees of a statement
abbrev pub trees : Trees → List Node
trees below.Without = []
trees (below.One t) = node t.now ∷ []
trees (below.Two t u) = node t.now ∷ node u.now ∷ []

-- Worked examples of the definitions, each by computation: the nodes of instructions of two machines.
use Rattle.std.specs.Prelude.{◌≡◌, refl, pos, List, [], ◌∷◌}
use Rattle.nml_tree.specs.Act.{Done, Number, Field, Cell, SetCell}
use Rattle.nml_tree.specs.SampleMachines.{m2, two_moves, set_of}
use Rattle.nml_tree.specs.Written as written
use Rattle.isg_nodes.specs.declared.node.Node.{Node}
use Rattle.isg_nodes.specs.declared.node.Node.TheVariants as node
use Rattle.isg_nodes.specs.Written.{term, statement, action}

-- `R[d] = R[s];` twice, with fields 0 to 3, and `R[d] = n;`, which shares the nodes of fields 0 and 1; R is storage 1
abbrev sample : List Node
sample =
    node.Field 0
    ∷ node.Field 1
    ∷ node.Cell 1 1
    ∷ node.SetCell 1 0 2
    ∷ node.Field 2
    ∷ node.Field 3
    ∷ node.Cell 1 5
    ∷ node.SetCell 1 4 6
    ∷ node.SetCell 1 0 1
    ∷ []

-- `R[s]` of the first move is node 2
read : term sample 2 ≡ Cell 1 (Field 1)
unfolding term
read = refl

-- the first move is node 3
move : action sample (3 ∷ []) ≡ SetCell 1 (Field 0) (Cell 1 (Field 1)) Done
unfolding term statement
move = refl

-- nodes 3 and 7 are the action of `r2 = r0 | r3 = r1`
moves : action sample (3 ∷ 7 ∷ []) ≡ written.action m2 two_moves
unfolding term statement
moves = refl

-- node 8 is the action of `set r2, 5`
set : action sample (8 ∷ []) ≡ written.action m2 (set_of (pos 2) (pos 5))
unfolding term statement
set = refl

-- `A = n;`, A being storage 1, which has one cell
abbrev load : List Node
load = node.Number (pos 0) ∷ node.Field 0 ∷ node.SetCell 1 0 1 ∷ []

one_cell : action load (2 ∷ []) ≡ SetCell 1 (Number (pos 0)) (Field 0) Done
unfolding term statement
one_cell = refl

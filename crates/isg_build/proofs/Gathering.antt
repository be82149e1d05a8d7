-- The actions of shapes, gathered one by one.
use Rattle.std.proofs.Common.{ℕ, ◌+◌, ◌<◌, ◌≤◌, ◌≡◌, subst, List, [], ◌∷◌, ◌++◌, take, get_or, length}
use Rattle.std.proofs.lemmas.List.{take_all}
use Rattle.nml_tree.specs.declared.tree.Desc.{Desc}
use Rattle.nml_shape.specs.declared.shape.Shape.{Shape}
use Rattle.isg_nodes.specs.declared.node.Node.{Node}
use Rattle.isg_nodes.specs.Grow.{Extends}
use Rattle.isg_nodes.specs.Written.{Falls}
use Rattle.isg_graph.specs.Graph.{AreFor, IsEffect}
use Rattle.isg_graph.proofs.Gathered.{for_each, for_next}
use Rattle.isg_build.proofs.Effects.{effect_kept}

-- these effects are those of the first shapes
pub record Gathers (d : Desc) (nodes : List Node) (front : List Shape) (effects : List (List ℕ)) : Type 0 where
  pub falls : Falls nodes
  pub are : AreFor (IsEffect d nodes) front effects

module _ (d : Desc) (all : List Shape) where
  pub gather_next : (i : ℕ) (s : Shape) (old new : List Node) (effects : List (List ℕ)) (e : List ℕ) → i < length all → Gathers d old (take i all) effects → Falls new → Extends old new → IsEffect d new (get_or all i s) e
      → Gathers d new (take (i + 1) all) (effects ++ e ∷ [])
  gather_next i s old new effects e low g falls extends is = record {
    falls = falls;
    are = for_next (IsEffect d new) all effects i s e low (for_each (IsEffect d old) (IsEffect d new) (take i all) effects (λ x y. effect_kept d old new x y extends) g.are) is;
  }

  pub gather_end : (i : ℕ) (nodes : List Node) (effects : List (List ℕ)) → length all ≤ i → Gathers d nodes (take i all) effects → AreFor (IsEffect d nodes) all effects
  gather_end i nodes effects over g = subst (λ xs. AreFor (IsEffect d nodes) xs effects) (take_all i all over) g.are

-- A graph that grew.
use Rattle.std.specs.Prelude.{ℕ, ◌<◌, ◌≤◌, ◌≡◌, List, length}
use Rattle.nml_tree.specs.Act.{Act}
use Rattle.isg_nodes.specs.declared.node.Node.{Node}
use Rattle.isg_nodes.specs.Written.{one_term, one_act, in_order, term, statement, AllBelow, Falls}

-- what the old nodes write out is as before
pub record Extends (old new : List Node) : Type 0 where
  pub longer : length old ≤ length new
  pub values : (n : ℕ) → n < length old → term new n ≡ term old n
  pub acts : (n : ℕ) → n < length old → (rest : Act) → statement new n rest ≡ statement old n rest

-- the new nodes write out the old ones as before, and node n writes out x over the old ones
pub record Grown (old new : List Node) (x : Node) (n : ℕ) : Type 0 where
  pub extends : Extends old new
  pub falls : Falls new
  pub within : n < length new
  pub value : term new n ≡ one_term x (term old)
  pub act : (rest : Act) → statement new n rest ≡ one_act x (term old) (statement old) rest

-- a list of statements writes out a, before whatever comes behind
pub record Listed (nodes : List Node) (ns : List ℕ) (a : Act → Act) : Type 0 where
  pub below : AllBelow ns (length nodes)
  pub is : (rest : Act) → in_order (statement nodes) ns rest ≡ a rest

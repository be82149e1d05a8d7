-- What is kept of each action beside its statements, for private contracts.
use Rattle.std.specs.Prelude.{ℕ, ◌≡◌, Bool, List, length, IsTrue, Some, slice_get}
use Rattle.isg_legal.specs.Coarse.{NeverClashes}
use Rattle.isg_nodes.specs.declared.node.Node.{Node}
use Rattle.isg_nodes.specs.Written.{AllBelow, action}

-- the statements of each effect are among the nodes
abbrev pub AreWithin : List Node → List (List ℕ) → Type 0
AreWithin nodes effects = (n : ℕ) (e : List ℕ) → slice_get effects n ≡ Some e → AllBelow e (length nodes)

-- where it is said so, no two events of the effect can clash
abbrev pub NoneClashes : List Node → List ℕ → Bool → Type 0
NoneClashes nodes effect quiet = IsTrue quiet → NeverClashes (action nodes effect)

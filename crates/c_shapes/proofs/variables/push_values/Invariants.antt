use Rattle.std.proofs.Common.{◌≡◌, ◌++◌, map, drop}
use Rattle.c_tree.specs.Resolve.{initial}
use Rattle.c_shapes.proofs.variables.push_values.Given as goal

abbrev pub invariant-loop-one : goal.invariant-loop-one
invariant-loop-one l = l.values.items ++ map (λ (comma, x). initial x) (drop l.one-index l.rest) ≡ l.fn.values.items ++ map (λ (comma, x). initial x) l.rest

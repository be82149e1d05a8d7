use Rattle.std.proofs.Common.{◌≡◌, ◌++◌, map, drop}
use Rattle.std.specs.List.{flat_map}
use Rattle.c_eval.specs.Laid.{variable_cells}
use Rattle.c_eval.proofs.start.push_others.Given as goal

abbrev pub invariant-loop-one : goal.invariant-loop-one
invariant-loop-one l = l.memory.items ++ flat_map variable_cells (map (λ (comma, x). x) (drop l.one-index l.rest)) ≡ l.fn.memory.items ++ flat_map variable_cells (map (λ (comma, x). x) l.rest)

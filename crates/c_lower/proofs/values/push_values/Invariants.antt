use Rattle.std.proofs.Common.{◌≡◌, ◌++◌, drop, filter}
use Rattle.std.specs.Prelude.{not}
use Rattle.c_tree.specs.Lowered.{numbered, is_zero}
use Rattle.c_lower.proofs.values.push_values.Given as goal

abbrev pub invariant-loop-value : goal.invariant-loop-value
invariant-loop-value l =
    l.out.items ++ filter (λ (k, z). not (is_zero z)) (numbered l.next (drop l.value-index l.values))
    ≡ l.fn.out.items ++ filter (λ (k, z). not (is_zero z)) (numbered l.cell l.values)

use Rattle.std.proofs.Common.{◌≡◌, ◌++◌, map, drop}
use Rattle.ir_run.specs.Value.{label_value}
use Rattle.c_homes.proofs.homes.push_labels.Given as goal

abbrev pub invariant-loop-cell : goal.invariant-loop-cell
invariant-loop-cell l = l.fn.out ++ map (λ (k, label). (k, label_value label)) l.labels ≡ l.out ++ map (λ (k, label). (k, label_value label)) (drop l.cell-index l.labels)

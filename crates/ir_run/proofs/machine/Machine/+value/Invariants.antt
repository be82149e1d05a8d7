-- What is evaluated is less high from an operator to its operands.
use Rattle.std.proofs.Common.{◌*◌, ◌+◌, max}
use Rattle.ir_run.specs.Node.{node}
use Rattle.ir_run.proofs.Values.{height}
use Rattle.ir_run.proofs.machine.Machine.+value.Given as goal

abbrev pub decreases-value : goal.decreases-value
decreases-value l = 2 * height (node l.tree.now)

abbrev pub decreases-binary : goal.decreases-binary
decreases-binary l = 2 * max (height (node l.t.now)) (height (node l.u.now)) + 1

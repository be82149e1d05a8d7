use Rattle.std.proofs.Common.{◌+◌, ◌*◌, max}
use Rattle.nml_tree.specs.Depth.{depth}
use Rattle.nml_tree.specs.Formula.{formula}
use Rattle.nml_tree.specs.Table.{table}
use Rattle.attr_eval.specs.Alone.{deepest}
use Rattle.isg_written.proofs.expression.+write.Given as goal

abbrev pub decreases-mode : goal.decreases-mode
decreases-mode l = l.limit * (3 * deepest (table l.numbered.now) + 5)

abbrev pub decreases-named : goal.decreases-named
decreases-named l = l.front.limit * (3 * deepest (table l.front.numbered.now) + 5) + 1

abbrev pub decreases-expression : goal.decreases-expression
decreases-expression l = l.front.limit * (3 * deepest (table l.front.numbered.now) + 5) + 3 * depth (formula l.e.now) + 2

abbrev pub decreases-operand : goal.decreases-operand
decreases-operand l = l.front.limit * (3 * deepest (table l.front.numbered.now) + 5) + 3 * depth (formula l.e.now) + 3

abbrev pub decreases-unary : goal.decreases-unary
decreases-unary l = l.front.limit * (3 * deepest (table l.front.numbered.now) + 5) + 3 * depth (formula l.x.now) + 4

abbrev pub decreases-binary : goal.decreases-binary
decreases-binary l = l.front.limit * (3 * deepest (table l.front.numbered.now) + 5) + 3 * max (depth (formula l.x.now)) (depth (formula l.y.now)) + 4

abbrev pub decreases-choose : goal.decreases-choose
decreases-choose l = l.front.limit * (3 * deepest (table l.front.numbered.now) + 5) + 3 * max (depth (formula l.c.now)) (max (depth (formula l.x.now)) (depth (formula l.y.now))) + 4

abbrev pub decreases-indexed : goal.decreases-indexed
decreases-indexed l = l.front.limit * (3 * deepest (table l.front.numbered.now) + 5) + 3 * depth (formula l.i.now) + 4

use Rattle.std.proofs.Common.{◌*◌, ◌+◌, []}
use Rattle.nml_tree.specs.Depth.{depth}
use Rattle.nml_tree.specs.Formula.{formula}
use Rattle.nml_tree.specs.Table.{entries}
use Rattle.attr_eval.specs.Alone.{deepest}
use Rattle.attr_legal.proofs.target.+target.Given as goal

abbrev pub decreases-value_target : goal.decreases-value_target
decreases-value_target l = l.limit * (deepest (entries [] l.items.now) + 3)

abbrev pub decreases-named_target : goal.decreases-named_target
decreases-named_target l = l.limit * (deepest (entries [] l.items.now) + 3) + 1

abbrev pub decreases-expr_target : goal.decreases-expr_target
decreases-expr_target l = l.limit * (deepest (entries [] l.items.now) + 3) + depth (formula l.e.now) + 1

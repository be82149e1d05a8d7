use Rattle.std.proofs.Common.{◌*◌, ◌+◌, []}
use Rattle.nml_tree.specs.Depth.{depth}
use Rattle.nml_tree.specs.Formula.{formula}
use Rattle.nml_tree.specs.Table.{entries}
use Rattle.attr_eval.specs.Alone.{deepest}
use Rattle.attr_exec.proofs.read.+read.Given as goal

abbrev pub decreases-mode_seen : goal.decreases-mode_seen
decreases-mode_seen l = l.limit * (deepest (entries [] l.items.now) + 3)

abbrev pub decreases-named : goal.decreases-named
decreases-named l = l.front.limit * (deepest (entries [] l.front.items.now) + 3) + 1

abbrev pub decreases-worth : goal.decreases-worth
decreases-worth l = l.front.limit * (deepest (entries [] l.front.items.now) + 3) + depth (formula l.e.now) + 1

use Rattle.std.proofs.Common.{◌*◌, ◌+◌, []}
use Rattle.nml_tree.specs.Depth.{depth}
use Rattle.nml_tree.specs.Formula.{formula}
use Rattle.nml_tree.specs.Table.{entries}
use Rattle.attr_eval.specs.Alone.{deepest}
use Rattle.attr_legal.proofs.reads.+reads.Given as goal

abbrev pub decreases-value_reads : goal.decreases-value_reads
decreases-value_reads l = l.limit * (deepest (entries [] l.items.now) + 3)

abbrev pub decreases-named_reads : goal.decreases-named_reads
decreases-named_reads l = l.limit * (deepest (entries [] l.items.now) + 3) + 1

abbrev pub decreases-reads : goal.decreases-reads
decreases-reads l = l.limit * (deepest (entries [] l.items.now) + 3) + depth (formula l.e.now) + 1

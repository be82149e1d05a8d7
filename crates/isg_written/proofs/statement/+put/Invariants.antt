use Rattle.std.proofs.Common.{◌+◌, ◌*◌, max, drop}
use Rattle.nml_tree.specs.Block as block
use Rattle.nml_tree.specs.Depth.{block_depth}
use Rattle.nml_tree.specs.Table.{table}
use Rattle.attr_exec.specs.Ready.{deepest_action}
use Rattle.attr_exec.proofs.Statements.{otherwise}
use Rattle.isg_written.proofs.Putting.{Walked}
use Rattle.isg_written.proofs.statement.+put.Given as goal

abbrev pub decreases-action : goal.decreases-action
decreases-action l = l.limit * (5 * deepest_action (table l.numbered.now) + 6)

abbrev pub decreases-part : goal.decreases-part
decreases-part l = l.front.limit * (5 * deepest_action (table l.front.numbered.now) + 6) + 1

abbrev pub decreases-statement : goal.decreases-statement
decreases-statement l = l.front.limit * (5 * deepest_action (table l.front.numbered.now) + 6) + 5 * block_depth (block.stmt l.stmt.now block.Done) + 1

abbrev pub decreases-block : goal.decreases-block
decreases-block l = l.front.limit * (5 * deepest_action (table l.front.numbered.now) + 6) + 5 * block_depth (block.block l.stmts.now) + 2

abbrev pub decreases-branch : goal.decreases-branch
decreases-branch l = l.front.limit * (5 * deepest_action (table l.front.numbered.now) + 6) + 5 * block_depth (block.block l.stmts.now) + 3

abbrev pub decreases-other_branch : goal.decreases-other_branch
decreases-other_branch l = l.front.limit * (5 * deepest_action (table l.front.numbered.now) + 6) + 5 * block_depth (otherwise l.other.now) + 4

abbrev pub decreases-when : goal.decreases-when
decreases-when l = l.front.limit * (5 * deepest_action (table l.front.numbered.now) + 6) + 5 * max (block_depth (block.block l.xs.now)) (block_depth (otherwise l.other.now)) + 5

abbrev pub invariant-block-loop-stmt : goal.invariant-block-loop-stmt
invariant-block-loop-stmt l = Walked l.front l.fn.nodes.items l.nodes.items l.fn.list.items l.list.items (block.block (drop l.stmt-index l.stmts)) (block.block l.stmts)

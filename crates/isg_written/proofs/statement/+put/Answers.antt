use Rattle.std.proofs.Common.{◌≡◌, ◌∙◌, ◌<◌, ◌≤◌, ◌+◌, ◌*◌, sym, ap, subst, arith, refl}
use Rattle.nml_tree.specs.Block as block
use Rattle.nml_tree.specs.Block.{action_block, stmt}
use Rattle.nml_tree.specs.Depth.{block_depth}
use Rattle.nml_tree.specs.Table.{Declared, table}
use Rattle.attr_eval.specs.Turn.{made_rule}
use Rattle.attr_exec.specs.Ready.{deepest_action}
use Rattle.attr_exec.proofs.Running.{among_depth, within_action}
use Rattle.attr_exec.proofs.Statements.{part_depth, then_depth, else_depth}
use Rattle.isg_written.proofs.Deep.{less_action}
use Rattle.isg_written.proofs.Steps.{no_limit}
use Rattle.isg_written.proofs.Putting.{walk_begin, walk_next, walk_end, lists_made}
use Rattle.isg_written.proofs.Statements.{when_adds, assign_one, part_one, halt_one, when_one, part_none, part_some, none_action, field_action, no_action, picked_action, made_done, made_action}
use Rattle.isg_written.proofs.statement.+put.Goals as goal

pub action-returns-then-limit-eq0-clause-adds : goal.action-returns-then-limit-eq0-clause-adds
action-returns-then-limit-eq0-clause-adds t c = no_action _ _ _ _ _ _ _ c.requires.list (λ d ks w. absurd (no_limit _ _ _ _ _ _ d c.if-limit-eq0.true w))

pub action-returns-in-Picked-clause-adds : goal.action-returns-in-Picked-clause-adds
action-returns-in-Picked-clause-adds t c = picked_action _ _ _ _ _ _ _ _ _ _ _ _ c.in-Picked.ensures c.action.ensures.adds

pub action-returns-in-None-clause-adds : goal.action-returns-in-None-clause-adds
action-returns-in-None-clause-adds t c = no_action _ _ _ _ _ _ _ c.requires.list (made_done _ _ (made_rule c.in-Made.rule) _ _ _ c.in-Made.ensures (ap action_block c.in-None.is))

pub action-returns-in-Some-clause-adds : goal.action-returns-in-Some-clause-adds
action-returns-in-Some-clause-adds t c = made_action _ c.requires.typed _ (made_rule c.in-Made.rule) _ _ _ _ _ _ _ c.in-Made.ensures (ap action_block c.in-Some.is ∙ ap block.block (sym c.as_slice.ensures)) refl refl c.block.ensures.adds

pub action-block-requires : goal.action-block-requires
action-block-requires t c =
    let is : c.args.limit * (5 * deepest_action (table c.args.numbered.now) + 6) ≡ t = c.decreases in
    let low : block_depth (block.block c.as_slice.result.now) ≤ deepest_action (table c.args.numbered.now) = rw c.as_slice.ensures (subst (λ o. block_depth (action_block o) ≤ deepest_action (table c.args.numbered.now)) c.in-Some.is (within_action _ c.args.name.now (Declared.And (made_rule c.in-Made.rule)) c.in-Made.ensures)) in
    let some : 0 < c.args.limit = omega arith in
    (rw (← is) (less_action c.args.limit _ _ some low), (c.requires.typed, (c.requires.falls, c.requires.list)))

pub block-loop-stmt-init : goal.block-loop-stmt-init
block-loop-stmt-init t c = walk_begin _ _ _ c.args.stmts.now c.requires.falls c.requires.list

pub block-statement-requires : goal.block-statement-requires
block-statement-requires t c =
    let is : c.args.front.limit * (5 * deepest_action (table c.args.front.numbered.now) + 6) + 5 * block_depth (block.block c.args.stmts.now) + 2 ≡ t = c.decreases in
    let low = among_depth c.args.stmts.now c.loop-stmt.stmt-index c.stmt-item.result c.loop-stmt-test.true c.stmt-item.is in
    (rw (← is) (omega (arith, low)), (c.requires.typed, (c.loop-stmt.invariant.grows.falls, c.loop-stmt.invariant.below)))

pub block-loop-stmt-preserved : goal.block-loop-stmt-preserved
block-loop-stmt-preserved t c = walk_next _ _ c.loop-stmt.nodes.items _ _ c.loop-stmt.list.items _ c.args.stmts.now c.loop-stmt.stmt-index c.stmt-item.result c.loop-stmt-test.true c.stmt-item.is c.loop-stmt.invariant c.in_ok-statement.ensures.grows c.in_ok-statement.ensures.adds

pub block-returns-clause-adds : goal.block-returns-clause-adds
block-returns-clause-adds t c = walk_end _ _ _ _ _ c.args.stmts.now c.loop-stmt.stmt-index c.loop-stmt-test.false c.loop-stmt.invariant

pub branch-returns-clause-lists : goal.branch-returns-clause-lists
branch-returns-clause-lists t c = lists_made _ _ _ _ _ _ _ c.new-list.ensures.items c.new.ensures c.in_ok-block.ensures.adds

pub part-returns-in-None-clause-adds : goal.part-returns-in-None-clause-adds
part-returns-in-None-clause-adds t c = part_none _ _ _ _ c.requires.falls c.requires.list (none_action c.args.front _ (rw c.as_bytes.ensures at c.in-None.ensures))

pub part-returns-in-Some-part_of-clause-adds : goal.part-returns-in-Some-part_of-clause-adds
part-returns-in-Some-part_of-clause-adds t c = part_some _ _ _ _ _ _ _ c.in-Some.k _ _ _ _ (rw c.as_bytes.ensures at c.in-Some.ensures) c.in-Some-part_of.ensures c.skip_pars-first.ensures c.action.ensures.adds

pub part-returns-in-None-part_of-clause-adds : goal.part-returns-in-None-part_of-clause-adds
part-returns-in-None-part_of-clause-adds t c = part_none _ _ _ _ c.requires.falls c.requires.list (field_action c.args.front _ c.in-Some.k _ (rw c.as_bytes.ensures at c.in-Some.ensures) c.in-None-part_of.ensures)

pub statement-part-requires : goal.statement-part-requires
statement-part-requires t c =
    let is : c.args.front.limit * (5 * deepest_action (table c.args.front.numbered.now) + 6) + 5 * block_depth (stmt c.args.stmt.now block.Done) + 1 ≡ t = c.decreases in
    let low = part_depth _ _ _ _ _ c.in-Part.is in
    (rw (← is) (omega (arith, low)), (c.requires.typed, (c.requires.falls, c.requires.list)))

pub statement-when-requires : goal.statement-when-requires
statement-when-requires t c =
    let is : c.args.front.limit * (5 * deepest_action (table c.args.front.numbered.now) + 6) + 5 * block_depth (stmt c.args.stmt.now block.Done) + 1 ≡ t = c.decreases in
    let low = then_depth _ _ _ _ _ _ _ _ c.in-If.is in
    let also = else_depth _ _ _ _ _ _ _ _ c.in-If.is in
    let same = ap (λ xs. block_depth (block.block xs)) c.as_slice.ensures in
    (rw (← is) (omega (arith, low, also, same)), (c.requires.typed, (c.requires.falls, c.requires.list)))

pub statement-returns-in-Assign-clause-adds : goal.statement-returns-in-Assign-clause-adds
statement-returns-in-Assign-clause-adds t c = assign_one _ _ _ _ _ _ _ _ _ _ _ c.in-Assign.is c.assign.ensures.adds

pub statement-returns-in-Part-clause-adds : goal.statement-returns-in-Part-clause-adds
statement-returns-in-Part-clause-adds t c = part_one _ _ _ _ _ _ _ _ _ _ _ c.in-Part.is c.part.ensures.adds

pub statement-returns-in-Halt-clause-adds : goal.statement-returns-in-Halt-clause-adds
statement-returns-in-Halt-clause-adds t c = halt_one _ _ _ _ _ _ _ _ _ _ _ _ c.in-Halt.is c.halt.ensures.adds

pub statement-returns-in-If-clause-adds : goal.statement-returns-in-If-clause-adds
statement-returns-in-If-clause-adds t c = when_one _ _ _ _ _ _ _ _ _ _ _ _ _ _ c.in-If.is (rw c.as_slice.ensures at c.when.ensures.adds)

pub when-returns-clause-adds : goal.when-returns-clause-adds
when-returns-clause-adds t c = when_adds _ _ _ _ _ _ _ _ _ _ _ _ _ _ _ c.in_ok-c.ensures.grows c.in_ok-c.ensures.found c.in_ok-xs.ensures.grows c.in_ok-xs.ensures.lists c.in_ok-ys.ensures.grows c.in_ok-ys.ensures.lists c.push.ensures.pushes

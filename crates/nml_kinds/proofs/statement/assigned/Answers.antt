use Rattle.std.proofs.Common.{◌++◌}
use Rattle.nml_tree.specs.Block as blocks
use Rattle.nml_tree.specs.Formula.{formula}
use Rattle.nml_tree.specs.Inside.{inside, as_read}
use Rattle.nml_tree.specs.WidthFault.{node_widths}
use Rattle.nml_worth.specs.Around.{around}
use Rattle.nml_kinds.specs.Statements.{index_widths, widths_inside}
use Rattle.nml_kinds.proofs.Expressions.{assigned_noted, two_noted}
use Rattle.nml_kinds.proofs.statement.assigned.Goals as goal

pub returns-clause-kind : goal.returns-clause-kind
returns-clause-kind c =
    assigned_noted (around c.args.s.now) c.args.p.now.name (blocks.index c.args.p.now.index) (formula c.args.e.now) c.expr-value.result.worth
    c.args.found.kind c.target-found.result.kind c.expr-value.result.kinds c.assigned_name.result
    c.expr-value.ensures.worth c.target-found.ensures.kind c.expr-value.ensures.kinds c.assigned_name.ensures

pub returns-clause-width : goal.returns-clause-width
returns-clause-width c =
    let s = around c.args.s.now in
    let n = c.args.p.now.name in
    let i = blocks.index c.args.p.now.index in
    two_noted (index_widths s i ++ node_widths s (as_read n i)) (widths_inside s (inside (formula c.args.e.now))) c.args.found.width c.target-found.result.width c.expr-value.result.widths
    c.target-found.ensures.width c.expr-value.ensures.widths

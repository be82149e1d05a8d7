use Rattle.std.proofs.Common.{ap}
use Rattle.nml_tree.specs.Formula.{formula}
use Rattle.nml_tree.specs.Inside.{inside}
use Rattle.nml_tree.specs.Table.{declared}
use Rattle.nml_tree.specs.WidthFault as widths
use Rattle.nml_tree.specs.Worth as worth
use Rattle.nml_worth.specs.Around.{around}
use Rattle.nml_kinds.specs.Statements.{widths_inside}
use Rattle.nml_kinds.proofs.Expressions.{operand_noted, two_noted}
use Rattle.nml_kinds.proofs.statement.index_operand.Goals as goal

pub returns-clause-kind : goal.returns-clause-kind
returns-clause-kind c =
    operand_noted (around c.args.s.now) worth.Number (formula c.args.i.now) c.expr-seen.result.worth c.expr-seen.result.start c.is_other.result c.args.found.kind c.expr-seen.result.kinds c.note.result
    c.expr-seen.ensures.worth c.expr-seen.ensures.start c.expr-seen.ensures.kinds c.is_other.ensures c.note.ensures

pub returns-clause-width : goal.returns-clause-width
returns-clause-width c =
    let s = around c.args.s.now in
    let f = formula c.args.i.now in
    let d = declared s.table c.args.n.now.text in
    two_noted (widths_inside s (inside f)) (widths.index_places s d f) c.args.found.width c.expr-seen.result.widths c.index_width.result
    c.expr-seen.ensures.widths
    (c.index_width.ensures s f d (rw c.names.ensures at c.declared-declared.ensures) (ap (λ w. w.cap) c.expr-seen.ensures.worth) c.expr-seen.ensures.start)

use Rattle.nml_tree.specs.Formula.{formula}
use Rattle.nml_worth.specs.Around.{around}
use Rattle.nml_worth.specs.Shown.{seen_kind}
use Rattle.nml_kinds.proofs.Expressions.{operand_noted}
use Rattle.nml_kinds.proofs.statement.operand.Goals as goal

pub returns-clause-kind : goal.returns-clause-kind
returns-clause-kind c =
    operand_noted (around c.args.s.now) (seen_kind c.args.wanted) (formula c.args.e.now) c.expr-seen.result.worth c.expr-seen.result.start c.is_other.result c.args.found.kind c.expr-seen.result.kinds c.note.result
    c.expr-seen.ensures.worth c.expr-seen.ensures.start c.expr-seen.ensures.kinds c.is_other.ensures c.note.ensures

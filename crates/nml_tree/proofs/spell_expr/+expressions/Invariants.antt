-- twice the depth of the expression, and what keeps the order of those that call each other on one expression
use Rattle.std.proofs.Common.{◌+◌, ◌*◌}
use Rattle.nml_tree.specs.declared.expression.Expr.TheViews.{size-Expr}
use Rattle.nml_tree.proofs.spell_expr.+expressions.Given as goal

abbrev pub decreases-push_expr : goal.decreases-push_expr
decreases-push_expr l = 3 * size-Expr l.e.now + 1

abbrev pub decreases-push_operator : goal.decreases-push_operator
decreases-push_operator l = 3 * size-Expr l.e.now

abbrev pub decreases-push_between : goal.decreases-push_between
decreases-push_between l = 3 * size-Expr l.e.now + 2

use Rattle.std.proofs.Common.{◌≡◌, ◌++◌, ◌*◌, ◌+◌, drop, map}
use Rattle.nml_tree.specs.ShapeList.{of_alternatives, of_parameters, shape_list_within}
use Rattle.nml_tree.specs.Table.{table}
use Rattle.shape_list.specs.Body.{alternatives_of}
use Rattle.shape_list.proofs.Steps.{behind}
use Rattle.shape_list.proofs.picks.+list.Given as goal

abbrev pub decreases-list : goal.decreases-list
decreases-list l = 4 * l.limit

abbrev pub decreases-push_alternative : goal.decreases-push_alternative
decreases-push_alternative l = 4 * l.limit + 1

abbrev pub decreases-before_all : goal.decreases-before_all
decreases-before_all l = 4 * l.limit + 1

abbrev pub decreases-alternatives : goal.decreases-alternatives
decreases-alternatives l = 4 * l.limit + 2

abbrev pub decreases-parameters : goal.decreases-parameters
decreases-parameters l = 4 * l.limit + 2

abbrev pub invariant-alternatives-loop-i : goal.invariant-alternatives-loop-i
invariant-alternatives-loop-i l =
    l.all.items ++ of_alternatives (shape_list_within (table l.names) l.limit) (l.i + 1) (map (λ (bar, n). n.text) (drop l.i l.rule.rest))
    ≡ of_alternatives (shape_list_within (table l.names) l.limit) 0 (alternatives_of l.rule)

abbrev pub invariant-parameters-loop-i : goal.invariant-parameters-loop-i
invariant-parameters-loop-i l = l.all.items ≡ of_parameters (table l.names) (shape_list_within (table l.names) l.limit) (behind l.rest l.i)

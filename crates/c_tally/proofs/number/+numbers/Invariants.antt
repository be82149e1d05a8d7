use Rattle.std.proofs.Common.{◌+◌, ◌*◌, max}
use Rattle.c_tally.proofs.Behind.{Walks}
use Rattle.c_tally.proofs.number.+numbers.Given as goal

abbrev pub decreases-push_term : goal.decreases-push_term
decreases-push_term l = 2 * l.e

abbrev pub decreases-push_both : goal.decreases-push_both
decreases-push_both l = 2 * max l.x l.y + 1

abbrev pub decreases-push_arguments : goal.decreases-push_arguments
decreases-push_arguments l = 2 * l.xs

abbrev pub decreases-push_arguments-loop-x : goal.decreases-push_arguments-loop-x
decreases-push_arguments-loop-x l = l.rest

abbrev pub invariant-push_arguments-loop-x : goal.invariant-push_arguments-loop-x
invariant-push_arguments-loop-x l = Walks l.nodes l.n l.xs l.rest l.fn.out.items l.out.items

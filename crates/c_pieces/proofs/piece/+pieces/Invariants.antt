use Rattle.std.proofs.Common.{◌+◌, ◌*◌, max}
use Rattle.c_pieces.specs.Pushed.{layout_shown}
use Rattle.c_pieces.proofs.Arguments.{Walks}
use Rattle.c_pieces.proofs.piece.+pieces.Given as goal

abbrev pub decreases-push_piece : goal.decreases-push_piece
decreases-push_piece l = 4 * l.e

abbrev pub decreases-push_both : goal.decreases-push_both
decreases-push_both l = 4 * max l.x l.y + 1

abbrev pub decreases-push_compared : goal.decreases-push_compared
decreases-push_compared l = 4 * max l.x l.y + 2

abbrev pub decreases-push_and_also : goal.decreases-push_and_also
decreases-push_and_also l = 4 * max l.x l.y + 2

abbrev pub decreases-push_or_else : goal.decreases-push_or_else
decreases-push_or_else l = 4 * max l.x l.y + 2

abbrev pub decreases-push_compare : goal.decreases-push_compare
decreases-push_compare l = 4 * max l.x l.y + 3

abbrev pub decreases-push_and : goal.decreases-push_and
decreases-push_and l = 4 * max l.x l.y + 3

abbrev pub decreases-push_or : goal.decreases-push_or
decreases-push_or l = 4 * max l.x l.y + 3

abbrev pub decreases-push_unary : goal.decreases-push_unary
decreases-push_unary l = 4 * l.x + 1

abbrev pub decreases-push_shifted : goal.decreases-push_shifted
decreases-push_shifted l = 4 * l.x + 1

abbrev pub decreases-push_arithmetic : goal.decreases-push_arithmetic
decreases-push_arithmetic l = 4 * max l.x l.y + 2

abbrev pub decreases-push_negated : goal.decreases-push_negated
decreases-push_negated l = 4 * l.x + 1

abbrev pub decreases-push_not : goal.decreases-push_not
decreases-push_not l = 4 * l.x + 2

abbrev pub decreases-push_index : goal.decreases-push_index
decreases-push_index l = 4 * l.i + 1

abbrev pub decreases-push_element : goal.decreases-push_element
decreases-push_element l = 4 * l.i + 2

abbrev pub decreases-push_argument : goal.decreases-push_argument
decreases-push_argument l = 4 * l.x + 1

abbrev pub decreases-push_arguments : goal.decreases-push_arguments
decreases-push_arguments l = 4 * l.xs

abbrev pub decreases-push_call : goal.decreases-push_call
decreases-push_call l = 4 * l.xs + 1

abbrev pub decreases-push_called : goal.decreases-push_called
decreases-push_called l = 4 * l.xs + 2

abbrev pub decreases-push_arguments-loop-x : goal.decreases-push_arguments-loop-x
decreases-push_arguments-loop-x l = l.rest

abbrev pub invariant-push_arguments-loop-x : goal.invariant-push_arguments-loop-x
invariant-push_arguments-loop-x l =
    Walks (layout_shown l.t) l.program.nodes.now l.at.later l.xs l.rest l.at.cell l.at.label l.cell l.label l.fn.out.items l.out.items l.values.items

use Rattle.std.proofs.Common.{◌+◌, ◌*◌, max}
use Rattle.c_tally.proofs.Behind.{Follows}
use Rattle.c_tally.proofs.put.+commands.Given as goal

abbrev pub decreases-push_single : goal.decreases-push_single
decreases-push_single l = 4 * l.c

abbrev pub decreases-push_numbers : goal.decreases-push_numbers
decreases-push_numbers l = 4 * l.c + 1

abbrev pub decreases-push_two : goal.decreases-push_two
decreases-push_two l = 4 * max l.x l.y + 2

abbrev pub decreases-push_guarded : goal.decreases-push_guarded
decreases-push_guarded l = 4 * l.x + 2

abbrev pub decreases-push_until : goal.decreases-push_until
decreases-push_until l = 4 * l.x + 2

abbrev pub decreases-push_branches : goal.decreases-push_branches
decreases-push_branches l = 4 * max l.x l.y + 3

abbrev pub decreases-push_numbers-loop-x : goal.decreases-push_numbers-loop-x
decreases-push_numbers-loop-x l = l.rest

abbrev pub invariant-push_numbers-loop-x : goal.invariant-push_numbers-loop-x
invariant-push_numbers-loop-x l = Follows l.nodes l.in_main l.n l.c l.rest l.fn.out.items l.out.items

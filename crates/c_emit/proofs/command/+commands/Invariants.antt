use Rattle.std.proofs.Common.{◌+◌, ◌*◌, max}
use Rattle.c_tree.specs.Program.{Seq}
use Rattle.c_flat.specs.Sorts.{command_at}
use Rattle.c_pieces.specs.Pushed.{layout_shown}
use Rattle.c_emit.proofs.Walked.{Walks}
use Rattle.c_emit.proofs.command.+commands.Given as goal

abbrev pub decreases-push_statements : goal.decreases-push_statements
decreases-push_statements l = 3 * l.c

abbrev pub decreases-push_chain : goal.decreases-push_chain
decreases-push_chain l = 3 * max l.x l.y + 1

abbrev pub decreases-push_if : goal.decreases-push_if
decreases-push_if l = 3 * l.x + 1

abbrev pub decreases-push_if_else : goal.decreases-push_if_else
decreases-push_if_else l = 3 * max l.x l.y + 1

abbrev pub decreases-push_while : goal.decreases-push_while
decreases-push_while l = 3 * l.x + 1

abbrev pub decreases-push_do : goal.decreases-push_do
decreases-push_do l = 3 * l.x + 1

abbrev pub decreases-push_turns : goal.decreases-push_turns
decreases-push_turns l = 3 * max l.step l.x + 1

abbrev pub decreases-push_forever : goal.decreases-push_forever
decreases-push_forever l = 3 * max l.step l.x + 2

abbrev pub decreases-push_for : goal.decreases-push_for
decreases-push_for l = 3 * max l.step l.x + 2

abbrev pub decreases-push_chain-loop-next : goal.decreases-push_chain-loop-next
decreases-push_chain-loop-next l = l.rest

abbrev pub invariant-push_chain-loop-next : goal.invariant-push_chain-loop-next
invariant-push_chain-loop-next l =
    Walks (layout_shown l.t) l.program.nodes.now l.fn.spot (Seq (command_at l.program.nodes.now l.x) (command_at l.program.nodes.now l.y)) l.y l.here l.rest l.fn.out.items l.out.items

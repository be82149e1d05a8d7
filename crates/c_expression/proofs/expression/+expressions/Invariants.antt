-- The room grows less with each expression within another, and whatever goes on behind the left part is read from the start.
use Rattle.std.proofs.Common.{◌≡◌, ◌<◌, ◌≤◌, length, map, ◌+◌, ◌*◌}
use Rattle.c_tree.specs.Formula.{Formula, formula}
use Rattle.c_tree.specs.Depth.{depth, further_depth}
use Rattle.readings.specs.Reading.{Read}
use Rattle.c_grammar.specs.Reading.{climb}
use Rattle.c_expression.proofs.Turns.{behind_left}
use Rattle.c_expression.proofs.Others.{Gathers}
use Rattle.c_expression.specs.Seen.{others_of}
use Rattle.readings.specs.Seen.{seen, Comes}
use Rattle.c_expression.proofs.expression.+expressions.Given as goal

abbrev pub decreases-expression : goal.decreases-expression
decreases-expression l = 8 * l.room + 6

abbrev pub decreases-operand : goal.decreases-operand
decreases-operand l = 8 * l.room + 5

abbrev pub decreases-begun : goal.decreases-begun
decreases-begun l = 8 * l.room + 3

abbrev pub decreases-node : goal.decreases-node
decreases-node l = 8 * l.room + 2

abbrev pub decreases-paren : goal.decreases-paren
decreases-paren l = 8 * l.room + 1

abbrev pub decreases-named : goal.decreases-named
decreases-named l = 8 * l.room + 4

abbrev pub decreases-called : goal.decreases-called
decreases-called l = 8 * l.room + 3

abbrev pub decreases-call : goal.decreases-call
decreases-call l = 8 * l.room + 2

abbrev pub decreases-arguments : goal.decreases-arguments
decreases-arguments l = 8 * l.room + 1

abbrev pub decreases-others : goal.decreases-others
decreases-others l = 8 * l.room + 7

abbrev pub decreases-part : goal.decreases-part
decreases-part l = 8 * l.room

-- whatever goes on behind the left part is what is read from the start
abbrev pub invariant-expression-loop-turn : goal.invariant-expression-loop-turn
invariant-expression-loop-turn l =
    ((a : Read Formula) → Comes (behind_left l.level l.room (formula l.left)) (map seen l.rest) a → Comes (λ n ss. climb n l.level l.room ss)
    (map seen l.signs) a)
    × (depth (formula l.left) ≡ l.deep) × (1 ≤ l.deep) × (l.deep ≤ l.room) × (length l.rest < length l.signs)

abbrev pub decreases-expression-loop-turn : goal.decreases-expression-loop-turn
decreases-expression-loop-turn l = length l.rest

abbrev pub invariant-others-loop-comma : goal.invariant-others-loop-comma
invariant-others-loop-comma l =
    Gathers l.room (map seen l.signs) l.found (map seen l.rest) × (further_depth (others_of l.found) ≡ l.deep) × (l.deep ≤ l.room)
    × (length l.rest ≤ length l.signs)

abbrev pub decreases-others-loop-comma : goal.decreases-others-loop-comma
decreases-others-loop-comma l = length l.rest

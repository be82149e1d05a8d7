-- The room grows less with each expression within another, and whatever goes on behind the left part is read from the start.
use Rattle.std.proofs.Common.{◌≡◌, ◌<◌, ◌≤◌, length, map, ◌+◌, ◌*◌}
use Rattle.nml_tree.specs.Formula.{Formula, formula}
use Rattle.nml_tree.specs.Depth.{depth}
use Rattle.readings.specs.Reading.{Read}
use Rattle.nml_grammar.specs.Reading.{climb}
use Rattle.nml_statement.proofs.Turns.{behind_left}
use Rattle.readings.specs.Seen.{seen, Comes}
use Rattle.nml_statement.proofs.expression.+expressions.Given as goal

abbrev pub decreases-expression : goal.decreases-expression
decreases-expression l = 6 * l.room + 5

abbrev pub decreases-operand : goal.decreases-operand
decreases-operand l = 6 * l.room + 4

abbrev pub decreases-begun : goal.decreases-begun
decreases-begun l = 6 * l.room + 3

abbrev pub decreases-node : goal.decreases-node
decreases-node l = 6 * l.room + 2

abbrev pub decreases-indexed : goal.decreases-indexed
decreases-indexed l = 6 * l.room + 1

abbrev pub decreases-paren : goal.decreases-paren
decreases-paren l = 6 * l.room + 1

abbrev pub decreases-fitted : goal.decreases-fitted
decreases-fitted l = 6 * l.room + 1

abbrev pub decreases-slice : goal.decreases-slice
decreases-slice l = 6 * l.room + 1

abbrev pub decreases-choice : goal.decreases-choice
decreases-choice l = 6 * l.room + 1

abbrev pub decreases-part : goal.decreases-part
decreases-part l = 6 * l.room

-- whatever goes on behind the left part is what is read from the start
abbrev pub invariant-expression-loop-turn : goal.invariant-expression-loop-turn
invariant-expression-loop-turn l =
    ((a : Read Formula) → Comes (behind_left l.level l.room (formula l.left)) (map seen l.rest) a → Comes (λ n ss. climb n l.level l.room ss)
    (map seen l.signs) a)
    × (depth (formula l.left) ≡ l.deep) × (1 ≤ l.deep) × (l.deep ≤ l.room) × (length l.rest < length l.signs)

abbrev pub decreases-expression-loop-turn : goal.decreases-expression-loop-turn
decreases-expression-loop-turn l = length l.rest

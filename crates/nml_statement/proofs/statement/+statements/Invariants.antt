-- What is left of the room falls from a statement to those within it, and what is left of the symbols from one to the next.
use Rattle.std.proofs.Common.{◌≤◌, ◌+◌, ◌-◌, ◌*◌, length, map}
use Rattle.nml_tree.specs.Block.{stmt}
use Rattle.readings.specs.Seen.{seen}
use Rattle.nml_statement.proofs.SayingStatements.{Goes}
use Rattle.nml_statement.proofs.statement.+statements.Given as goal

abbrev pub decreases-statements : goal.decreases-statements
decreases-statements l = 5 * l.room

abbrev pub decreases-statement : goal.decreases-statement
decreases-statement l = 5 * l.room - 1

abbrev pub decreases-branching : goal.decreases-branching
decreases-branching l = 5 * l.room - 2

abbrev pub decreases-branches : goal.decreases-branches
decreases-branches l = 5 * l.room + 2

abbrev pub decreases-alternative : goal.decreases-alternative
decreases-alternative l = 5 * l.room + 1

abbrev pub invariant-statements-loop-start : goal.invariant-statements-loop-start
invariant-statements-loop-start l = Goes l.room (map seen l.signs) (map stmt l.found) (map seen l.rest) × (length l.rest ≤ length l.signs)

abbrev pub decreases-statements-loop-start : goal.decreases-statements-loop-start
decreases-statements-loop-start l = length l.rest

-- What is left of the room falls from a statement to those within it, and what is left of the symbols from one to the next.
use Rattle.std.proofs.Common.{◌≤◌, ◌+◌, ◌*◌, length, map, codes}
use Rattle.readings.specs.Seen.{seen}
use Rattle.readings.specs.Readings.{made}
use Rattle.c_tree.specs.Statement.{part}
use Rattle.c_statement.specs.Seen.{before, part_within}
use Rattle.c_statement.proofs.Gathering.{Gathers}
use Rattle.c_statement.proofs.statement.+statements.Given as goal

abbrev pub decreases-block : goal.decreases-block
decreases-block l = 8 * l.room + 4

abbrev pub decreases-parts : goal.decreases-parts
decreases-parts l = 8 * l.room + 3

abbrev pub decreases-part : goal.decreases-part
decreases-part l = 8 * l.room + 2

abbrev pub decreases-stating : goal.decreases-stating
decreases-stating l = 8 * l.room + 1

abbrev pub decreases-statement : goal.decreases-statement
decreases-statement l = 8 * l.room

abbrev pub decreases-begun : goal.decreases-begun
decreases-begun l = 8 * l.room + 7

abbrev pub decreases-nested : goal.decreases-nested
decreases-nested l = 8 * l.room + 6

abbrev pub decreases-bracing : goal.decreases-bracing
decreases-bracing l = 8 * l.room + 5

abbrev pub decreases-branching : goal.decreases-branching
decreases-branching l = 8 * l.room + 5

abbrev pub decreases-branches : goal.decreases-branches
decreases-branches l = 8 * l.room + 3

abbrev pub decreases-alternative : goal.decreases-alternative
decreases-alternative l = 8 * l.room + 2

abbrev pub decreases-looping : goal.decreases-looping
decreases-looping l = 8 * l.room + 5

abbrev pub decreases-repeating : goal.decreases-repeating
decreases-repeating l = 8 * l.room + 5

abbrev pub decreases-counting : goal.decreases-counting
decreases-counting l = 8 * l.room + 5

abbrev pub decreases-inner : goal.decreases-inner
decreases-inner l = 8 * l.room + 1

abbrev pub invariant-parts-loop-closing : goal.invariant-parts-loop-closing
invariant-parts-loop-closing l =
    Gathers (codes "}") (made before (part_within l.room)) part (map seen l.signs) l.found (map seen l.rest) × (length l.rest ≤ length l.signs)

abbrev pub decreases-parts-loop-closing : goal.decreases-parts-loop-closing
decreases-parts-loop-closing l = length l.rest

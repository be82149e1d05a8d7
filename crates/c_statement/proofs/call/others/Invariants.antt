-- the arguments so far stand before those of the rest
use Rattle.std.proofs.Common.{◌≤◌, length, map, codes}
use Rattle.readings.specs.Seen.{seen}
use Rattle.c_statement.proofs.Gathering.{Gathers}
use Rattle.readings.specs.Readings.{◌>>>◌, sign}
use Rattle.c_tree.specs.Formula.{formula}
use Rattle.c_grammar.specs.Declarations.{expression}
use Rattle.c_statement.proofs.call.others.Given as goal

abbrev pub invariant-loop-closing : goal.invariant-loop-closing
invariant-loop-closing l = Gathers (codes ")") (sign (codes ",") >>> expression l.room) (λ (comma, y). (comma, formula y)) (map seen l.signs) l.found (map seen l.rest) × (length l.rest ≤ length l.signs)

abbrev pub decreases-loop-closing : goal.decreases-loop-closing
decreases-loop-closing l = length l.rest

-- the parameters so far stand before those of the rest
use Rattle.std.proofs.Common.{◌≤◌, length, map, codes}
use Rattle.readings.specs.Seen.{seen}
use Rattle.readings.specs.Readings.{◌>>>◌, sign}
use Rattle.c_grammar.specs.Parameters.{parameter}
use Rattle.c_statement.proofs.Gathering.{Gathers}
use Rattle.c_read.proofs.function.further_parameters.Given as goal

abbrev pub invariant-loop-closing : goal.invariant-loop-closing
invariant-loop-closing l = Gathers (codes ")") (sign (codes ",") >>> parameter) (λ x. x) (map seen l.signs) l.found (map seen l.rest) × (length l.rest ≤ length l.signs)

abbrev pub decreases-loop-closing : goal.decreases-loop-closing
decreases-loop-closing l = length l.rest

-- the variables so far stand before those of the rest
use Rattle.std.proofs.Common.{◌≤◌, length, map, codes}
use Rattle.readings.specs.Seen.{seen}
use Rattle.readings.specs.Readings.{◌>>>◌, sign}
use Rattle.c_grammar.specs.Globals.{global_variable}
use Rattle.c_statement.proofs.Gathering.{Gathers}
use Rattle.c_read.proofs.variables.further_variables.Given as goal

abbrev pub invariant-loop-semicolon : goal.invariant-loop-semicolon
invariant-loop-semicolon l = Gathers (codes ";") (sign (codes ",") >>> global_variable) (λ x. x) (map seen l.signs) l.found (map seen l.rest) × (length l.rest ≤ length l.signs)

abbrev pub decreases-loop-semicolon : goal.decreases-loop-semicolon
decreases-loop-semicolon l = length l.rest

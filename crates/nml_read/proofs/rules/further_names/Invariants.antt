-- the things so far stand before those of the rest
use Rattle.std.proofs.Common.{◌≤◌, length, map}
use Rattle.std.specs.Prelude.{codes}
use Rattle.nml_grammar.specs.Words.{name}
use Rattle.readings.specs.Seen.{seen}
use Rattle.readings.proofs.Furthering.{Goes}
use Rattle.nml_read.proofs.rules.further_names.Given as goal

abbrev pub invariant-loop-bar : goal.invariant-loop-bar
invariant-loop-bar l = Goes (codes "|") name (map seen l.signs) l.found (map seen l.rest) × (length l.rest ≤ length l.signs)

abbrev pub decreases-loop-bar : goal.decreases-loop-bar
decreases-loop-bar l = length l.rest

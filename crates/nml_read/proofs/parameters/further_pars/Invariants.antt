-- the things so far stand before those of the rest
use Rattle.std.proofs.Common.{◌≤◌, length, map}
use Rattle.std.specs.Prelude.{codes}
use Rattle.nml_grammar.specs.ReadingItems.{par}
use Rattle.readings.specs.Seen.{seen}
use Rattle.readings.proofs.Furthering.{Goes}
use Rattle.nml_read.proofs.parameters.further_pars.Given as goal

abbrev pub invariant-loop-comma : goal.invariant-loop-comma
invariant-loop-comma l = Goes (codes ",") par (map seen l.signs) l.found (map seen l.rest) × (length l.rest ≤ length l.signs)

abbrev pub decreases-loop-comma : goal.decreases-loop-comma
decreases-loop-comma l = length l.rest

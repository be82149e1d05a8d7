-- the items so far stand before those of the rest
use Rattle.std.proofs.Common.{length, map}
use Rattle.readings.specs.Seen.{seen}
use Rattle.readings.proofs.Continuing.{Continues}
use Rattle.nml_grammar.specs.ReadingItems.{item}
use Rattle.nml_read.proofs.description.items.Given as goal

abbrev pub invariant-loop-rest : goal.invariant-loop-rest
invariant-loop-rest l = Continues item (map seen l.signs) l.found (map seen l.rest)

abbrev pub decreases-loop-rest : goal.decreases-loop-rest
decreases-loop-rest l = length l.rest

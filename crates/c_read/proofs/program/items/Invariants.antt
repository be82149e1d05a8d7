-- the globals so far stand before those of the rest
use Rattle.std.proofs.Common.{length, map}
use Rattle.readings.specs.Seen.{seen}
use Rattle.readings.proofs.Continuing.{Continues}
use Rattle.c_tree.specs.Items as tree
use Rattle.c_grammar.specs.Programs.{item_read, block_room}
use Rattle.c_read.proofs.program.items.Given as goal

abbrev pub invariant-loop-rest : goal.invariant-loop-rest
invariant-loop-rest l = Continues (item_read block_room) (map seen l.signs) (map tree.item l.found) (map seen l.rest)

abbrev pub decreases-loop-rest : goal.decreases-loop-rest
decreases-loop-rest l = length l.rest

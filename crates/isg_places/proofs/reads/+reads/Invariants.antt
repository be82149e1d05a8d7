use Rattle.std.proofs.Common.{◌+◌, ◌*◌, flat_map, take}
use Rattle.nml_tree.specs.Act.{Done}
use Rattle.isg_nodes.specs.Written.{statement}
use Rattle.isg_places.specs.Places.{act_reads}
use Rattle.isg_places.specs.Spots.{Adds}
use Rattle.isg_places.proofs.Above.{above}
use Rattle.isg_places.proofs.reads.+reads.Given as goal

abbrev pub decreases-add_reads : goal.decreases-add_reads
decreases-add_reads l = 2 * above l.effect.now

abbrev pub decreases-add_statement_reads : goal.decreases-add_statement_reads
decreases-add_statement_reads l = 2 * l.n + 1

abbrev pub invariant-add_reads-loop-m : goal.invariant-add_reads-loop-m
invariant-add_reads-loop-m l = Adds l.nodes l.initial.spots.items l.spots.items (flat_map (λ m. act_reads (statement l.nodes m Done)) (take l.m-index l.effect))

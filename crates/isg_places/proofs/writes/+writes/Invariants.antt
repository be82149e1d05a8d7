use Rattle.std.proofs.Common.{◌+◌, ◌*◌, flat_map, take}
use Rattle.nml_tree.specs.Act.{Done}
use Rattle.isg_nodes.specs.Written.{statement}
use Rattle.isg_places.specs.Places.{act_writes}
use Rattle.isg_places.specs.Spots.{Adds}
use Rattle.isg_places.proofs.Above.{above}
use Rattle.isg_places.proofs.writes.+writes.Given as goal

abbrev pub decreases-add_writes : goal.decreases-add_writes
decreases-add_writes l = 2 * above l.effect.now

abbrev pub decreases-add_statement_writes : goal.decreases-add_statement_writes
decreases-add_statement_writes l = 2 * l.n + 1

abbrev pub invariant-add_writes-loop-m : goal.invariant-add_writes-loop-m
invariant-add_writes-loop-m l = Adds l.nodes l.initial.spots.items l.spots.items (flat_map (λ m. act_writes (statement l.nodes m Done)) (take l.m-index l.effect))

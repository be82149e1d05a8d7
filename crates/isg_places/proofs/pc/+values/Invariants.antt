use Rattle.std.proofs.Common.{◌+◌, ◌*◌, flat_map, take}
use Rattle.nml_tree.specs.Act.{Done}
use Rattle.isg_nodes.specs.Written.{statement}
use Rattle.isg_places.specs.Found.{IsFound}
use Rattle.isg_places.specs.Places.{pc_values}
use Rattle.isg_places.proofs.Above.{above}
use Rattle.isg_places.proofs.pc.+values.Given as goal

abbrev pub decreases-values : goal.decreases-values
decreases-values l = 2 * above l.effect.now

abbrev pub decreases-statement_values : goal.decreases-statement_values
decreases-statement_values l = 2 * l.n + 1

abbrev pub invariant-values-loop-m : goal.invariant-values-loop-m
invariant-values-loop-m l = IsFound l.nodes l.found (flat_map (λ m. pc_values l.pc (statement l.nodes m Done)) (take l.m-index l.effect))

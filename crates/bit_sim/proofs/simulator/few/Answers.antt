use Rattle.std.proofs.Common.{◌<◌, ◌^◌, subst, sym}
use Rattle.bit_sim.proofs.Running.{pc_small}
use Rattle.bit_sim.proofs.simulator.few.Goals as goal

pub returns-clause-few : goal.returns-clause-few
returns-clause-few c = subst (λ n. n < 2 ^ 32) (sym c.first_of.ensures) (pc_small c.args.g.now c.is_whole.ensures c.args.s.now c.requires c.values_fit.ensures.cells)

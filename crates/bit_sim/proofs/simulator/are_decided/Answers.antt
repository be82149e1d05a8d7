use Rattle.bit_sim.proofs.Running.{decided}
use Rattle.bit_sim.proofs.simulator.are_decided.Goals as goal

pub returns : goal.returns
returns c = decided c.args.g.now c.args.words.now c.args.found.now c.requires

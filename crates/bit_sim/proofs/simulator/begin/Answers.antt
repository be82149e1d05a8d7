use Rattle.nml_tree.specs.Table.{table}
use Rattle.bit_sim.proofs.Beginning.{begin_here}
use Rattle.bit_sim.proofs.simulator.begin.Goals as goal

pub begin_one-requires-clause-initial : goal.begin_one-requires-clause-initial
begin_one-requires-clause-initial c = begin_here (table c.args.g.now.desc) c.args.inits.now c.args.s.now c.loop-i.i-index _ c.loop-i.s c.loop-i-test.true c.loop-i.invariant

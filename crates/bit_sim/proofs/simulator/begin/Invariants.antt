use Rattle.std.proofs.Common.{drop}
use Rattle.nml_tree.specs.Table.{table}
use Rattle.bit_sim.proofs.Beginning.{Begins}
use Rattle.bit_sim.proofs.simulator.begin.Given as goal

abbrev pub invariant-loop-i : goal.invariant-loop-i
invariant-loop-i l = Begins (table l.g.desc) (drop l.i-index l.inits) l.inits l.fn.s l.s

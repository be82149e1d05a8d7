use Rattle.std.proofs.Common.{subst}
use Rattle.nml_tree.specs.Table.{table}
use Rattle.bit_sim.specs.Decoded.{AreDecided}
use Rattle.bit_sim.specs.Simulator.{Simulator}
use Rattle.bit_sim.proofs.simulator.Sim.is_decided.Goals as goal

pub returns : goal.returns
returns c = subst (λ (s : Simulator). AreDecided (table s.desc) s.words) c.self.view_is c.are_decided.ensures

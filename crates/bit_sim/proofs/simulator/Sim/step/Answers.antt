use Rattle.std.proofs.Common.{subst, sym}
use Rattle.nml_tree.specs.Table.{table}
use Rattle.attr_exec.specs.Ready.{NextFits}
use Rattle.bit_sim.specs.Simulator.{Simulator}
use Rattle.bit_sim.proofs.simulator.Sim.step.Goals as goal

pub go-told-requires-clause-next : goal.go-told-requires-clause-next
go-told-requires-clause-next c = subst (λ (q : Simulator). NextFits (table q.desc) c.args.next) (sym c.self.view_is) c.requires.next

use Rattle.std.proofs.Common.{rules, ◌≡◌, subst, sym}
use Rattle.nml_tree.specs.Table.{table}
use Rattle.nml_state.specs.Cells.{opened}
use Rattle.attr_exec.specs.Does.{IsStateOf}
use Rattle.bit_sim.proofs.Beginning.{opened_state}
use Rattle.bit_sim.proofs.simulator.Sim.open.Goals as goal

pub begin-requires-clause-state : goal.begin-requires-clause-state
begin-requires-clause-state c =
    let is : c.in_ok-state.state ≡ opened (table c.args.g.now.desc) = search rules in
    subst (IsStateOf (table c.args.g.now.desc)) (sym is) (opened_state (table c.args.g.now.desc))

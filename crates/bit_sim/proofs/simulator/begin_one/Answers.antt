use Rattle.std.proofs.Common.{rules, ◌≡◌, Some, arith, subst, sym}
use Rattle.std.specs.Prelude.{slice_get}
use Rattle.nml_tree.specs.Refused.{IsFreeBelow}
use Rattle.nml_tree.specs.Table.{table}
use Rattle.attr_exec.specs.Does.{IsStateOf}
use Rattle.bit_sim.proofs.Beginning.{has_place, right_type, written_state}
use Rattle.bit_sim.proofs.simulator.begin_one.Goals as goal

pub wrap-requires-clause-ty : goal.wrap-requires-clause-ty
wrap-requires-clause-ty c =
    let free : IsFreeBelow 8 c.args.g.now.desc = λ k low. c.is_whole.ensures.checked.free k (omega (arith, low)) in
    let at : slice_get c.args.s.now.types c.args.i.storage ≡ Some c.storage_type-ty.result = search rules in
    (right_type c.args.g.now.desc c.args.s.now c.args.i.storage c.args.i.cell c.storage_type-ty.result free c.requires.state c.requires.initial.0 at).1

pub set-requires-clause-exists : goal.set-requires-clause-exists
set-requires-clause-exists c = rw c.from-storage.ensures (has_place (table c.args.g.now.desc) c.args.s.now c.args.i.storage c.args.i.cell c.requires.state c.requires.initial.0)

pub returns-clause-state : goal.returns-clause-state
returns-clause-state c = subst (IsStateOf (table c.args.g.now.desc)) (sym c.set.ensures) (written_state (table c.args.g.now.desc) c.args.s.now _ _ _ c.requires.state)

use Rattle.std.proofs.Common.{rules, ◌≡◌, ◌≤◌, sym, subst, IfOk}
use Rattle.ir_run.specs.Entry.{listing}
use Rattle.ir_run.specs.Shifts.{AllShift}
use Rattle.ir_run.specs.Promise.{Promise}
use Rattle.c_tree.specs.AgreeIr.{AgreeIr}
use Rattle.c_tree.specs.Counts.{data_of}
use Rattle.c_tree.specs.Lowered.{lowered}
use Rattle.c_tree.specs.Resolve.{resolved}
use Rattle.c_sound.proofs.Whole.{program_sound}
use Rattle.c_plan.specs.Plan.{IsPlan}
use Rattle.c_lower.proofs.Whole.{lowers, is_lowered, has_cells, has_shifts, has_agreement, has_promises}
use Rattle.c_lower.proofs.program.lower.Goals as goal

pub returns-clause-statements : goal.returns-clause-statements
returns-clause-statements c =
    let is : IsPlan c.in_ok-plan.plan (resolved c.p.inside.tree) = search rules in
    let same = lowers c.lower_plan.result c.in_ok-plan.plan (resolved c.p.inside.tree) c.p.inside.n is c.lower_plan.ensures in
    subst (λ m. IfOk c.lower_plan.result (λ i. listing i ≡ lowered (resolved m.0) m.1)) c.p.view_is
    (is_lowered c.lower_plan.result (resolved c.p.inside.tree) c.p.inside.n same)

pub returns-clause-cells : goal.returns-clause-cells
returns-clause-cells c =
    let is : IsPlan c.in_ok-plan.plan (resolved c.p.inside.tree) = search rules in
    let same = lowers c.lower_plan.result c.in_ok-plan.plan (resolved c.p.inside.tree) c.p.inside.n is c.lower_plan.ensures in
    subst (λ m. IfOk c.lower_plan.result (λ i. i.cells ≡ data_of (resolved m.0) m.1)) c.p.view_is
    (has_cells c.lower_plan.result (resolved c.p.inside.tree) c.p.inside.n same)

pub returns-clause-shifts : goal.returns-clause-shifts
returns-clause-shifts c =
    let is : IsPlan c.in_ok-plan.plan (resolved c.p.inside.tree) = search rules in
    let same = lowers c.lower_plan.result c.in_ok-plan.plan (resolved c.p.inside.tree) c.p.inside.n is c.lower_plan.ensures in
    let sound = program_sound c.p.inside.tree c.p.inside.n c.p.invariant.0 c.p.invariant.1 c.p.invariant.2 in
    subst (λ m. IfOk c.lower_plan.result (λ i. AllShift m.1 (listing i).entries)) c.p.view_is
    (has_shifts c.lower_plan.result (resolved c.p.inside.tree) c.p.inside.n sound same)

pub returns-clause-agrees : goal.returns-clause-agrees
returns-clause-agrees c =
    let is : IsPlan c.in_ok-plan.plan (resolved c.p.inside.tree) = search rules in
    let same = lowers c.lower_plan.result c.in_ok-plan.plan (resolved c.p.inside.tree) c.p.inside.n is c.lower_plan.ensures in
    let sound = program_sound c.p.inside.tree c.p.inside.n c.p.invariant.0 c.p.invariant.1 c.p.invariant.2 in
    let fits = subst (λ m. data_of (resolved m.0) m.1 ≤ 65536) (sym c.p.view_is) c.requires.cells in
    subst (λ m. IfOk c.lower_plan.result (λ i. AgreeIr (listing i) (resolved m.0) m.1)) c.p.view_is
    (has_agreement c.lower_plan.result (resolved c.p.inside.tree) c.p.inside.n sound fits same)

pub returns-clause-promises : goal.returns-clause-promises
returns-clause-promises c =
    let is : IsPlan c.in_ok-plan.plan (resolved c.p.inside.tree) = search rules in
    let same = lowers c.lower_plan.result c.in_ok-plan.plan (resolved c.p.inside.tree) c.p.inside.n is c.lower_plan.ensures in
    let sound = program_sound c.p.inside.tree c.p.inside.n c.p.invariant.0 c.p.invariant.1 c.p.invariant.2 in
    let fits = subst (λ m. data_of (resolved m.0) m.1 ≤ 65536) (sym c.p.view_is) c.requires.cells in
    subst (λ m. IfOk c.lower_plan.result (λ i. Promise 1 (listing i) m.1)) c.p.view_is
    (has_promises c.lower_plan.result (resolved c.p.inside.tree) c.p.inside.n sound fits same)

use Rattle.std.proofs.Common.{rules, ◌≡◌, ◌+◌, map}
use Rattle.ir_run.specs.Entry.{entry}
use Rattle.ir_run.specs.Size as size
use Rattle.c_tree.specs.Lowered.{program_entries, arrays, initial_among}
use Rattle.c_homes.specs.Places.{homes_shown, homes_from, start_from}
use Rattle.c_plan.specs.Plan.{plan_shown}
use Rattle.c_lower.specs.Ground.{IsGround}
use Rattle.c_lower.proofs.Whole.{together}
use Rattle.c_lower.proofs.program.lower_plan.Goals as goal

pub returns : goal.returns
returns c =
    let p = plan_shown c.args.plan.now in
    let g = c.in_ok-ground.ground in
    let ground : IsGround p g = search rules in
    let entries = map entry c.from_vec.result in
    let lying = c.from_vec-2.result in
    let h = homes_shown c.in_ok-homes.homes in
    let entries_are : entries ≡ program_entries p c.args.n = search rules in
    let lying_are : lying ≡ arrays p = search rules in
    let homes_are : h ≡ homes_from g.free.cell lying entries c.args.n = search rules in
    let values_are : c.in_ok-values.values.items ≡ initial_among 0 p.globals = search rules in
    let start_is : c.in_ok-start.start ≡ start_from c.in_ok-values.values.items h c.args.n = search rules in
    let nodes_are : c.in_ok-most_nodes.field-0 ≡ size.most_nodes entries = search rules in
    let cells_are : c.in_ok-sum.field-0 ≡ h.temps + (8 + c.in_ok-most_nodes.field-0) = search rules in
    together p c.args.n entries g.free.cell c.in_ok-sum.field-0 c.in_ok-most_nodes.field-0 lying h c.in_ok-values.values.items c.in_ok-start.start
    entries_are ground.constants lying_are homes_are values_are start_is nodes_are cells_are

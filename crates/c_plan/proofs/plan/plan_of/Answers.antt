use Rattle.std.proofs.Common.{[], map, subst}
use Rattle.c_tree.specs.Items.{item}
use Rattle.c_tree.specs.Resolve.{resolved_items}
use Rattle.c_flat.specs.Listing.{Standing, outlines_of}
use Rattle.c_count.specs.Sized.{AreCounted}
use Rattle.c_plan.specs.declared.plan.Plan.{Plan}
use Rattle.c_plan.specs.Plan.{IsPlan}
use Rattle.c_plan.proofs.Wholes.{plan_is}
use Rattle.c_plan.proofs.plan.plan_of.Goals as goal

pub returns : goal.returns
returns c =
    let plan : Plan = record { nodes = c.push_bodies.new.nodes; sizes = c.in_ok-sizes.sizes; variables = c.in_ok-variables.variables; main = c.in_ok-routines.routines.main; others = c.in_ok-routines.routines.others } in
    let gs = map item c.as_slice-globals.result.now in
    let bodies = c.in_ok-bodies.bodies in
    let stand = subst (λ old. Standing old plan.nodes.items bodies.items [] (outlines_of gs)) c.new-nodes.ensures.items c.in_ok-bodies.ensures in
    let counted = subst (λ ns. AreCounted ns plan.sizes.items) c.as_slice.ensures.value c.in_ok-sizes.ensures in
    let routines = c.in_ok-routines.ensures in
    subst (λ xs. IsPlan plan (resolved_items (map item xs))) c.as_slice-globals.ensures (plan_is plan gs c.in_ok-declared.declared.items bodies.items stand counted c.in_ok-variables.ensures c.in_ok-declared.ensures routines.main routines.others)

use Rattle.std.proofs.Common.{◌∙◌}
use Rattle.nml_tree.specs.Table.{table}
use Rattle.nml_tree.specs.TypeFault as spec
use Rattle.nml_kinds.proofs.Orders.{next_noted}
use Rattle.nml_kinds.proofs.ty.further_parameters.Goals as goal

pub loop-p-preserved : goal.loop-p-preserved
loop-p-preserved c =
    next_noted (spec.parameter_places (table c.args.names.now)) c.args.rest.now c.loop-p.p-index _ c.loop-p.found c.parameter-found.result c.loop-p-test.true c.loop-p-item.is c.parameter-found.ensures ∙ c.loop-p.invariant

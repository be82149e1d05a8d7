use Rattle.shape_table.proofs.Few.{has_shapes}
use Rattle.shape_table.proofs.listed.list_counted.Goals as goal

pub returns : goal.returns
returns c =
    has_shapes c.args.names.now c.in_ok-all_shapes.field-0.items c.in_ok-found.found.count c.in_ok-found.found.nodes c.in_ok-found.found.size c.requires c.in_ok-found.ensures
    (c.are_too_many.ensures.within c.if-are_too_many.false) c.in_ok-all_shapes.ensures

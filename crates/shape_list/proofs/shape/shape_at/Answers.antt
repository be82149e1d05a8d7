use Rattle.std.proofs.Common.{ap, length}
use Rattle.shape_list.proofs.Shaped.{if_drawn, root_few, root_short}
use Rattle.shape_list.proofs.shape.shape_at.Goals as goal

pub shape_of-requires-clause-few : goal.shape_of-requires-clause-few
shape_of-requires-clause-few c = root_few c.args.names.now _ _ _ c.in_ok-sketch.sketch _ c.requires.free c.requires.root (ap length c.items.ensures) c.in_ok-sketch.ensures c.requires.some

pub shape_of-requires-clause-short : goal.shape_of-requires-clause-short
shape_of-requires-clause-short c = root_short c.args.names.now _ _ _ c.in_ok-sketch.sketch _ c.requires.free c.requires.root (ap length c.items.ensures) c.in_ok-sketch.ensures c.requires.some

pub returns-clause-shape : goal.returns-clause-shape
returns-clause-shape c =
    if_drawn c.args.names.now _ _ _ c.in_ok-sketch.sketch _ c.requires.free c.requires.root (ap length c.items.ensures) c.in_ok-sketch.ensures c.shape_of.result c.shape_of.ensures.shape

use Rattle.std.proofs.Common.{arith}
use Rattle.std.proofs.lemmas.Option.{slice_get_within}
use Rattle.shape_table.proofs.Labels.{are_labels}
use Rattle.shape_table.proofs.label.labels.Goals as goal

pub returns : goal.returns
returns c = are_labels c.args.common c.args.shapes.now c.loop-shape.labels.items (let long = c.loop-shape.invariant.long in omega (arith, long))
    (λ k s at. c.loop-shape.invariant.each k s (let low = slice_get_within c.args.shapes.now k s at in omega (arith, low)) at)

use Rattle.shape_list.proofs.Shaped.{Listed}
use Rattle.shape_list.proofs.shape.all_shapes.Given as goal

abbrev pub invariant-loop-picks : goal.invariant-loop-picks
invariant-loop-picks l = Listed l.names l.picks-items l.picks-index l.shapes.items

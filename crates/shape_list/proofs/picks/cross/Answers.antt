use Rattle.std.proofs.Common.{◌∙◌}
use Rattle.shape_list.proofs.Steps.{next_joined}
use Rattle.shape_list.proofs.picks.cross.Goals as goal

pub loop-x-preserved : goal.loop-x-preserved
loop-x-preserved c = next_joined _ _ _ _ c.loop-x.x-index _ _ c.loop-x-test.true c.x-item.is c.as_slice.ensures c.in_ok-extend.ensures ∙ c.loop-x.invariant

use Rattle.std.proofs.Common.{take}
use Rattle.isg_build.proofs.Gathering.{Gathers}
use Rattle.isg_build.proofs.actions.actions_of.Given as goal

abbrev pub invariant-loop-shape : goal.invariant-loop-shape
invariant-loop-shape l = Gathers l.fn.names l.nodes.items (take l.shape-index l.shapes) l.effects.items

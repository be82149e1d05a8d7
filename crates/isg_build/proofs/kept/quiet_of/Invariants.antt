use Rattle.std.proofs.Common.{take}
use Rattle.isg_graph.specs.Graph.{AreFor}
use Rattle.isg_build.specs.Kept.{NoneClashes}
use Rattle.isg_build.proofs.kept.quiet_of.Given as goal

abbrev pub invariant-loop-effect : goal.invariant-loop-effect
invariant-loop-effect l = AreFor (NoneClashes l.nodes) (take l.effect-index l.effects) l.quiet.items

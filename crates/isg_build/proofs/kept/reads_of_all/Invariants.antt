use Rattle.std.proofs.Common.{take}
use Rattle.isg_graph.specs.Graph.{AreFor}
use Rattle.isg_graph.specs.Kept.{AreReads}
use Rattle.isg_build.proofs.kept.reads_of_all.Given as goal

abbrev pub invariant-loop-effect : goal.invariant-loop-effect
invariant-loop-effect l = AreFor (AreReads l.nodes) (take l.effect-index l.effects) l.all.items

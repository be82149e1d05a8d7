use Rattle.std.proofs.Common.{take}
use Rattle.disasm_tool.specs.Syntaxes.{IsSyntax}
use Rattle.isg_graph.specs.Graph.{AreFor}
use Rattle.disasm_tool.proofs.syntaxes.syntaxes_of.Given as goal

abbrev pub invariant-loop-shape : goal.invariant-loop-shape
invariant-loop-shape l = AreFor (IsSyntax l.names) (take l.shape-index l.shapes) l.all.items

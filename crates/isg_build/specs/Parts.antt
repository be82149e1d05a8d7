-- The parts of which a graph is made, for private contracts.
use Rattle.nml_tree.specs.declared.tree.Desc.{Desc}
use Rattle.isg_graph.specs.Graph.{Graph, IsGraph}
use Rattle.isg_graph.specs.Kept.{AreNamed, IsKept}
use Rattle.isg_build.specs.declared.whole.Parts.{Parts}

-- the graph of these parts
abbrev pub graph_of : Desc → Parts → Graph
graph_of d p = record { desc = d; nodes = p.actions.nodes.items; shapes = p.shapes.items; effects = p.actions.effects.items; word_bits = p.word_bits; pc_bits = p.pc_bits; pc = p.pc; out = p.out; target = p.target }

-- the parts are those of the graph of the description
pub record AreParts (d : Desc) (p : Parts) : Type 0 where
  pub graph : IsGraph (graph_of d p)
  pub kept : IsKept d p.shapes.items p.quiet.items p.masks p.lines
  pub named : AreNamed p.actions.nodes.items p.actions.effects.items p.reads.items p.writes.items

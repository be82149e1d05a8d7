-- What a graph keeps beside its shapes, so that they are found fast.
use Rattle.std.specs.Prelude.{ℕ, ◌≡◌, Bool, List, map}
use Rattle.nml_tree.specs.declared.tree.Desc.{Desc}
use Rattle.nml_shape.specs.declared.shape.Shape.{Shape}
use Rattle.isg_lists.specs.Lines.{AreLines}
use Rattle.isg_lists.specs.Masks.{AreMasks}
use Rattle.isg_lists.specs.declared.lines.Lines.{Lines}
use Rattle.isg_lists.specs.declared.masks.Masks.{Masks}
use Rattle.isg_nodes.specs.declared.node.Node.{Node}
use Rattle.isg_nodes.specs.Written.{action}
use Rattle.isg_places.specs.Places.{act_reads, act_writes}
use Rattle.isg_places.specs.Spots.{AreSpots, named}
use Rattle.isg_places.specs.declared.place.Spot.{Spot}
use Rattle.isg_graph.specs.Graph.{AreFor, IsQuiet}

-- of each shape whether none of its instructions can clash, and the shapes by their masks and by their lines
pub record IsKept (d : Desc) (shapes : List Shape) (quiet : List Bool) (masks : Masks) (lines : Lines) : Type 0 where
  pub quiet_are : AreFor (IsQuiet d) shapes quiet
  pub masks_are : AreMasks shapes masks
  pub lines_are : AreLines shapes lines

-- the spots name the cells that an effect's action names as read, and as written
abbrev pub AreReads : List Node → List ℕ → List Spot → Type 0
AreReads nodes effect spots = AreSpots nodes spots × (map (named nodes) spots ≡ act_reads (action nodes effect))

abbrev pub AreWrites : List Node → List ℕ → List Spot → Type 0
AreWrites nodes effect spots = AreSpots nodes spots × (map (named nodes) spots ≡ act_writes (action nodes effect))

-- so those of each effect
pub record AreNamed (nodes : List Node) (effects : List (List ℕ)) (reads writes : List (List Spot)) : Type 0 where
  pub reads_are : AreFor (AreReads nodes) effects reads
  pub writes_are : AreFor (AreWrites nodes) effects writes

-- The machine, the shapes and the patterns of a description that has a target.
use Rattle.std.specs.Prelude.{ℕ, ◌≡◌, List}
use Rattle.nml_tree.specs.declared.tree.Desc.{Desc}
use Rattle.nml_tree.specs.Table.{table}
use Rattle.nml_tree.specs.Shapes.{AreShapes}
use Rattle.pat_core.specs.Described.{machine_of}
use Rattle.pat_core.specs.Slots.{AreShapesOf}
use Rattle.pat_core.specs.Patterns.{patterns}
use Rattle.pat_core.specs.Isa.{Isa}

-- they are those of the description: all its shapes in order, and all their patterns in order
pub record IsIsa (d : Desc) (isa : Isa) : Type 0 where
  pub lists : List (List ℕ)
  pub all : AreShapes (table d) lists
  pub machine_is : isa.machine ≡ machine_of d
  pub shapes_are : AreShapesOf (table d) lists isa.shapes
  pub patterns_are : isa.patterns ≡ patterns isa.machine 0 isa.shapes
